-- `Sequence` as a type former for recursive types: its members, in order.
use mathlib.Core.Path.{◌≡◌, refl, sym}
use mathlib.Core.List.{List, []}
use mathlib.Core.Former.{Former, this, list, via, children}
use base.Stored.{code_map}
use denote.RattleType.{RattleType}
use denote.HoleLaws.{Alike}
use denote.HolePlaces.{Recodes, struct_places, laid}
use denote.Hole.Carrier.{listed, list-listed}
use denote.Hole.Fix.{over}
use denote.Param.Weighed.{Weighed, w_list}
use denote.Model.Placed.{view_places}
use Rattle.std.specs.formers.vec.Vec as vec
use Rattle.std.specs.declared.alloc.Global.{Global}
use Rattle.std.specs.contracts.alloc.Global as global
use Rattle.std.specs.contracts.impls.GlobalAllocator.TheImpl.{ghosts}
use Rattle.hippo_values.specs.declared.sequence.Sequence.TheInside.{Inside}
use Rattle.hippo_values.specs.declared.sequence.Sequence.TheView.{view, invariant}
use Rattle.hippo_values.specs.contracts.sequence.Sequence as row
use Rattle.hippo_values.specs.contracts.sequence.Sequence.TheInside as inside

abbrev pub the_former : Former {0} → Former {0}
the_former member = list member

abbrev pub the_weighed : {member : Former {0}} → Weighed member → Weighed (the_former member)
the_weighed weighed = w_list weighed

pub the_empty : List ⊥
the_empty = []

abbrev pub the_items : (X : Type 0) → List X → List X
the_items X members = members

pub the_items_listed : (X : Type 0) (members : List X)
    → listed _ (children (the_former this) X members) ≡ the_items X members
the_items_listed X members = list-listed X members

abbrev in_fields : Former {0}
in_fields =
    via (vec.the_former this Global) Inside (λ X fields. fields.members)
    (λ X held. record { members = held }) (λ X fields. refl) (λ X held. refl)

module _ (R S : RattleType) (h : R.Denot → S.Denot) where
  pub the_places : Alike R S h → Alike (row.the_row R) (row.the_row S)
      ((the_former this).map R.Denot S.Denot h)
  the_places alike = view_places in_fields (list this) view (λ X Y k u. refl)
      (λ X u. refl) R.Denot S.Denot h (row.the_row R).coded (row.the_row S).coded
      (invariant R.Denot) (invariant S.Denot) (λ u p q. refl) (λ u p q. refl) (λ u e. tt)
      (λ u e. tt)
      (over (inside.the_row R)) (over (inside.the_row S))
      (struct_places (inside.the_type R) (inside.the_type S) (vec.mapped h, tt) _
      (λ d. refl) refl (laid _ _ _ (vec.the_places global.the_row ghosts R S h alike), tt))

  pub the_codes_placed : Recodes R S h → Recodes (row.the_row R) (row.the_row S)
      ((the_former this).map R.Denot S.Denot h)
  the_codes_placed recodes members = sym
      (code_map R.coded.code S.coded.code h (λ x. sym (recodes x)) members)
