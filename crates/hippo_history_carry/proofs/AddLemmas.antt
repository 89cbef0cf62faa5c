-- One more matter that is decided.
use Rattle.std.proofs.Common.{◌≡◌, ◌∙◌, ℕ, Bool, true, false, cond, ◌&&◌, ◌||◌, List, [], ◌∷◌, ◌++◌, refl, sym, ap}
use Rattle.std.specs.Prelude.{nat_eq, bytes_eq}
use Rattle.std.specs.List.{list_any}
use Rattle.std.proofs.lemmas.Cmp.{nat_eq_equiv}
use Rattle.std.proofs.lemmas.List.Folds.{list_any-append}
use Rattle.indexmap.specs.IndexSet.{contains}
use Rattle.hippo_values.specs.declared.names.Name.{Name}
use Rattle.hippo_model.specs.Terms.{Place}
use Rattle.hippo_history_carry.specs.declared.decided.Decided.{Decided}
use Rattle.hippo_history_carry.specs.Decisions.{is_ruled_in, AddsCells}

pub cond_or : (test found : Bool) → cond test true found ≡ (test || found)
cond_or true found = refl
cond_or false found = refl

or_nothing : (test : Bool) → (test || false) ≡ test
or_nothing true = refl
or_nothing false = refl

-- a column as the only one of a list
pub alone : (column c : Place) → nat_eq column c ≡ list_any (nat_eq c) (column ∷ [])
alone column c = nat_eq_equiv.symm column c ∙ sym (or_nothing (nat_eq c column))

-- the tests of a rule on some columns, and then of one on more of them
both_rules : (p r t front back found : Bool) → ((p && (r && (t && back))) || ((p && (r && (t && front))) || found)) ≡ ((p && (r && (t && (front || back)))) || found)
both_rules true true true true true found = refl
both_rules true true true true false found = refl
both_rules true true true false true found = refl
both_rules true true true false false found = refl
both_rules true true false front back found = refl
both_rules true false t front back found = refl
both_rules false r t front back found = refl

module _ (first middle last : Decided) (purpose recipient table : Name) (front back : List Place) where
  pub adds_both : AddsCells first middle purpose recipient table front → AddsCells middle last purpose recipient table back → AddsCells first last purpose recipient table (front ++ back)
  adds_both one other = record {
    cells = λ p r t c. other.cells p r t c
        ∙ ap (λ (found : Bool). (bytes_eq purpose p && (bytes_eq recipient r && (bytes_eq table t && list_any (nat_eq c) back))) || found) (one.cells p r t c)
        ∙ both_rules (bytes_eq purpose p) (bytes_eq recipient r) (bytes_eq table t) (list_any (nat_eq c) front) (list_any (nat_eq c) back) (is_ruled_in first p r t c)
        ∙ ap (λ (any : Bool). (bytes_eq purpose p && (bytes_eq recipient r && (bytes_eq table t && any))) || is_ruled_in first p r t c) (sym (list_any-append (nat_eq c) front back));
    others = (other.others.0 ∙ one.others.0, other.others.1 ∙ one.others.1, other.others.2 ∙ one.others.2);
  }

-- a rule on no column
never : (p r t found : Bool) → found ≡ ((p && (r && (t && false))) || found)
never true true true found = refl
never true true false found = refl
never true false t found = refl
never false r t found = refl

pub adds_none : (decided : Decided) (purpose recipient table : Name) → AddsCells decided decided purpose recipient table []
adds_none decided purpose recipient table = record {
  cells = λ p r t c. never (bytes_eq purpose p) (bytes_eq recipient r) (bytes_eq table t) (is_ruled_in decided p r t c);
  others = (refl, refl, refl);
}
