-- A condition whose columns are known has the same truth in each combination with the chosen rows.
use Rattle.std.proofs.Common.{◌≡◌, Bool, true, ◌&&◌, List, [], ◌∷◌, map, refl, sym, ap, subst, ◌∙◌, Option}
use Rattle.std.specs.List.{list_all}
use Rattle.std.proofs.lemmas.Bool.{and_parts}
use Rattle.hippo_values.specs.declared.values.Value.{Value}
use Rattle.hippo_values.specs.declared.truths.Truth.{Truth}
use Rattle.hippo_values.specs.declared.truths.CompareOp.{CompareOp}
use Rattle.hippo_values.specs.declared.truths.CompareOp.TheVariants.{Eq, Ge, Le}
use Rattle.hippo_values.specs.Truths.{truth_and, truth_or, truth_not, truth_of, comparison}
use Rattle.hippo_model.specs.declared.query.Expr.{Expr}
use Rattle.hippo_model.specs.declared.query.CondOf.{CondOf, CondOf-F, fold-roll-CondOf, roll-CondOf, map-CondOf, ind-CondOf}
use Rattle.hippo_model.specs.declared.query.CondOf.TheOpen.{All, Any, Not, Compare, Between, Among, Missing}
use Rattle.hippo_model.specs.declared.query.CondOf.TheVariants as conditions
use Rattle.hippo_model.specs.declared.query.CondOf.TheVariants.{rolls-All, rolls-Any, rolls-Not, rolls-Compare, rolls-Between, rolls-Among, rolls-Missing}
use Rattle.hippo_model.specs.Conditions.{least, greatest, truth_layer, truth, is_null}
use Rattle.hippo_model.specs.Terms.{Place}
use Rattle.hippo_join_lookups.specs.Known.{knows_expr, knows_layer, knows}

module _ (slots : List (Option Place)) where
  by_layer : (d : CondOf-F Expr (CondOf Expr)) (condition : CondOf Expr) → roll-CondOf Expr d ≡ condition → knows slots condition ≡ knows_layer slots (map-CondOf Expr (CondOf Expr) Bool (knows slots) d)
  by_layer d condition made = ap (knows slots) (sym made) ∙ fold-roll-CondOf Expr Bool (knows_layer slots) d

  all_of : (parts : List (CondOf Expr)) → list_all (λ part. part) (map (knows slots) parts) ≡ list_all (knows slots) parts
  all_of [] = refl
  all_of (part ∷ parts) = ap (λ b. knows slots part && b) (all_of parts)

  pub knows-All : (parts : List (CondOf Expr)) → knows slots (conditions.All parts) ≡ list_all (knows slots) parts
  knows-All parts = by_layer (All parts) (conditions.All parts) (rolls-All parts) ∙ all_of parts

  pub knows-Any : (parts : List (CondOf Expr)) → knows slots (conditions.Any parts) ≡ list_all (knows slots) parts
  knows-Any parts = by_layer (Any parts) (conditions.Any parts) (rolls-Any parts) ∙ all_of parts

  pub knows-Not : (part : CondOf Expr) → knows slots (conditions.Not part) ≡ knows slots part
  knows-Not part = by_layer (Not part) (conditions.Not part) (rolls-Not part)

  pub knows-Compare : (op : CompareOp) (left right : Expr) → knows slots (conditions.Compare op left right) ≡ (knows_expr slots left && knows_expr slots right)
  knows-Compare op left right = by_layer (Compare op left right) (conditions.Compare op left right) (rolls-Compare op left right)

  pub knows-Between : (value low high : Expr) → knows slots (conditions.Between value low high) ≡ (knows_expr slots value && (knows_expr slots low && knows_expr slots high))
  knows-Between value low high = by_layer (Between value low high) (conditions.Between value low high) (rolls-Between value low high)

  pub knows-Among : (value : Expr) (list : List Expr) → knows slots (conditions.Among value list) ≡ (knows_expr slots value && list_all (knows_expr slots) list)
  knows-Among value list = by_layer (Among value list) (conditions.Among value list) (rolls-Among value list)

  pub knows-Missing : (value : Expr) → knows slots (conditions.Missing value) ≡ knows_expr slots value
  knows-Missing value = by_layer (Missing value) (conditions.Missing value) (rolls-Missing value)

pub ruleset knowledge = (knows-All, knows-Any, knows-Not, knows-Compare, knows-Between, knows-Among, knows-Missing)

-- two readings that agree on each known expression
module _ (slots : List (Option Place)) (read other : Expr → Value) (agree : (expr : Expr) → knows_expr slots expr ≡ true → read expr ≡ other expr) where
  abbrev Agrees : CondOf Expr → Type 0
  Agrees condition = knows slots condition ≡ true → truth read condition ≡ truth other condition

  abbrev Agreeing : Type 0
  Agreeing = (condition : CondOf Expr) × Agrees condition

  abbrev parts_of : List Agreeing → List (CondOf Expr)
  parts_of parts = map (λ part. part.0) parts

  least_agrees : (parts : List Agreeing) → list_all (λ part. part) (map (knows slots) (parts_of parts)) ≡ true → least (map (truth read) (parts_of parts)) ≡ least (map (truth other) (parts_of parts))
  least_agrees [] known = refl
  least_agrees (part ∷ parts) known =
      let both = and_parts (knows slots part.0) (list_all (λ part. part) (map (knows slots) (parts_of parts))) known in
      λ i. truth_and (part.1 both.0 i) (least_agrees parts both.1 i)

  greatest_agrees : (parts : List Agreeing) → list_all (λ part. part) (map (knows slots) (parts_of parts)) ≡ true → greatest (map (truth read) (parts_of parts)) ≡ greatest (map (truth other) (parts_of parts))
  greatest_agrees [] known = refl
  greatest_agrees (part ∷ parts) known =
      let both = and_parts (knows slots part.0) (list_all (λ part. part) (map (knows slots) (parts_of parts))) known in
      λ i. truth_or (part.1 both.0 i) (greatest_agrees parts both.1 i)

  members_agree : (value : Expr) → read value ≡ other value → (list : List Expr) → list_all (knows_expr slots) list ≡ true → greatest (map (λ member. comparison Eq (read value) (read member)) list) ≡ greatest (map (λ member. comparison Eq (other value) (other member)) list)
  members_agree value e [] known = refl
  members_agree value e (member ∷ list) known =
      let both = and_parts (knows_expr slots member) (list_all (knows_expr slots) list) known in
      λ i. truth_or (comparison Eq (e i) (agree member both.0 i)) (members_agree value e list both.1 i)

  abbrev plain_layer : CondOf-F Expr Agreeing → CondOf-F Expr (CondOf Expr)
  plain_layer layer = map-CondOf Expr Agreeing (CondOf Expr) (λ part. part.0) layer

  -- one layer of a condition, whose parts agree
  layer_agrees : (layer : CondOf-F Expr Agreeing) → knows_layer slots (map-CondOf Expr (CondOf Expr) Bool (knows slots) (plain_layer layer)) ≡ true
      → truth_layer read (map-CondOf Expr (CondOf Expr) Truth (truth read) (plain_layer layer)) ≡ truth_layer other (map-CondOf Expr (CondOf Expr) Truth (truth other) (plain_layer layer))
  layer_agrees (All parts) known = least_agrees parts known
  layer_agrees (Any parts) known = greatest_agrees parts known
  layer_agrees (Not part) known = ap truth_not (part.1 known)
  layer_agrees (Compare op left right) known =
      let both = and_parts (knows_expr slots left) (knows_expr slots right) known in
      λ i. comparison op (agree left both.0 i) (agree right both.1 i)
  layer_agrees (Between value low high) known =
      let first = and_parts (knows_expr slots value) (knows_expr slots low && knows_expr slots high) known in
      let both = and_parts (knows_expr slots low) (knows_expr slots high) first.1 in
      λ i. truth_and (comparison Ge (agree value first.0 i) (agree low both.0 i)) (comparison Le (agree value first.0 i) (agree high both.1 i))
  layer_agrees (Among value list) known =
      let both = and_parts (knows_expr slots value) (list_all (knows_expr slots) list) known in
      members_agree value (agree value both.0) list both.1
  layer_agrees (Missing value) known = ap (λ v. truth_of (is_null v)) (agree value known)

  rolled_agrees : (layer : CondOf-F Expr Agreeing) → Agrees (roll-CondOf Expr (plain_layer layer))
  rolled_agrees layer known =
      fold-roll-CondOf Expr Truth (truth_layer read) (plain_layer layer)
      ∙ layer_agrees layer (sym (fold-roll-CondOf Expr Bool (knows_layer slots) (plain_layer layer)) ∙ known)
      ∙ sym (fold-roll-CondOf Expr Truth (truth_layer other) (plain_layer layer))

  pub truth-known : (condition : CondOf Expr) → Agrees condition
  truth-known = ind-CondOf Expr Agrees (λ layer parts is. subst (λ (plain : CondOf-F Expr (CondOf Expr)). Agrees (roll-CondOf Expr plain)) is (rolled_agrees parts))
