-- A condition on one table's columns has the same truth whichever of two readings values them.
use Rattle.std.proofs.Common.{◌≡◌, Bool, true, List, [], ◌∷◌, map, refl, sym, ap, subst, ◌∙◌}
use Rattle.std.specs.Prelude.{flat_map, ◌&&◌}
use Rattle.std.specs.List.{list_all}
use Rattle.std.proofs.lemmas.Bool.{and_parts}
use Rattle.std.proofs.lemmas.List.Folds.{list_all-append}
use Rattle.std.proofs.lemmas.List.Concat.{flat_map-cons}
use Rattle.hippo_values.specs.declared.values.Value.{Value}
use Rattle.hippo_values.specs.declared.truths.Truth.{Truth}
use Rattle.hippo_values.specs.declared.truths.CompareOp.TheVariants.{Eq, Le, Ge}
use Rattle.hippo_values.specs.Truths.{truth_and, truth_or, truth_not, truth_of, comparison}
use Rattle.hippo_model.specs.declared.query.CondOf.{CondOf, CondOf-F, fold-roll-CondOf, roll-CondOf, map-CondOf, ind-CondOf}
use Rattle.hippo_model.specs.declared.query.CondOf.TheOpen.{All, Any, Not, Compare, Between, Among, Missing}
use Rattle.hippo_model.specs.declared.query.Operand.{Operand}
use Rattle.hippo_model.specs.declared.query.Ref.{Ref}
use Rattle.hippo_model.specs.Conditions.{least, greatest, is_null, operands, operands_layer, truth_layer, truth}
use Rattle.hippo_model.specs.Columns.{columns_in, condition_columns}

-- two readings that agree on each operand whose columns all pass a test
module _ (is_own : Ref → Bool) (read other : Operand → Value) (agree : (operand : Operand) → list_all is_own (columns_in operand) ≡ true → read operand ≡ other operand) where
  abbrev owns : Operand → Bool
  owns operand = list_all is_own (columns_in operand)

  abbrev Agrees : CondOf Operand → Type 0
  Agrees condition = list_all owns (operands condition) ≡ true → truth read condition ≡ truth other condition

  abbrev Agreeing : Type 0
  Agreeing = (condition : CondOf Operand) × Agrees condition

  abbrev parts_of : List Agreeing → List (CondOf Operand)
  parts_of parts = map (λ part. part.0) parts

  abbrev own_parts : List Agreeing → Type 0
  own_parts parts = list_all owns (flat_map (λ (lists : List Operand). lists) (map operands (parts_of parts))) ≡ true

  -- the operands of the first part, and of those that follow
  first_own : (part : Agreeing) (parts : List Agreeing) → own_parts (part ∷ parts) → (list_all owns (operands part.0) ≡ true) × own_parts parts
  first_own part parts own =
      let later = flat_map (λ (lists : List Operand). lists) (map operands (parts_of parts)) in
      and_parts (list_all owns (operands part.0)) (list_all owns later)
      (sym (list_all-append owns (operands part.0) later)
      ∙ sym (ap (list_all owns) (flat_map-cons (λ (lists : List Operand). lists) (operands part.0) (map operands (parts_of parts))))
      ∙ own)

  least_agrees : (parts : List Agreeing) → own_parts parts → least (map (truth read) (parts_of parts)) ≡ least (map (truth other) (parts_of parts))
  least_agrees [] own = refl
  least_agrees (part ∷ parts) own =
      let both = first_own part parts own in
      λ i. truth_and (part.1 both.0 i) (least_agrees parts both.1 i)

  greatest_agrees : (parts : List Agreeing) → own_parts parts → greatest (map (truth read) (parts_of parts)) ≡ greatest (map (truth other) (parts_of parts))
  greatest_agrees [] own = refl
  greatest_agrees (part ∷ parts) own =
      let both = first_own part parts own in
      λ i. truth_or (part.1 both.0 i) (greatest_agrees parts both.1 i)

  members_agree : (operand : Operand) → read operand ≡ other operand → (list : List Operand) → list_all owns list ≡ true
      → greatest (map (λ member. comparison Eq (read operand) (read member)) list) ≡ greatest (map (λ member. comparison Eq (other operand) (other member)) list)
  members_agree operand e [] own = refl
  members_agree operand e (member ∷ list) own =
      let both = and_parts (owns member) (list_all owns list) own in
      λ i. truth_or (comparison Eq (e i) (agree member both.0 i)) (members_agree operand e list both.1 i)

  abbrev plain_layer : CondOf-F Operand Agreeing → CondOf-F Operand (CondOf Operand)
  plain_layer layer = map-CondOf Operand Agreeing (CondOf Operand) (λ part. part.0) layer

  -- one layer whose parts agree
  layer_agrees : (layer : CondOf-F Operand Agreeing) → list_all owns (operands_layer (map-CondOf Operand (CondOf Operand) (List Operand) operands (plain_layer layer))) ≡ true
      → truth_layer read (map-CondOf Operand (CondOf Operand) Truth (truth read) (plain_layer layer)) ≡ truth_layer other (map-CondOf Operand (CondOf Operand) Truth (truth other) (plain_layer layer))
  layer_agrees (All parts) own = least_agrees parts own
  layer_agrees (Any parts) own = greatest_agrees parts own
  layer_agrees (Not part) own = ap truth_not (part.1 own)
  layer_agrees (Compare op left right) own =
      let both = and_parts (owns left) (list_all owns (right ∷ [])) own in
      let last = and_parts (owns right) true both.1 in
      λ i. comparison op (agree left both.0 i) (agree right last.0 i)
  layer_agrees (Between operand low high) own =
      let both = and_parts (owns operand) (list_all owns (low ∷ high ∷ [])) own in
      let bounds = and_parts (owns low) (list_all owns (high ∷ [])) both.1 in
      let last = and_parts (owns high) true bounds.1 in
      λ i. truth_and (comparison Ge (agree operand both.0 i) (agree low bounds.0 i)) (comparison Le (agree operand both.0 i) (agree high last.0 i))
  layer_agrees (Among operand list) own =
      let both = and_parts (owns operand) (list_all owns list) own in
      members_agree operand (agree operand both.0) list both.1
  layer_agrees (Missing operand) own =
      let both = and_parts (owns operand) true own in
      ap (λ v. truth_of (is_null v)) (agree operand both.0)

  rolled_agrees : (layer : CondOf-F Operand Agreeing) → Agrees (roll-CondOf Operand (plain_layer layer))
  rolled_agrees layer own =
      fold-roll-CondOf Operand Truth (truth_layer read) (plain_layer layer)
      ∙ layer_agrees layer (sym (ap (list_all owns) (fold-roll-CondOf Operand (List Operand) operands_layer (plain_layer layer))) ∙ own)
      ∙ sym (fold-roll-CondOf Operand Truth (truth_layer other) (plain_layer layer))

  operands_own : (list : List Operand) → list_all is_own (flat_map columns_in list) ≡ list_all owns list
  operands_own [] = refl
  operands_own (first ∷ rest) =
      ap (list_all is_own) (flat_map-cons columns_in first rest)
      ∙ list_all-append is_own (columns_in first) (flat_map columns_in rest)
      ∙ ap (λ b. owns first && b) (operands_own rest)

  -- a condition whose columns all pass the test has the same truth in both readings
  pub truth-own : (condition : CondOf Operand) → list_all is_own (condition_columns condition) ≡ true → truth read condition ≡ truth other condition
  truth-own condition own =
      ind-CondOf Operand Agrees (λ layer parts is. subst (λ (plain : CondOf-F Operand (CondOf Operand)). Agrees (roll-CondOf Operand plain)) is (rolled_agrees parts))
      condition
      (sym (operands_own (operands condition)) ∙ own)
