-- What each kind of condition compares, given what its parts compare.
use Rattle.std.proofs.Common.{◌≡◌, List, [], ◌∷◌, ◌++◌, map, refl, ap, ◌∙◌}
use Rattle.std.specs.Prelude.{Bool, ◌||◌, false, true}
use Rattle.std.specs.List.{flat_map, list_any}
use Rattle.std.proofs.lemmas.Grind.{flat_map-append}
use Rattle.std.proofs.Math.Bool.{or-false}
use Rattle.hippo_values.specs.declared.truths.CompareOp.{CompareOp}
use Rattle.hippo_model.specs.declared.query.CondOf.{CondOf}
use Rattle.hippo_model.specs.declared.query.CondOf.TheVariants.{All, Any, Not, Compare, Between, Among, Missing}
use Rattle.hippo_model.proofs.FoldedConditions.{folded-All, folded-Any, folded-Not, folded-Compare, folded-Between, folded-Among, folded-Missing}
use Rattle.hippo_typing_catalog.specs.Comparisons.{comparisons_layer, comparisons}

or_with : (t a b c : Bool) → a ≡ (b || c) → (t || a) ≡ ((t || b) || c)
or_with true a b c e = refl
or_with false a b c e = e

module _ {O : Type 0} where
  -- what is gathered from the comparisons of several conditions
  pub gathered_parts : {A : Type 0} (gather : List O → List A) (parts : List (CondOf O)) → flat_map gather (flat_map (λ lists. lists) (map comparisons parts)) ≡ flat_map (λ part. flat_map gather (comparisons part)) parts
  gathered_parts gather [] = refl
  gathered_parts gather (first ∷ rest) =
      flat_map-append gather (comparisons first) (flat_map (λ lists. lists) (map comparisons rest)) ∙ ap (λ l. flat_map gather (comparisons first) ++ l) (gathered_parts gather rest)

  -- whether a comparison of a condition passes a test
  module _ (test : List O → Bool) where
    any-append : (xs ys : List (List O)) → list_any test (xs ++ ys) ≡ (list_any test xs || list_any test ys)
    any-append [] ys = refl
    any-append (x ∷ xs) ys = or_with (test x) (list_any test (xs ++ ys)) (list_any test xs) (list_any test ys) (any-append xs ys)

    any_of_parts : (parts : List (CondOf O)) → list_any test (flat_map (λ lists. lists) (map comparisons parts)) ≡ list_any (λ part. list_any test (comparisons part)) parts
    any_of_parts [] = refl
    any_of_parts (first ∷ rest) = any-append (comparisons first) (flat_map (λ lists. lists) (map comparisons rest)) ∙ ap (λ b. list_any test (comparisons first) || b) (any_of_parts rest)

    pub any-All : (parts : List (CondOf O)) → list_any test (comparisons (All parts)) ≡ list_any (λ part. list_any test (comparisons part)) parts
    any-All parts = ap (list_any test) (folded-All comparisons_layer parts) ∙ any_of_parts parts

    pub any-Any : (parts : List (CondOf O)) → list_any test (comparisons (Any parts)) ≡ list_any (λ part. list_any test (comparisons part)) parts
    any-Any parts = ap (list_any test) (folded-Any comparisons_layer parts) ∙ any_of_parts parts

    pub any-Not : (part : CondOf O) → list_any test (comparisons (Not part)) ≡ list_any test (comparisons part)
    any-Not part = ap (list_any test) (folded-Not comparisons_layer part)

    pub any-Compare : (op : CompareOp) (left right : O) → list_any test (comparisons (Compare op left right)) ≡ test (left ∷ right ∷ [])
    any-Compare op left right = ap (list_any test) (folded-Compare comparisons_layer op left right) ∙ or-false (test (left ∷ right ∷ []))

    pub any-Between : (operand low high : O) → list_any test (comparisons (Between operand low high)) ≡ test (operand ∷ low ∷ high ∷ [])
    any-Between operand low high = ap (list_any test) (folded-Between comparisons_layer operand low high) ∙ or-false (test (operand ∷ low ∷ high ∷ []))

    pub any-Among : (operand : O) (list : List O) → list_any test (comparisons (Among operand list)) ≡ test (operand ∷ list)
    any-Among operand list = ap (list_any test) (folded-Among comparisons_layer operand list) ∙ or-false (test (operand ∷ list))

    pub any-Missing : (operand : O) → list_any test (comparisons (Missing operand)) ≡ test (operand ∷ [])
    any-Missing operand = ap (list_any test) (folded-Missing comparisons_layer operand) ∙ or-false (test (operand ∷ []))

pub ruleset any_comparison = (any-All, any-Any, any-Not, any-Compare, any-Between, any-Among, any-Missing)
