-- Lists of literals that restrict a column.
use Rattle.std.proofs.Common.{◌≡◌, ℕ, zero, suc, ◌+◌, ◌<◌, ◌≤◌, ◌⊎◌, inl, inr, true, false, List, [], ◌∷◌, map, length, get_or, refl, sym, ap, subst, ◌∙◌, Some, arith, Bool}
use Rattle.std.specs.List.{list_all, Contains}
use Rattle.std.proofs.lemmas.Bool.{and_parts, cases_lt, false≢true}
use Rattle.hippo_values.specs.declared.values.Value.{Value}
use Rattle.hippo_values.specs.declared.truths.Truth.{Truth}
use Rattle.hippo_values.specs.declared.truths.Truth.TheVariants.{False, Unknown, True}
use Rattle.hippo_values.specs.declared.truths.CompareOp.TheVariants.{Eq}
use Rattle.hippo_values.specs.Truths.{truth_or, comparison, is_allowed}
use Rattle.hippo_model.specs.declared.query.CondOf.TheVariants as conditions
use Rattle.hippo_model.specs.declared.query.Expr.{Expr}
use Rattle.hippo_model.specs.declared.query.Expr.TheVariants.{Keep, Null, Aged, Case, Literal}
use Rattle.hippo_model.specs.declared.query.Ref.{Ref}
use Rattle.hippo_model.specs.Terms.{Combination, Place}
use Rattle.hippo_tables_keyed.specs.RowSets.{KeyedRows}
use Rattle.hippo_model.specs.Conditions.{greatest, is_true, is_null}
use Rattle.hippo_model.specs.Masking.{Choices}
use Rattle.hippo_model.proofs.Truths.{truth-Among}
use Rattle.hippo_model.specs.MaskedTruth.{masked_value}
use Rattle.hippo_join_lookups.specs.Lists.{is_literal, IsListedBy}
use Rattle.hippo_join_lookups.specs.Lookups.{value_at_place}
use Rattle.hippo_join_lookups.specs.Ties.{shown_column, holds}
use Rattle.hippo_join_lookups.proofs.PartLemmas.{equal-values, column-value}
use Rattle.std.specs.declared.cmp.Ordering.TheVariants.{Equal}
use Rattle.std.proofs.lemmas.Cmp.{tied_itself}
use Rattle.hippo_values.specs.Order.{value_cmp}
use Rattle.hippo_values.specs.OrderLaws.{value_total}
use Rattle.hippo_tables_rows.specs.declared.ranges.Bound.{Bound}
use Rattle.hippo_tables_rows.specs.Ranges.{bounding}

one_true : (a b : Truth) → is_true (truth_or a b) ≡ true → (is_true a ≡ true) ⊎ (is_true b ≡ true)
one_true False b e = inr e
one_true Unknown False e = absurd (false≢true e)
one_true Unknown Unknown e = absurd (false≢true e)
one_true Unknown True e = inr refl
one_true True b e = inl refl

Contains-next : (first : Expr) (rest : List Expr) (item : Expr) → Contains rest item → Contains (first ∷ rest) item
Contains-next first rest item has = let within = has.1 in (suc has.0, omega (arith, within), has.2)

module _ (choices : Choices) (rows : Combination) where
  abbrev equal_to : Value → List Expr → List Truth
  equal_to left list = map (λ item. comparison Eq left (masked_value choices rows item)) list

  -- a value that equals one of some literals is among them, and is not null
  among : (left : Value) (list : List Expr) → list_all is_literal list ≡ true → is_true (greatest (equal_to left list)) ≡ true → (is_null left ≡ false) × Contains list (Literal left)
  among left [] literals e = absurd (false≢true e)
  among left (Keep column ∷ rest) literals e = absurd (false≢true literals)
  among left (Null rule ∷ rest) literals e = absurd (false≢true literals)
  among left (Aged column rule after ∷ rest) literals e = absurd (false≢true literals)
  among left (Case column subject item rule opt_in after ∷ rest) literals e = absurd (false≢true literals)
  among left (Literal value ∷ rest) literals e = elim (one_true (comparison Eq left value) (greatest (equal_to left rest)) e) [
    | inl first ↦
        let equal = equal-values left value first in
        (ap is_null equal.0 ∙ equal.1, (0, omega arith, ap Literal (sym equal.0)))
    | inr later ↦
        let found = among left rest literals later in
        (found.0, Contains-next (Literal value) rest (Literal left) found.1)
  ]

-- a list of literals that restricts a column
pub among-listed : (value : Expr) (list : List Expr) (column : Ref) → shown_column value ≡ Some column → list_all is_literal list ≡ true → IsListedBy (conditions.Among value list ∷ []) column list
among-listed value list column is literals choices rows all =
    let of = masked_value choices rows in
    let part = (and_parts (holds choices rows (conditions.Among value list)) true all).0 in
    let found = among choices rows (of value) list literals (sym (ap is_true (truth-Among of value list)) ∙ part) in
    subst (λ (v : Value). Contains list (Literal v)) (column-value choices rows value column is found.0) found.1

-- ---- the places found by the items so far

abbrev pub AreListed : KeyedRows → Place → List Expr → ℕ → List Place → Type 0
AreListed set column list count found =
    (place : Place) → place < length set.rows → (k : ℕ) → k < count → (other : Expr) → get_or list k other ≡ Literal (value_at_place set column place) → Contains found place

pub listed-more : (set : KeyedRows) (column : Place) (list : List Expr) (k : ℕ) (item : Expr) (found later : List Place) → k < length list → item ≡ get_or list k item
    → ((place : Place) → Contains found place → Contains later place)
    → ((place : Place) → place < length set.rows → item ≡ Literal (value_at_place set column place) → Contains later place)
    → AreListed set column list k found → AreListed set column list (k + 1) later
listed-more set column list k item found later inside at stay added so_far place within i lower other is = elim (cases_lt i k) [
  | inl before ↦ stay place (so_far place within i before other is)
  | inr last ↦
      let one : i ≡ k = omega arith in
      added place within (at ∙ get_or_other list k item other inside ∙ ap (λ j. get_or list j other) (sym one) ∙ is)
]
  where
    get_or_other : (xs : List Expr) (j : ℕ) (d e : Expr) → j < length xs → get_or xs j d ≡ get_or xs j e
    get_or_other [] j d e within = absurd (omega arith)
    get_or_other (x ∷ xs) zero d e within = refl
    get_or_other (x ∷ xs) (suc j) d e within = get_or_other xs j d e (omega arith)

pub all-listed : (set : KeyedRows) (column : Place) (list : List Expr) (count : ℕ) (found : List Place) → length list ≤ count → AreListed set column list count found
    → (place : Place) → place < length set.rows → Contains list (Literal (value_at_place set column place)) → Contains found place
all-listed set column list count found long so_far place within has =
    let inside = has.1 in
    so_far place within has.0 (omega (arith, inside, long)) (Literal (value_at_place set column place)) has.2

-- a value equal to an inclusive bound is within it
pub allows_equal : (above : Bool) → is_allowed (bounding above false) Equal ≡ true
allows_equal false = refl
allows_equal true = refl

-- a value is within the bounds at itself
pub keeps-equal : (above : Bool) (bound : Bound) (value other : Value) → bound.value.now ≡ value → bound.strict ≡ false → value ≡ other → is_allowed (bounding above bound.strict) (value_cmp other bound.value.now) ≡ true
keeps-equal above bound value other at strict is =
    ap (λ (s : Bool). is_allowed (bounding above s) (value_cmp other bound.value.now)) strict ∙ ap (λ (v : Value). is_allowed (bounding above false) (value_cmp other v)) (at ∙ is)
    ∙ ap (is_allowed (bounding above false)) (tied_itself value_total other) ∙ allows_equal above
