-- What equal cells have in common, and the two sides of an equality.
use Rattle.std.proofs.Common.{◌≡◌, ℕ, ◌<◌, Bool, true, false, List, [], ◌∷◌, length, refl, sym, ap, subst, ◌∙◌, get_or, Some, zero, suc, arith}
use Rattle.std.specs.List.{list_all}
use Rattle.std.specs.Ordering.{is_eq, int_cmp, nat_cmp}
use Rattle.std.specs.declared.cmp.Ordering.{Ordering}
use Rattle.std.specs.declared.cmp.Ordering.TheVariants.{Less, Equal, Greater}
use Rattle.std.specs.Cmp.Lexicographic.{slice_cmp}
use Rattle.std.specs.FinMap.{slice_cmp-IsAntisymmetric, int_cmp-IsAntisymmetric, nat_cmp-IsAntisymmetric}
use Rattle.std.proofs.lemmas.Bool.{and_parts, and_from, false≢true}
use Rattle.hippo_values.specs.declared.values.Value.{Value}
use Rattle.hippo_values.specs.declared.values.Value.TheVariants.{Int, Text, Day}
use Rattle.hippo_values.specs.declared.truths.CompareOp.TheVariants.{Eq}
use Rattle.hippo_values.specs.Truths.{truth_of, comparison}
use Rattle.hippo_model.specs.declared.query.CondOf.{CondOf}
use Rattle.hippo_model.specs.declared.query.CondOf.TheVariants as conditions
use Rattle.hippo_model.specs.declared.query.Expr.{Expr}
use Rattle.hippo_model.specs.declared.query.Expr.TheVariants.{Keep, Null, Aged, Case, Literal}
use Rattle.hippo_model.specs.declared.query.Ref.{Ref}
use Rattle.hippo_model.specs.Terms.{Combination, Place}
use Rattle.hippo_model.specs.Conditions.{is_true, is_null}
use Rattle.hippo_model.specs.Masking.{Choices, raw_value, shown_if}
use Rattle.hippo_model.specs.Forms.{value_in}
use Rattle.hippo_model.proofs.Truths.{truth-Compare}
use Rattle.hippo_model.specs.MaskedTruth.{masked_value}
use Rattle.hippo_join_lookups.specs.Ties.{shown_column, holds, AreEqual}

-- values that compare equal are the same, and not null
equal_orders : (o : Ordering) → is_true (truth_of (is_eq o)) ≡ true → o ≡ Equal
equal_orders Less e = absurd (false≢true e)
equal_orders Equal e = refl
equal_orders Greater e = absurd (false≢true e)

pub equal-values : (a b : Value) → is_true (comparison Eq a b) ≡ true → (a ≡ b) × (is_null b ≡ false)
equal-values (Int a) (Int b) e = (ap Int (int_cmp-IsAntisymmetric a b (equal_orders (int_cmp a b) e)), refl)
equal-values (Text a) (Text b) e = (ap Text (slice_cmp-IsAntisymmetric nat_cmp-IsAntisymmetric a b (equal_orders (slice_cmp nat_cmp a b) e)), refl)
equal-values (Day a) (Day b) e = (ap Day (int_cmp-IsAntisymmetric a b (equal_orders (int_cmp a b) e)), refl)
equal-values a b e = absurd (false≢true e)

some_is : {A : Type 0} {a b : A} → Some a ≡ Some b → a ≡ b
some_is e = cc

shown_value : (test : Bool) (value : Value) (rule : ℕ) → is_null (value_in (shown_if test value rule)) ≡ false → value_in (shown_if test value rule) ≡ value
shown_value true value rule shown = refl
shown_value false value rule shown = absurd (false≢true (sym shown))

-- an expression over a column has its value, or null
pub column-value : (choices : Choices) (rows : Combination) (expr : Expr) (column : Ref) → shown_column expr ≡ Some column → is_null (masked_value choices rows expr) ≡ false → masked_value choices rows expr ≡ raw_value rows column
column-value choices rows (Keep own) column e shown = ap (raw_value rows) (some_is e)
column-value choices rows (Null rule) column e shown = absurd cc
column-value choices rows (Aged own rule after) column e shown = shown_value _ (raw_value rows own) rule shown ∙ ap (raw_value rows) (some_is e)
column-value choices rows (Case own subject item rule opt_in after) column e shown = shown_value _ (raw_value rows own) rule shown ∙ ap (raw_value rows) (some_is e)
column-value choices rows (Literal value) column e shown = absurd cc

-- an equality of two columns is a tie of them
pub tie-left : (left right : Expr) (a b : Ref) → shown_column left ≡ Some a → shown_column right ≡ Some b → (choices : Choices) (rows : Combination) → list_all (holds choices rows) (conditions.Compare Eq left right ∷ []) ≡ true → AreEqual rows a b
tie-left left right a b of_left of_right choices rows all =
    let first = (and_parts (holds choices rows (conditions.Compare Eq left right)) true all).0 in
    let equal = equal-values (masked_value choices rows left) (masked_value choices rows right) (sym (ap is_true (truth-Compare (masked_value choices rows) Eq left right)) ∙ first) in
    let on_right = column-value choices rows right b of_right equal.1 in
    let on_left = column-value choices rows left a of_left (ap is_null equal.0 ∙ equal.1) in
    (sym on_left ∙ equal.0 ∙ on_right, sym (ap is_null on_right) ∙ equal.1)

pub equal-turned : (rows : Combination) (a b : Ref) → AreEqual rows a b → AreEqual rows b a
equal-turned rows a b equal = (sym equal.0, ap is_null equal.0 ∙ equal.1)

-- a tie that one part requires is a tie that all parts require
pub tie-of-part : (parts : List (CondOf Expr)) (k : ℕ) (part : CondOf Expr) → k < length parts → get_or parts k part ≡ part → (choices : Choices) (rows : Combination) → list_all (holds choices rows) parts ≡ true → list_all (holds choices rows) (part ∷ []) ≡ true
tie-of-part [] k part within at choices rows all = absurd (omega arith)
tie-of-part (first ∷ parts) zero part within at choices rows all =
    and_from (holds choices rows part) true (subst (λ (p : CondOf Expr). holds choices rows p ≡ true) at (and_parts (holds choices rows first) (list_all (holds choices rows) parts) all).0) refl
tie-of-part (first ∷ parts) (suc k) part within at choices rows all =
    let shorter : k < length parts = omega arith in
    tie-of-part parts k part shorter at choices rows (and_parts (holds choices rows first) (list_all (holds choices rows) parts) all).1

-- a column of a table, by its fields
pub tied-here : (rows : Combination) (table : Place) (column other : Ref) → column.table ≡ table → AreEqual rows column other → AreEqual rows (record { table = table; column = column.column }) other
tied-here rows table column other at equal = let named : Place → Type 0 = λ t. AreEqual rows (record { table = t; column = column.column }) other in subst named at equal
