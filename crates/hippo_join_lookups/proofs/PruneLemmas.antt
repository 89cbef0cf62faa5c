-- A condition known from the chosen rows holds in each combination that qualifies.
use Rattle.std.proofs.Common.{◌≡◌, ℕ, zero, suc, ◌<◌, Bool, true, false, ◌||◌, not, List, [], ◌∷◌, length, refl, sym, ap, subst, ◌∙◌, get_or, Option, Some, nat_lt, ltb, ltb-true}
use Rattle.std.specs.Prelude.{slice_get}
use Rattle.std.specs.List.{list_all}
use Rattle.std.proofs.lemmas.Bool.{and_parts}
use Rattle.std.proofs.lemmas.Option.{slice_get_read}
use Rattle.hippo_model.specs.declared.query.CondOf.{CondOf}
use Rattle.hippo_model.specs.declared.query.Expr.{Expr}
use Rattle.hippo_model.specs.declared.query.Guard.{Guard}
use Rattle.hippo_model.specs.declared.query.Masked.{Masked}
use Rattle.hippo_model.specs.Terms.{Place}
use Rattle.hippo_tables_keyed.specs.RowSets.{KeyedRows}
use Rattle.hippo_model.specs.Conditions.{is_true, outer_parts}
use Rattle.hippo_model.specs.Masking.{Choices, masked_cell, is_shown_cell, is_guarded, masked_passes}
use Rattle.hippo_model.specs.Forms.{value_in}
use Rattle.hippo_model.specs.MaskedTruth.{masked_value}
use Rattle.hippo_join_lookups.specs.Places.{rows_at, chosen_rows, Fits, in_range, stays, stands}
use Rattle.hippo_join_lookups.specs.Known.{knows, knows_expr}
use Rattle.hippo_join_lookups.specs.Ties.{holds}
use Rattle.hippo_join_lookups.proofs.KnownLemmas.{truth-known}
use Rattle.hippo_model.proofs.HeldParts.{parts-hold}
use Rattle.hippo_join_lookups.proofs.SlotLemmas.{cell-known, length-in_range}

-- a member of a list passes a test that all members pass
pub one-of-all : {X : Type 0} (test : X → Bool) (xs : List X) (k : ℕ) (x : X) → slice_get xs k ≡ Some x → list_all test xs ≡ true → test x ≡ true
one-of-all test [] k x at all = absurd cc
one-of-all test (first ∷ xs) zero x at all = ap test (sym (some_is at)) ∙ (and_parts (test first) (list_all test xs) all).0
  where
    some_is : {A : Type 0} {a b : A} → Some a ≡ Some b → a ≡ b
    some_is e = cc
one-of-all test (first ∷ xs) (suc k) x at all = one-of-all test xs k x at (and_parts (test first) (list_all test xs) all).1

or_of : (known holds : Bool) → (known ≡ true → holds ≡ true) → (not known || holds) ≡ true
or_of true holds h = h refl
or_of false holds h = refl

-- facts about a combination that qualifies
module _ (choices : Choices) (query : Masked) (sets : List KeyedRows) (places : List Place) (counts : stands choices query sets places ≡ true) where
  pub in-range : in_range sets places ≡ true
  in-range = (and_parts (in_range sets places) (stays choices query (chosen_rows sets places)) counts).0

  pub long-enough : length places ≡ length sets
  long-enough = length-in_range sets places in-range

  both : (is_guarded choices query (chosen_rows sets places) ≡ true) × (masked_passes choices query (chosen_rows sets places) ≡ true)
  unfolding stays
  both = and_parts (is_guarded choices query (chosen_rows sets places)) (masked_passes choices query (chosen_rows sets places)) (and_parts (in_range sets places) (stays choices query (chosen_rows sets places)) counts).1

  pub all-hold : list_all (holds choices (chosen_rows sets places)) (outer_parts query.cond) ≡ true
  all-hold = parts-hold (masked_value choices (chosen_rows sets places)) query.cond ∙ both.1

module _ (choices : Choices) (query : Masked) (sets : List KeyedRows) (slots : List (Option Place)) (places : List Place) (fits : Fits slots places) (counts : stands choices query sets places ≡ true) where
  -- a part whose columns are known
  pub part-holds : (k : ℕ) (part : CondOf Expr) → slice_get (outer_parts query.cond) k ≡ Some part → (not (knows slots part) || holds choices (rows_at sets slots) part) ≡ true
  part-holds k part at = or_of (knows slots part) (holds choices (rows_at sets slots) part) (λ known.
      ap is_true (truth-known slots (masked_value choices (rows_at sets slots)) (masked_value choices (chosen_rows sets places)) (λ expr is. ap value_in (cell-known choices sets slots places fits expr is)) part known)
      ∙ one-of-all (holds choices (chosen_rows sets places)) (outer_parts query.cond) k part at (all-hold choices query sets places counts))

  -- a guard whose columns are known
  pub guard-holds : (k : ℕ) (guard : Guard) → slice_get query.guards k ≡ Some guard → (not (knows_expr slots guard.expr) || is_shown_cell (masked_cell choices (rows_at sets slots) guard.expr)) ≡ true
  guard-holds k guard at = or_of (knows_expr slots guard.expr) (is_shown_cell (masked_cell choices (rows_at sets slots) guard.expr)) (λ known.
      ap is_shown_cell (cell-known choices sets slots places fits guard.expr known)
      ∙ one-of-all (λ (g : Guard). is_shown_cell (masked_cell choices (chosen_rows sets places) g.expr)) query.guards k guard at (both choices query sets places counts).0)

-- places in range are below the number of their table's rows
pub below-rows : (sets : List KeyedRows) (places : List Place) (table : Place) (set : KeyedRows) (place : Place) → in_range sets places ≡ true → slice_get sets table ≡ Some set → slice_get places table ≡ Some place → place < length set.rows
below-rows [] places table set place all at here = absurd cc
below-rows (first ∷ sets) [] table set place all at here = absurd cc
below-rows (first ∷ sets) (p ∷ places) zero set place all at here =
    let test : nat_lt p (length first.rows) ≡ true = (and_parts (nat_lt p (length first.rows)) (in_range sets places) all).0 in
    let lower : p < length first.rows = ltb-true _ _ test in
    subst (λ (s : KeyedRows). place < length s.rows) (some_is at) (subst (λ (q : ℕ). q < length first.rows) (some_is here) lower)
  where
    some_is : {A : Type 0} {a b : A} → Some a ≡ Some b → a ≡ b
    some_is e = cc
below-rows (first ∷ sets) (p ∷ places) (suc table) set place all at here = below-rows sets places table set place (and_parts (nat_lt p (length first.rows)) (in_range sets places) all).1 at here

-- what `get` and a loop say of a member, for two names of the same list
pub get-at : {X : Type 0} (xs ys : List X) (i : ℕ) (x : X) → xs ≡ ys → true ≡ ltb i (length xs) → x ≡ get_or xs i x → slice_get ys i ≡ Some x
get-at xs ys i x same within is = sym (ap (λ l. slice_get l i) same) ∙ slice_get_read xs (length xs) i x refl (ltb-true _ _ (sym within)) is

pub item-at : {X : Type 0} (xs ys : List X) (i : ℕ) (x : X) → xs ≡ ys → i < length xs → x ≡ get_or xs i x → slice_get ys i ≡ Some x
item-at xs ys i x same within is = sym (ap (λ l. slice_get l i) same) ∙ slice_get_read xs (length xs) i x refl within is
