-- Lists of places that contain each qualifying place.
use Rattle.std.proofs.Common.{◌≡◌, ℕ, zero, suc, ◌+◌, ◌<◌, ◌≤◌, Bool, true, false, List, [], ◌∷◌, ◌++◌, length, get_or, refl, sym, ap, subst, ◌∙◌, Option, Some, None, inl, inr, arith}
use Rattle.std.specs.Prelude.{nat_lt, slice_get, slice_set, replicate, if◌then◌else◌}
use Rattle.std.specs.List.{Contains, list_all}
use Rattle.hippo_model.specs.declared.query.CondOf.{CondOf}
use Rattle.hippo_model.specs.declared.query.Expr.{Expr}
use Rattle.std.proofs.lemmas.List.Elements.{Contains-append_left, Contains-push}
use Rattle.std.specs.Option.{IfSome}
use Rattle.std.specs.Cmp.{tied_itself}
use Rattle.std.specs.declared.cmp.Ordering.TheVariants.{Equal}
use Rattle.std.proofs.lemmas.Bool.{and_parts, false≢true}
use Rattle.hippo_values.specs.declared.values.Value.{Value}
use Rattle.hippo_values.specs.Order.{value_cmp}
use Rattle.hippo_values.specs.OrderLaws.{value_total}
use Rattle.hippo_model.specs.Conditions.{is_null}
use Rattle.hippo_join_stages.specs.declared.stages.Stage.{Stage}
use Rattle.hippo_join_lookups.specs.Lookups.{value_at_place}
use Rattle.hippo_model.specs.declared.query.Masked.{Masked}
use Rattle.hippo_model.specs.Terms.{Place}
use Rattle.hippo_tables_keyed.specs.RowSets.{KeyedRows}
use Rattle.hippo_model.specs.Conditions.{outer_parts}
use Rattle.hippo_model.specs.Masking.{Choices, raw_value}
use Rattle.hippo_join_lookups.specs.declared.ties.Tie.{Tie}
use Rattle.hippo_join_lookups.specs.Places.{chosen_rows, Fits, in_range, stands}
use Rattle.hippo_join_lookups.specs.Ties.{holds, AreEqual, IsTieOf}
use Rattle.hippo_join_stages.specs.Stages.{IsStage}
use Rattle.hippo_join_lookups.proofs.PlaceSteps.{below_or_at, get_or_default}
use Rattle.hippo_join_lookups.proofs.PruneLemmas.{all-hold}
use Rattle.hippo_join_lookups.proofs.SlotLemmas.{Fits-open, Fits-set, raw-at}

kept : (test : Bool) (xs : List Place) (n p : Place) → Contains xs p → Contains (if test then xs ++ n ∷ [] else xs) p
kept true xs n p has = Contains-append_left xs (n ∷ []) p has
kept false xs n p has = has

taken : (test : Bool) (xs : List Place) (n : Place) → test ≡ true → Contains (if test then xs ++ n ∷ [] else xs) n
taken true xs n passed = Contains-push xs n
taken false xs n passed = absurd (false≢true passed)

-- one more place was tested
module _ (Counts : List Place → Type 0) (table : Place) where
  pub tested-more : (slots : List (Option Place)) (test : Bool) (xs ys some : List Place) (n : Place) (i : ℕ) → n ≡ get_or some i 0 → ys ≡ (if test then xs ++ n ∷ [] else xs)
      → ((places : List Place) → Counts places → slice_get places table ≡ Some n → Fits slots places)
      → ((places : List Place) → Fits slots places → Counts places → test ≡ true)
      → ((places : List Place) → Counts places → (place : Place) → slice_get places table ≡ Some place → (k : ℕ) → k < i → get_or some k 0 ≡ place → Contains xs place)
      → (places : List Place) → Counts places → (place : Place) → slice_get places table ≡ Some place → (k : ℕ) → k < i + 1 → get_or some k 0 ≡ place → Contains ys place
  tested-more slots test xs ys some n i here pushed fit may so_far places counts place at k lower there =
      subst (λ (l : List Place). Contains l place) (sym pushed)
      (elim (below_or_at k i lower) as (λ _. Contains (if test then xs ++ n ∷ [] else xs) place) [
        | inl before ↦ kept test xs n place (so_far places counts place at k before there)
        | inr last ↦
            let same : n ≡ place = here ∙ ap (λ j. get_or some j 0) (sym last) ∙ there in
            subst (λ (j : Place). Contains (if test then xs ++ n ∷ [] else xs) j) same (taken test xs n (may places (fit places counts (at ∙ ap Some (sym same))) counts))
      ])

  -- all of some places were tested
  pub all-tested : (some ys : List Place) (i : ℕ) → length some ≤ i
      → ((places : List Place) → Counts places → (place : Place) → slice_get places table ≡ Some place → Contains some place)
      → ((places : List Place) → Counts places → (place : Place) → slice_get places table ≡ Some place → (k : ℕ) → k < i → get_or some k 0 ≡ place → Contains ys place)
      → (places : List Place) → Counts places → (place : Place) → slice_get places table ≡ Some place → Contains ys place
  all-tested some ys i past reaches so_far places counts place at =
      let has = reaches places counts place at in
      so_far places counts place at has.0 (omega (arith, has.1)) (get_or_default some has.0 place 0 has.1 ∙ has.2)

module _ (choices : Choices) (query : Masked) (sets : List KeyedRows) where
  pub tie-counts : (table : Place) (tie : Tie) (parts : List (CondOf Expr)) → parts ≡ outer_parts query.cond → IsTieOf parts table tie → (places : List Place) → stands choices query sets places ≡ true → AreEqual (chosen_rows sets places) (record { table = table; column = tie.column }) tie.other
  tie-counts table tie parts same tied places counts = tied choices (chosen_rows sets places) (subst (λ (l : List (CondOf Expr)). list_all (holds choices (chosen_rows sets places)) l ≡ true) (sym same) (all-hold choices query sets places counts))

pub fits-alone : (slots : List (Option Place)) (n : ℕ) (table : Place) (places : List Place) → slots ≡ replicate n None → length places ≡ n → (place : Place) → slice_get places table ≡ Some place → Fits (slice_set slots table (Some place)) places
fits-alone slots n table places none long place at = Fits-set slots places table place (subst (λ (s : List (Option Place)). Fits s places) (sym none) (Fits-open places n long)) at

pub of-some : {X : Type 0} (P : X → Type 0) (o : Option X) (x : X) → IfSome o P → o ≡ Some x → P x
of-some {X} P o x p is = let at : IfSome (Some x) P = subst (λ (q : Option X). IfSome q P) is p in at

-- the rows of the table that a combination's place belongs to
pub set-at : (sets : List KeyedRows) (places : List Place) (table place : Place) → in_range sets places ≡ true → slice_get places table ≡ Some place → (set : KeyedRows) × (slice_get sets table ≡ Some set)
set-at [] [] table place inside at = absurd cc
set-at [] (first ∷ places) table place inside at = absurd (false≢true inside)
set-at (set ∷ sets) [] table place inside at = absurd (false≢true inside)
set-at (set ∷ sets) (first ∷ places) zero place inside at = (set, refl)
set-at (set ∷ sets) (first ∷ places) (suc table) place inside at = set-at sets places table place (and_parts (nat_lt first (length set.rows)) (in_range sets places) inside).1 at

-- a place whose row has the value that a tie requires
module _ (choices : Choices) (query : Masked) (sets : List KeyedRows) (places : List Place) (counts : stands choices query sets places ≡ true) (stage : Stage) (tie : Tie) (value : Value) (is_stage : IsStage choices query sets stage) (is : stage.tie ≡ Some tie) (same : raw_value (chosen_rows sets places) tie.other ≡ value) where
  equal : AreEqual (chosen_rows sets places) (record { table = stage.table; column = tie.column }) tie.other
  equal = of-some (λ t. (places : List Place) → stands choices query sets places ≡ true → AreEqual (chosen_rows sets places) (record { table = stage.table; column = t.column }) t.other) stage.tie tie is_stage.tied is places counts

  pub order-tied : (set : KeyedRows) (place : Place) → slice_get sets stage.table ≡ Some set → slice_get places stage.table ≡ Some place → value_cmp (value_at_place set tie.column place) value ≡ Equal
  order-tied set place at here =
      let own : raw_value (chosen_rows sets places) (record { table = stage.table; column = tie.column }) ≡ value_at_place set tie.column place = raw-at sets places (record { table = stage.table; column = tie.column }) set place at here in
      ap (λ (v : Value). value_cmp v value) (sym own ∙ equal.0 ∙ same) ∙ tied_itself value_total value

  pub not-null : is_null value ≡ false
  not-null = sym (ap is_null same) ∙ equal.1

pub length-unchosen : (slots : List (Option Place)) (n m : ℕ) → slots ≡ replicate n None → n ≡ m → length slots ≡ m
length-unchosen slots n m none same = ap length none ∙ long n ∙ same
  where
    long : (n : ℕ) → length (replicate {A = Option Place} n None) ≡ n
    long zero = refl
    long (suc n) = ap suc (long n)
