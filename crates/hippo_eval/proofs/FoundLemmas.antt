-- The rows of a query for some combinations, and for more.
use Rattle.std.proofs.Common.{◌≡◌, ℕ, ◌<◌, ◌≤◌, Bool, true, false, cond, ◌&&◌, List, [], ◌∷◌, ◌++◌, map, length, refl, sym, ap, subst, ◌∙◌, append_assoc, arith}
use Rattle.std.specs.Prelude.{Result, Ok, Err}
use Rattle.std.proofs.lemmas.List.{map-append, append-nil}
use Rattle.std.proofs.lemmas.List.Elements.{filter-append}
use Rattle.hippo_values.specs.declared.memory.Memory.{Memory}
use Rattle.hippo_model.specs.declared.query.Masked.{Masked}
use Rattle.hippo_model.specs.Terms.{Combination, ShownRow}
use Rattle.hippo_model.specs.Masking.{Choices, is_guarded, masked_passes, masked_items}
use Rattle.hippo_eval.specs.declared.walks.Onward.{Onward}
use Rattle.hippo_eval.specs.declared.walks.Onward.TheVariants.{More, Enough}
use Rattle.hippo_eval.specs.Answering.{making_rows, masked_rows}
use Rattle.hippo_eval.specs.Gathering.{IsGathered, IsFinished}
use Rattle.hippo_eval.specs.Walks.{KeptAfter}

module _ (choices : Choices) (query : Masked) where
  abbrev counts : Combination → Bool
  counts rows = is_guarded choices query rows && masked_passes choices query rows

  making_rows-push : (these : List Combination) (combination : Combination) → counts combination ≡ true
      → making_rows choices query (these ++ combination ∷ []) ≡ making_rows choices query these ++ combination ∷ []
  making_rows-push these combination is =
      filter-append counts these (combination ∷ []) ∙ ap (λ (test : Bool). making_rows choices query these ++ cond test (combination ∷ []) []) is

  making_rows-same : (these : List Combination) (combination : Combination) → counts combination ≡ false
      → making_rows choices query (these ++ combination ∷ []) ≡ making_rows choices query these
  making_rows-same these combination is =
      filter-append counts these (combination ∷ []) ∙ ap (λ (test : Bool). making_rows choices query these ++ cond test (combination ∷ []) []) is ∙ append-nil (making_rows choices query these)

  abbrev made : List Combination → List ShownRow
  made combinations = map (masked_items choices query) combinations

  pub masked_rows-push : (these : List Combination) (combination : Combination) → counts combination ≡ true
      → masked_rows choices query (these ++ combination ∷ []) ≡ masked_rows choices query these ++ masked_items choices query combination ∷ []
  masked_rows-push these combination is =
      ap made (making_rows-push these combination is) ∙ map-append (masked_items choices query) (making_rows choices query these) (combination ∷ [])

  pub masked_rows-same : (these : List Combination) (combination : Combination) → counts combination ≡ false → masked_rows choices query (these ++ combination ∷ []) ≡ masked_rows choices query these
  masked_rows-same these combination is = ap made (making_rows-same these combination is)

  -- what a visitor keeps of the qualifying combinations, one combination more
  module _ {S : Type 0} (keeps : List Combination → S → Type 0) (before : List Combination) (combination : Combination) (state : S) where
    abbrev keeps_those : List Combination → S → Type 0
    keeps_those combinations rows = keeps (making_rows choices query combinations) rows

    -- a combination that qualifies
    pub tested-counts : counts combination ≡ true → (result : Result Onward Memory) → KeptAfter keeps result (making_rows choices query before) (combination ∷ []) state → KeptAfter keeps_those result before (combination ∷ []) state
    tested-counts is (Ok More) kept = subst (λ (some : List Combination). keeps some state) (sym (making_rows-push before combination is)) kept
    tested-counts is (Ok Enough) kept = λ later.
        subst (λ (some : List Combination). keeps some state)
        (sym (filter-append counts (before ++ combination ∷ []) later ∙ ap (λ (front : List Combination). front ++ making_rows choices query later) (making_rows-push before combination is)))
        (kept (making_rows choices query later))
    tested-counts is (Err wanted) kept = tt

    -- one that does not
    pub tested-same : counts combination ≡ false → keeps_those before state → keeps_those (before ++ combination ∷ []) state
    tested-same is kept = subst (λ (some : List Combination). keeps some state) (sym (making_rows-same before combination is)) kept

  -- what is gathered, some combinations more
  module _ {R : Type 0} (Holds : List ShownRow → R → Type 0) (answer : List ShownRow → List ShownRow) (limit : ℕ) (before : List Combination) (rows : R) (are : IsGathered Holds answer limit (made before) rows) where
    -- there are too many already
    pub gathered-enough : (some more : List Combination) → limit < length (answer are.front) → IsGathered Holds answer limit (made (before ++ some ++ more)) rows
    gathered-enough some more many = record {
      front = are.front;
      later = are.later ++ made (some ++ more);
      is =
          ap made (append_assoc before some more) ∙ map-append (masked_items choices query) before (some ++ more)
          ∙ ap (λ (front : List ShownRow). front ++ made (some ++ more)) are.is ∙ append_assoc are.front are.later (made (some ++ more));
      holds = are.holds;
      whole = λ few. absurd (omega (arith, few, many));
    }

    -- one more
    pub gathered-more : (combination : Combination) (after : R) → length (answer are.front) ≤ limit
        → ((found : List ShownRow) → Holds found rows → Holds (found ++ masked_items choices query combination ∷ []) after) → IsGathered Holds answer limit (made (before ++ combination ∷ [])) after
    gathered-more combination after few added = record {
      front = are.front ++ masked_items choices query combination ∷ [];
      later = [];
      is =
          map-append (masked_items choices query) before (combination ∷ []) ∙ ap (λ (found : List ShownRow). found ++ masked_items choices query combination ∷ []) (are.is ∙ ap (λ (later : List ShownRow). are.front ++ later) (are.whole few) ∙ append-nil are.front)
          ∙ sym (append-nil (are.front ++ masked_items choices query combination ∷ []));
      holds = added are.front are.holds;
      whole = λ still. refl;
    }

-- no rows: nothing is gathered
pub gathered-none : {R : Type 0} (Holds : List ShownRow → R → Type 0) (answer : List ShownRow → List ShownRow) (limit : ℕ) (rows : R) → Holds [] rows → IsGathered Holds answer limit [] rows
gathered-none Holds answer limit rows none = record { front = []; later = []; is = refl; holds = none; whole = λ few. refl }

-- the finished rows are the whole answer, or too many
pub answered-whole : {R : Type 0} (Holds : List ShownRow → R → Type 0) (answer : List ShownRow → List ShownRow) (limit : ℕ) (found : List ShownRow) (rows : R) (are : IsGathered Holds answer limit found rows) (answered : List ShownRow) → IsFinished answer are.front answered
    → (length answered ≤ limit → answered ≡ answer found) × (limit < length answered → limit < length (answer found))
answered-whole Holds answer limit found rows are answered finished = (
  λ few.
      let none : are.later ≡ [] = are.whole (subst (λ (l : List ShownRow). length l ≤ limit) finished.rows_are few) in
      finished.rows_are ∙ ap answer (sym (append-nil are.front) ∙ ap (λ (later : List ShownRow). are.front ++ later) (sym none) ∙ sym are.is),
  λ many. let more = finished.not_fewer are.later in subst (λ (l : List ShownRow). limit < length (answer l)) (sym are.is) (omega (arith, many, more)),
)
