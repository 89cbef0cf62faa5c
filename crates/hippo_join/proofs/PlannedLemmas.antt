-- Rows at places that were found, and what is kept of them, one combination after the other.
use Rattle.std.proofs.Common.{◌≡◌, ℕ, zero, suc, ◌+◌, ◌<◌, ◌≤◌, true, List, [], ◌∷◌, ◌++◌, map, length, take, refl, sym, ap, subst, ◌∙◌, append_assoc, length-set, Option, Some, unwrap_or, Ok, Err, slice_get, arith}
use Rattle.std.specs.Prelude.{slice_set}
use Rattle.std.specs.Option.{option_map_or}
use Rattle.std.proofs.lemmas.List.{append-nil, map-append, take_all, take_more_set}
use Rattle.std.proofs.lemmas.Option.{slice_get_within}
use Rattle.hippo_model.specs.declared.born_row.BornRow.{BornRow}
use Rattle.hippo_model.specs.declared.query.Masked.{Masked}
use Rattle.hippo_model.specs.Terms.{Combination, Place}
use Rattle.hippo_model.specs.Answers.{product}
use Rattle.hippo_model.specs.Masking.{Choices, masked_answer}
use Rattle.hippo_tables_keyed.specs.RowSets.{KeyedRows}
use Rattle.hippo_eval.specs.Answering.{IsAnswered}
use Rattle.hippo_eval.specs.declared.answers.EvalFault.{EvalFault}
use Rattle.hippo_eval.specs.declared.answers.EvalFault.TheVariants.{TooManyRows, Memory}
use Rattle.hippo_eval.specs.declared.walks.Onward.{Onward}
use Rattle.hippo_eval.specs.declared.walks.Onward.TheVariants.{Enough}
use Rattle.hippo_eval.specs.Walks.{KeptAfter, rows_of}
use Rattle.hippo_eval.proofs.WalkLemmas.{take_row}
use Rattle.hippo_eval.proofs.KeptLemmas.{kept_whole}
use Rattle.hippo_join_lookups.specs.Places.{blank, chosen_rows, row_at_place, stands}
use Rattle.hippo_join_lookups.proofs.SlotLemmas.{length-rows_at}
use Rattle.hippo_join_stages.specs.Finding.{AreFound, IsRising}
use Rattle.hippo_join_stages.specs.Visiting.{counting}
use Rattle.hippo_join_stages.proofs.FoundLemmas.{length-found, rows-in-order}
use Rattle.hippo_join.specs.Plans.{IsUnvisited}
use Rattle.hippo_join.proofs.GatheringLemmas.{length-counted}

-- ---- the rows at some places, table by table
row_of : (sets : List KeyedRows) (places : List Place) (i : ℕ) (set : KeyedRows) → slice_get sets i ≡ Some set → slice_get (chosen_rows sets places) i ≡ Some (option_map_or (row_at_place set.rows) (slice_get places i) blank)
row_of [] places i set at = absurd cc
row_of (first ∷ sets) [] zero set at = refl
row_of (first ∷ sets) [] (suc i) set at = row_of sets [] i set at
row_of (first ∷ sets) (place ∷ places) zero set at = ap (λ (s : KeyedRows). Some (row_at_place s.rows place)) (one at)
  where
    one : {A : Type 0} {a b : A} → Some a ≡ Some b → a ≡ b
    one e = cc
row_of (first ∷ sets) (place ∷ places) (suc i) set at = row_of sets places i set at

-- one row more
pub chosen-more : (sets : List KeyedRows) (places : List Place) (i : ℕ) (set : KeyedRows) (slot : Option Place) (row empty : BornRow) (rows more : Combination) → slice_get sets i ≡ Some set → slot ≡ slice_get places i → empty ≡ blank
    → row ≡ option_map_or (λ place. unwrap_or (slice_get set.rows place) empty) slot empty → more ≡ slice_set rows i row → (length rows ≡ length sets) × (take i rows ≡ take i (chosen_rows sets places)) → (length more ≡ length sets) × (take (i + 1) more ≡ take (i + 1) (chosen_rows sets places))
chosen-more sets places i set slot row empty rows more at of_slot of_blank is put so_far =
    let here : row ≡ option_map_or (row_at_place set.rows) (slice_get places i) blank = is ∙ (λ j. option_map_or (λ place. unwrap_or (slice_get set.rows place) (of_blank j)) (of_slot j) (of_blank j)) in
    let there : slice_get (chosen_rows sets places) i ≡ Some row = row_of sets places i set at ∙ ap Some (sym here) in
    let within : i < length rows = omega (arith, slice_get_within sets i set at, so_far.0) in (
      ap length put ∙ length-set rows i row ∙ so_far.0,
      ap (take (i + 1)) put ∙ take_more_set rows i row within ∙ ap (λ (front : Combination). front ++ row ∷ []) so_far.1 ∙ sym (take_row (chosen_rows sets places) i row there),
    )

pub chosen-whole : (sets : List KeyedRows) (places : List Place) (i : ℕ) (rows : Combination) → i ≡ length sets → (length rows ≡ length sets) × (take i rows ≡ take i (chosen_rows sets places)) → rows ≡ chosen_rows sets places
chosen-whole sets places i rows all so_far =
    sym (take_all i rows (omega (arith, all, so_far.0))) ∙ so_far.1 ∙ take_all i (chosen_rows sets places) (omega (arith, all, length-rows_at sets (map Some places)))

-- ---- combinations visited one after the other
-- a state keeps the first of some members, mapped; these are left
pub record HasTold {A S : Type 0} (keeps : List Combination → S → Type 0) (made : A → Combination) (all left : List A) (old new : S) : Type 0 where
  pub front : List A
  pub is : all ≡ front ++ left
  pub kept : (before : List Combination) → keeps before old → keeps (before ++ map made front) new

module _ {A S : Type 0} (keeps : List Combination → S → Type 0) (made : A → Combination) (all : List A) where
  pub told-none : (left : List A) (state : S) → left ≡ all → HasTold keeps made all left state state
  told-none left state same = record { front = []; is = sym same; kept = λ before kept. subst (λ (some : List Combination). keeps some state) (sym (append-nil before)) kept }

  module _ (left : List A) (old : S) (now : S) (told : HasTold keeps made all left old now) where
    pub told-all : left ≡ [] → (before : List Combination) → keeps before old → keeps (before ++ map made all) now
    told-all none before kept =
        let whole : all ≡ told.front = told.is ∙ ap (λ (l : List A). told.front ++ l) none ∙ append-nil told.front in
        subst (λ (some : List A). keeps (before ++ map made some) now) (sym whole) (told.kept before kept)

    module _ (member : A) (rest : List A) (rows : Combination) (after : S) (first : left ≡ member ∷ rest) (are : rows ≡ made member) where
      one_more : (before : List Combination) → (before ++ map made told.front) ++ rows ∷ [] ≡ before ++ map made (told.front ++ member ∷ [])
      one_more before =
          append_assoc before (map made told.front) (rows ∷ [])
          ∙ ap (λ (l : List Combination). before ++ l) (ap (λ (last : Combination). map made told.front ++ last ∷ []) are ∙ sym (map-append made told.front (member ∷ [])))

      still : all ≡ (told.front ++ member ∷ []) ++ rest
      still = told.is ∙ ap (λ (l : List A). told.front ++ l) first ∙ sym (append_assoc told.front (member ∷ []) rest)

      pub told-more : (onward : Onward) → ((before : List Combination) → keeps before now → KeptAfter keeps (Ok onward) before (rows ∷ []) after) → HasTold keeps made all rest old after
      told-more onward visited = record {
        front = told.front ++ member ∷ [];
        is = still;
        kept = λ before kept. subst (λ (some : List Combination). keeps some after) (one_more before) (kept_whole keeps onward (before ++ map made told.front) (rows ∷ []) after (visited (before ++ map made told.front) (told.kept before kept)));
      }

      -- the state holds, whatever follows
      pub told-enough : ((before : List Combination) → keeps before now → KeptAfter keeps (Ok Enough) before (rows ∷ []) after) → (before : List Combination) → keeps before old → KeptAfter keeps (Ok Enough) before (map made all) after
      told-enough visited before kept later =
          let joined : ((before ++ map made told.front) ++ rows ∷ []) ++ (map made rest ++ later) ≡ (before ++ map made all) ++ later =
          ap (λ (l : List Combination). l ++ (map made rest ++ later)) (one_more before)
          ∙ sym (append_assoc (before ++ map made (told.front ++ member ∷ [])) (map made rest) later)
          ∙ ap (λ (l : List Combination). l ++ later) (append_assoc before (map made (told.front ++ member ∷ [])) (map made rest) ∙ ap (λ (l : List Combination). before ++ l) (sym (map-append made (told.front ++ member ∷ []) rest) ∙ ap (map made) (sym still))) in
          subst (λ (some : List Combination). keeps some after) joined (visited (before ++ map made told.front) (told.kept before kept) (map made rest ++ later))

-- ---- what was found, in the order of the product
module _ (choices : Choices) (query : Masked) (sets : List KeyedRows) (limit : ℕ) (found : List (List Place)) (rising : IsRising found) (are : AreFound (λ places. stands choices query sets places ≡ true) limit found) where
  -- within the limit, these are all qualifying combinations
  pub found-whole : length found ≤ limit → map (chosen_rows sets) found ≡ counting choices query (product (rows_of sets))
  found-whole within = rows-in-order choices query sets found (record { sound = are.sound; whole = are.whole within; rising = λ asked. rising })

  -- beyond it, more combinations than the limit qualify
  pub found-many : limit < length found → limit < length (counting choices query (product (rows_of sets)))
  found-many more = omega (arith, more, length-found choices query sets found rising are.sound, length-counted choices query sets)

-- what is not visited is not answered
pub not-answered : (choices : Choices) (query : Masked) (sets : List KeyedRows) (limit : ℕ) (fault : EvalFault) → IsUnvisited limit (counting choices query (product (rows_of sets))) fault → IsAnswered limit (masked_answer choices query (rows_of sets)) (Err fault)
not-answered choices query sets limit TooManyRows more = omega (arith, more, length-counted choices query sets)
not-answered choices query sets limit Memory wanted = tt
