-- What is found while a join continues.
use Rattle.std.proofs.Common.{◌≡◌, ℕ, zero, suc, ◌+◌, ◌<◌, ◌≤◌, Bool, true, false, ◌&&◌, ◌||◌, cond, List, [], ◌∷◌, map, length, refl, sym, ap, subst, ◌∙◌, Option, Some, None, unwrap_or, inl, inr, ◌⊎◌, arith, get_or, length-set, take, ◌++◌, zero-add}
use Rattle.std.specs.Prelude.{slice_set}
use Rattle.std.specs.List.{Contains, All, range_with_len}
use Rattle.std.specs.List.Sorted.{IsPermutation, IsStrictlyIncreasing}
use Rattle.std.proofs.lemmas.List.{take_more}
use Rattle.std.proofs.lemmas.List.Elements.{All-push}
use Rattle.std.proofs.lemmas.List.FromFn.{get_or-range_with_len, length-range_with_len}
use Rattle.std.proofs.lemmas.List.Kept.{AllPairs-from_increasing}
use Rattle.std.proofs.lemmas.List.Sorted.{All-permutation, Contains-permutation}
use Rattle.std.specs.Ordering.{is_eq, nat_cmp}
use Rattle.std.specs.Cmp.Lexicographic.{slice_cmp}
use Rattle.std.specs.Cmp.{eq_by_cmp_equiv}
use Rattle.std.proofs.lemmas.Cmp.{nat_list_cmp_total}
use Rattle.std.proofs.lemmas.Bool.{false≢true, or_left}
use Rattle.hippo_model.specs.declared.query.Masked.{Masked}
use Rattle.hippo_model.specs.Terms.{Combination, Place}
use Rattle.hippo_tables_keyed.specs.RowSets.{KeyedRows}
use Rattle.hippo_model.specs.Masking.{Choices, is_guarded, masked_passes}
use Rattle.hippo_join_stages.specs.declared.stages.Stage.{Stage}
use Rattle.hippo_join_lookups.specs.Places.{chosen_rows, in_range, stays, stands}
use Rattle.hippo_join_lookups.specs.Known.{is_chosen, is_open}
use Rattle.hippo_join_stages.specs.Stages.{AreStages}
use Rattle.hippo_join_stages.specs.Walking.{IsWalkable, AreWalkable, CanWalk}
use Rattle.hippo_join_stages.specs.Finding.{has_places, Covers, HasOnePlaceMore, AreFound}
use Rattle.hippo_join_stages.proofs.FoundLemmas.{has-both, or-cases}
use Rattle.hippo_join_lookups.proofs.PlaceSteps.{map_push}

or_cond : (a b : Bool) → cond a true b ≡ (a || b)
or_cond true b = refl
or_cond false b = refl

-- the clause of `insert`, with the wanted places first
pub one-more : (places : List Place) (before after : List (List Place)) → ((other : List Place) → has_places other after ≡ cond (is_eq (slice_cmp nat_cmp places other)) true (has_places other before)) → HasOnePlaceMore places before after
one-more places before after updated other =
    updated other ∙ or_cond (is_eq (slice_cmp nat_cmp places other)) (has_places other before)
    ∙ ap (λ b. b || has_places other before) ((eq_by_cmp_equiv nat_list_cmp_total).symm places other)

pub counts-is : (choices : Choices) (query : Masked) (sets : List KeyedRows) (places : List Place) (rows : Combination) (result : Bool) → in_range sets places ≡ true → rows ≡ chosen_rows sets places → result ≡ (is_guarded choices query rows && masked_passes choices query rows)
    → result ≡ stands choices query sets places
unfolding stays
counts-is choices query sets places rows result within same is = is ∙ ap (stays choices query) same ∙ sym (ap (λ b. b && stays choices query (chosen_rows sets places)) within)

pub places-back : (places : List Place) → map (λ slot. unwrap_or slot 0) (map Some places) ≡ places
places-back [] = refl
places-back (place ∷ places) = ap (λ l. place ∷ l) (places-back places)

-- when each row is chosen, the slots are the places
pub whole-chosen_rows : (slots : List (Option Place)) → ((table : Place) → table < length slots → is_chosen slots table ≡ true) → slots ≡ map Some (map (λ slot. unwrap_or slot 0) slots)
whole-chosen_rows [] each = refl
whole-chosen_rows (None ∷ slots) each = absurd (false≢true (each 0 (omega arith)))
whole-chosen_rows (Some place ∷ slots) each = ap (λ l. Some place ∷ l) (whole-chosen_rows slots (λ table within. each (suc table) (omega arith)))

-- no stage is left, so each row is chosen
pub covered-whole : (slots : List (Option Place)) → Covers [] slots → (table : Place) → table < length slots → is_chosen slots table ≡ true
covered-whole slots covers table within = elim (covers table within) as (λ _. is_chosen slots table ≡ true) [
  | inl known ↦ known
  | inr left ↦ absurd (omega (arith, left.1))
]

pub first_or_later : (first : Place) (rest : List Place) (table : Place) → Contains (first ∷ rest) table → (first ≡ table) ⊎ Contains rest table
first_or_later first rest table has = by_index has.0 has.1 has.2
  where
    by_index : (k : ℕ) → k < suc (length rest) → get_or (first ∷ rest) k table ≡ table → (first ≡ table) ⊎ Contains rest table
    by_index zero within at = inl at
    by_index (suc k) within at = inr (k, omega arith, at)

chosen_at : (slots : List (Option Place)) (table place : Place) → table < length slots → is_chosen (slice_set slots table (Some place)) table ≡ true
chosen_at [] table place within = absurd (omega arith)
chosen_at (slot ∷ slots) zero place within = refl
chosen_at (slot ∷ slots) (suc table) place within = chosen_at slots table place (omega arith)

still_chosen : (slots : List (Option Place)) (at table place : Place) → is_chosen slots table ≡ true → is_chosen (slice_set slots at (Some place)) table ≡ true
still_chosen [] at table place known = absurd (false≢true known)
still_chosen (slot ∷ slots) zero zero place known = refl
still_chosen (slot ∷ slots) zero (suc table) place known = known
still_chosen (slot ∷ slots) (suc at) zero place known = known
still_chosen (slot ∷ slots) (suc at) (suc table) place known = still_chosen slots at table place known

-- a table whose row is not yet chosen
pub open-within : (slots : List (Option Place)) (table : Place) → is_open slots table ≡ true → table < length slots
open-within [] table still = absurd (false≢true still)
open-within (slot ∷ slots) zero still = omega arith
open-within (slot ∷ slots) (suc table) still = let later = open-within slots table still in omega (arith, later)

pub open-unchosen : (slots : List (Option Place)) (table : Place) → is_open slots table ≡ true → is_chosen slots table ≡ false
open-unchosen [] table still = refl
open-unchosen (None ∷ slots) zero still = refl
open-unchosen (Some place ∷ slots) zero still = absurd (false≢true still)
open-unchosen (slot ∷ slots) (suc table) still = open-unchosen slots table still

pub closed_chosen : (slots : List (Option Place)) (table : Place) → is_open slots table ≡ false → table < length slots → is_chosen slots table ≡ true
closed_chosen [] table closed within = absurd (omega arith)
closed_chosen (None ∷ slots) zero closed within = absurd (false≢true (sym closed))
closed_chosen (Some place ∷ slots) zero closed within = refl
closed_chosen (slot ∷ slots) (suc table) closed within = closed_chosen slots table closed (omega arith)

-- a stage whose row is no longer open, and one whose row is chosen now
pub covers-closed : (stage : Stage) (stages : List Stage) (slots : List (Option Place)) → Covers (stage ∷ stages) slots → is_open slots stage.table ≡ false → Covers stages slots
covers-closed stage stages slots covers closed table within = elim (covers table within) as (λ _. (is_chosen slots table ≡ true) ⊎ Contains (map (λ s. s.table) stages) table) [
  | inl before ↦ inl before
  | inr left ↦ elim (first_or_later stage.table (map (λ s. s.table) stages) table left) as (λ _. (is_chosen slots table ≡ true) ⊎ Contains (map (λ s. s.table) stages) table) [
    | inl here ↦ inl (closed_chosen slots table (subst (λ (t : Place). is_open slots t ≡ false) here closed) within)
    | inr later ↦ inr later
  ]
]

pub covers-more : (stage : Stage) (stages : List Stage) (slots : List (Option Place)) (place : Place) → Covers (stage ∷ stages) slots → stage.table < length slots → Covers stages (slice_set slots stage.table (Some place))
covers-more stage stages slots place covers here table within =
    let known : is_chosen (slice_set slots stage.table (Some place)) stage.table ≡ true = chosen_at slots stage.table place here in
    let before : table < length slots = simp length-set at within in
    elim (covers table before) as (λ _. (is_chosen (slice_set slots stage.table (Some place)) table ≡ true) ⊎ Contains (map (λ s. s.table) stages) table) [
      | inl chosen_rows ↦ inl (still_chosen slots stage.table table place chosen_rows)
      | inr left ↦ elim (first_or_later stage.table (map (λ s. s.table) stages) table left) as (λ _. (is_chosen (slice_set slots stage.table (Some place)) table ≡ true) ⊎ Contains (map (λ s. s.table) stages) table) [
        | inl same ↦ inl (subst (λ (t : Place). is_chosen (slice_set slots stage.table (Some place)) t ≡ true) same known)
        | inr later ↦ inr later
      ]
    ]

pub unchosen-same : (slots : List (Option Place)) (table : Place) → is_chosen slots table ≡ false → slice_set slots table None ≡ slots
unchosen-same [] table none = by_case table
  where
    by_case : (table : Place) → slice_set {A = Option Place} [] table None ≡ []
    by_case zero = refl
    by_case (suc table) = refl
unchosen-same (None ∷ slots) zero none = refl
unchosen-same (Some place ∷ slots) zero none = absurd (false≢true (sym none))
unchosen-same (slot ∷ slots) (suc table) none = ap (λ l. slot ∷ l) (unchosen-same slots table none)

-- the rest of ascending numbers, after the first
rises_rest : (first : ℕ) (rest : List ℕ) → IsStrictlyIncreasing (first ∷ rest) → IsStrictlyIncreasing rest
rises_rest first rest rising k within = let further : suc k + 1 ≡ suc (k + 1) = omega arith in rw further at (rising (suc k) (omega (arith, within)))

pub first-lowest : (first : ℕ) (rest : List ℕ) → IsStrictlyIncreasing (first ∷ rest) → (other : ℕ) → Contains (first ∷ rest) other → first ≤ other
first-lowest first rest rising other has = by_index has.0 has.1 has.2
  where
    by_index : (k : ℕ) → k < suc (length rest) → get_or (first ∷ rest) k other ≡ other → first ≤ other
    by_index zero within at = omega (arith, at)
    by_index (suc k) within at = let above = AllPairs-from_increasing (first ∷ rest) rising 0 (suc k) other (omega arith) within in omega (arith, above, at)

-- a place that was chosen and is open again
pub still-open : (slots : List (Option Place)) (table : Place) → is_open slots table ≡ true → slice_set slots table None ≡ slots
still-open slots table still = unchosen-same slots table (open-unchosen slots table still)

-- another row of a table is chosen, or none
pub within-set : (slots now : List (Option Place)) (table : Place) → table < length slots → slice_set now table None ≡ slots → table < length now
within-set slots now table within same = omega (arith, within, ap length same, length-set now table None)

chosen_rows-again : (now : List (Option Place)) (table other : Place) → is_chosen (slice_set now table None) other ≡ true → is_chosen now other ≡ true
chosen_rows-again [] table other is = is
chosen_rows-again (slot ∷ now) zero zero is = absurd (false≢true is)
chosen_rows-again (slot ∷ now) zero (suc other) is = is
chosen_rows-again (slot ∷ now) (suc table) zero is = is
chosen_rows-again (slot ∷ now) (suc table) (suc other) is = chosen_rows-again now table other is

-- the first of some stages, and the others
pub all-first : {X : Type 0} (P : X → Type 0) (xs : List X) (x : X) (rest : List X) → All P xs → xs ≡ x ∷ rest → P x
all-first P xs x rest all is = let each : All P (x ∷ rest) = subst (λ l. All P l) is all in each 0 x (omega arith)

pub all-rest : {X : Type 0} (P : X → Type 0) (xs : List X) (x : X) (rest : List X) → All P xs → xs ≡ x ∷ rest → All P rest
all-rest P xs x rest all is = let each : All P (x ∷ rest) = subst (λ l. All P l) is all in λ k d within. each (suc k) d (omega arith)

pub covers-first : (stages : List Stage) (stage : Stage) (rest : List Stage) (slots : List (Option Place)) → Covers stages slots → stages ≡ stage ∷ rest → Covers (stage ∷ rest) slots
covers-first stages stage rest slots covers is = let P : List Stage → Type 0 = λ l. Covers l slots in subst P is covers

module _ (choices : Choices) (query : Masked) (sets : List KeyedRows) where
  covers-all : (order : List Place) (stages : List Stage) (slots : List (Option Place)) → map (λ stage. stage.table) stages ≡ order → length slots ≡ length sets → ((table : Place) → table < length sets → Contains order table) → Covers stages slots
  covers-all order stages slots tables long whole table within = inr (subst (λ (l : List Place). Contains l table) (sym tables) (whole table (omega (arith, long))))

  -- one more stage
  pub stages-more : (lists : Bool) (order : List Place) (i : ℕ) (stages more : List Stage) (stage : Stage) → AreWalkable choices query sets lists (take i order) stages → IsWalkable choices query sets stage → (lists ≡ true → stage.is_searched ≡ false)
      → stage.table ≡ get_or order i 0 → i < length order → more ≡ stages ++ stage ∷ [] → AreWalkable choices query sets lists (take (i + 1) order) more
  stages-more lists order i stages more stage so_far walkable listed at within pushed =
      let P : Stage → Type 0 = λ s. IsWalkable choices query sets s × (lists ≡ true → s.is_searched ≡ false) in
      record {
        each = subst (λ l. All P l) (sym pushed) (All-push P stages stage so_far.each (walkable, listed));
        tables =
            ap (λ (l : List Stage). map (λ s. s.table) l) pushed ∙ map_push (λ (s : Stage). s.table) stages stage ∙ (λ j. so_far.tables j ++ at j ∷ []) ∙ sym (take_more order i 0 within);
      }

  -- when all are materialised
  pub all-listed : (order : List Place) (stages : List Stage) → AreWalkable choices query sets true order stages → AreStages choices query sets order stages
  all-listed order stages are = record {
    each = λ k d within. let one = are.each k d within in one.0.listed (one.1 refl);
    tables = are.tables;
  }

  -- at the start of a walk
  pub walk-all : (in_order : Bool) (order : List Place) (stages here : List Stage) (slots : List (Option Place)) → AreWalkable choices query sets false order stages → here ≡ stages → length slots ≡ length sets → ((table : Place) → table < length sets → Contains order table)
      → (in_order ≡ true → IsStrictlyIncreasing order) → CanWalk choices query sets in_order here slots
  walk-all in_order order stages here slots are same long whole rises = record {
    long = long;
    walkable = subst (λ l. All (IsWalkable choices query sets) l) (sym same) (λ k d within. (are.each k d within).0);
    covers = covers-all order here slots (ap (λ (l : List Stage). map (λ s. s.table) l) same ∙ are.tables) long whole;
    rises = λ asked. subst IsStrictlyIncreasing (sym (ap (λ (l : List Stage). map (λ s. s.table) l) same ∙ are.tables)) (rises asked);
  }

  module _ (in_order : Bool) where
    -- after the first stage
    pub walk-first : (stages : List Stage) (stage : Stage) (rest : List Stage) (slots now : List (Option Place)) → CanWalk choices query sets in_order stages slots → stages ≡ stage ∷ rest → now ≡ slots → CanWalk choices query sets in_order (stage ∷ rest) now
    walk-first stages stage rest slots now can first same =
        subst (λ (s : List (Option Place)). CanWalk choices query sets in_order (stage ∷ rest) s) (sym same) (subst (λ (l : List Stage). CanWalk choices query sets in_order l slots) first can)

    -- when another row of the first stage's table is chosen, or none
    pub walk-again : (stage : Stage) (rest : List Stage) (slots now : List (Option Place)) → CanWalk choices query sets in_order (stage ∷ rest) slots → slice_set now stage.table None ≡ slots → CanWalk choices query sets in_order (stage ∷ rest) now
    walk-again stage rest slots now can same =
        let as_long : length now ≡ length slots = sym (length-set now stage.table None) ∙ ap length same in
        record {
          long = as_long ∙ can.long;
          walkable = can.walkable;
          covers = λ table within. elim (can.covers table (omega (arith, within, as_long))) as (λ _. (is_chosen now table ≡ true) ⊎ Contains (map (λ (s : Stage). s.table) (stage ∷ rest)) table) [
            | inl chosen_rows ↦ inl (chosen_rows-again now stage.table table (subst (λ (s : List (Option Place)). is_chosen s table ≡ true) (sym same) chosen_rows))
            | inr left ↦ inr left
          ];
          rises = can.rises;
        }

    pub walk-closed : (stages : List Stage) (stage : Stage) (rest : List Stage) (slots : List (Option Place)) → CanWalk choices query sets in_order stages slots → stages ≡ stage ∷ rest → is_open slots stage.table ≡ false → CanWalk choices query sets in_order rest slots
    walk-closed stages stage rest slots can first closed =
        let whole = walk-first stages stage rest slots slots can first refl in
        record {
          long = whole.long;
          walkable = all-rest (IsWalkable choices query sets) stages stage rest can.walkable first;
          covers = covers-closed stage rest slots whole.covers closed;
          rises = λ asked. rises_rest stage.table (map (λ s. s.table) rest) (whole.rises asked);
        }

    pub walk-chosen_rows : (stage : Stage) (rest : List Stage) (slots : List (Option Place)) (place : Place) → CanWalk choices query sets in_order (stage ∷ rest) slots → stage.table < length slots → CanWalk choices query sets in_order rest (slice_set slots stage.table (Some place))
    walk-chosen_rows stage rest slots place can within = record {
      long = let long = can.long in simp length-set long;
      walkable = all-rest (IsWalkable choices query sets) (stage ∷ rest) stage rest can.walkable refl;
      covers = covers-more stage rest slots place can.covers within;
      rises = λ asked. rises_rest stage.table (map (λ s. s.table) rest) (can.rises asked);
    }

    -- in the order of FROM, all tables before an open stage have chosen rows
    pub before-chosen_rows : (stages : List Stage) (stage : Stage) (rest : List Stage) (slots : List (Option Place)) → CanWalk choices query sets in_order stages slots → stages ≡ stage ∷ rest → stage.table < length slots
        → in_order ≡ true → (earlier : Place) → earlier < stage.table → is_chosen slots earlier ≡ true
    before-chosen_rows stages stage rest slots can first within asked earlier lower =
        let whole = walk-first stages stage rest slots slots can first refl in
        elim (whole.covers earlier (omega (arith, lower, within))) as (λ _. is_chosen slots earlier ≡ true) [
          | inl chosen_rows ↦ chosen_rows
          | inr left ↦ let lowest = first-lowest stage.table (map (λ s. s.table) rest) (whole.rises asked) earlier left in absurd (omega (arith, lowest, lower))
        ]

-- an order that contains each table once
pub below-order : (n : ℕ) (order : List Place) → IsPermutation (range_with_len 0 n) order → All (λ table. table < n) order
below-order n order moved = All-permutation (λ table. table < n) (range_with_len 0 n) order moved (λ k d within. let l : k < n = simp length-range_with_len at within in rw (get_or-range_with_len 0 n k d l) (omega arith))

pub whole-order : (n : ℕ) (order : List Place) → IsPermutation (range_with_len 0 n) order → (table : Place) → table < n → Contains order table
whole-order n order moved table within = Contains-permutation (range_with_len 0 n) order table moved (table, simp length-range_with_len within, get_or-range_with_len 0 n table table within ∙ zero-add table)

-- ---- places in a set
module _ (limit : ℕ) (visited : List (List Place)) (found : List (List Place)) (are : AreFound (λ places. has_places places visited ≡ true) limit found) where
  -- there are too many, whatever follows
  pub found-enough : (more : List (List Place)) → limit < length found → AreFound (λ places. has_places places (visited ++ more) ≡ true) limit found
  found-enough more many = record {
    sound = λ places has. has-both places visited more ∙ or_left (has_places places visited) (has_places places more) (are.sound places has);
    whole = λ few. absurd (omega (arith, few, many));
  }

  -- one combination more
  pub found-more : (places : List Place) (after : List (List Place)) → length found ≤ limit → HasOnePlaceMore places found after → AreFound (λ other. has_places other (visited ++ places ∷ []) ≡ true) limit after
  found-more places after few added = record {
    sound = λ other has. seen other ∙ swapped (is_eq (slice_cmp nat_cmp other places)) (has_places other visited) (or-cases (is_eq (slice_cmp nat_cmp other places)) (has_places other found) (sym (added other) ∙ has)) (are.sound other);
    whole = λ few_still other has. added other ∙ back (is_eq (slice_cmp nat_cmp other places)) (has_places other visited) (has_places other found) (sym (seen other) ∙ has) (are.whole few other);
  }
    where
      seen : (other : List Place) → has_places other (visited ++ places ∷ []) ≡ (has_places other visited || (is_eq (slice_cmp nat_cmp other places) || false))
      seen other = has-both other visited (places ∷ [])

      swapped : (new old : Bool) {X : Type 0} → (new ≡ true) ⊎ X → (X → old ≡ true) → (old || (new || false)) ≡ true
      swapped new true is sound = refl
      swapped new false (inl e) sound = ap (λ b. b || false) e
      swapped new false (inr x) sound = absurd (false≢true (sound x))

      back : (new old had : Bool) → (old || (new || false)) ≡ true → (old ≡ true → had ≡ true) → (new || had) ≡ true
      back true old had e whole = refl
      back false true had e whole = whole refl
      back false false had e whole = absurd (false≢true e)

-- at the start nothing is visited or found
pub found-none : (limit : ℕ) (found : List (List Place)) → found ≡ [] → AreFound (λ places. has_places places [] ≡ true) limit found
found-none limit found none = record {
  sound = λ places has. sym (ap (has_places places) none) ∙ has;
  whole = λ few places has. absurd (false≢true has);
}

-- at the end, the combinations visited are those of a kind
pub found-are : (Is : List Place → Type 0) (limit : ℕ) (visited found : List (List Place)) → ((places : List Place) → has_places places visited ≡ true → Is places) → ((places : List Place) → Is places → has_places places visited ≡ true)
    → AreFound (λ places. has_places places visited ≡ true) limit found → AreFound Is limit found
found-are Is limit visited found there back are = record { sound = λ places has. there places (are.sound places has); whole = λ few places is. are.whole few places (back places is) }
