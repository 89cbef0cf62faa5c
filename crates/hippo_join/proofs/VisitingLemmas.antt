-- The qualifying combinations that are visited, place by place.
use Rattle.std.proofs.Common.{◌≡◌, ℕ, zero, suc, ◌+◌, ◌<◌, ◌≤◌, Bool, true, false, ◌&&◌, ◌||◌, cond, not, List, [], ◌∷◌, ◌++◌, map, length, get_or, refl, sym, ap, subst, ◌∙◌, append_assoc, arith, Option, Some, None, inl, inr, ◌⊎◌, nat_eq, replicate, zero-add, unwrap_or}
use Rattle.std.proofs.Math.Dec.{eqb, eqb-suc-zero}
use Rattle.std.specs.Prelude.{filter, slice_get, slice_set, Result, Ok, Err, IfOk, OnOk}
use Rattle.std.specs.List.{All, AllByRecursion, Contains, range_with_len}
use Rattle.std.specs.List.Sorted.{IsStrictlyIncreasing, IsStrictlySortedBy}
use Rattle.std.specs.Option.{option_map_or}
use Rattle.std.specs.Ordering.{is_eq, nat_cmp}
use Rattle.std.specs.Cmp.Lexicographic.{slice_cmp}
use Rattle.std.specs.declared.cmp.Ordering.TheVariants.{Less}
use Rattle.std.proofs.lemmas.Bool.{and_parts, false≢true, or_left, or_right}
use Rattle.std.proofs.lemmas.Bool.Decides.{nat_tests}
use Rattle.std.proofs.lemmas.List.{append-nil, length-map, map-append, set-set}
use Rattle.std.proofs.lemmas.List.FromFn.{get_or-range_with_len, length-range_with_len}
use Rattle.std.proofs.lemmas.List.Kept.{AllPairs-from_increasing, IsStrictlySortedBy-filter}
use Rattle.std.proofs.lemmas.Option.{slice_get-get_or}
use Rattle.hippo_model.specs.declared.query.Masked.{Masked}
use Rattle.hippo_model.specs.Terms.{Combination, Place}
use Rattle.hippo_tables_keyed.specs.RowSets.{KeyedRows}
use Rattle.hippo_model.specs.declared.born_row.BornRow.{BornRow}
use Rattle.hippo_model.specs.Masking.{Choices, is_guarded, masked_passes}
use Rattle.hippo_values.specs.declared.memory.Memory.{Memory}
use Rattle.hippo_eval.specs.Walks.{KeptAfter}
use Rattle.hippo_eval.specs.declared.walks.Onward.{Onward}
use Rattle.hippo_eval.specs.declared.walks.Onward.TheVariants.{More, Enough}
use Rattle.hippo_join_lookups.specs.Places.{Fits, are_there, blank, chosen_rows, in_range, places_of, row_at_place, rows_at, stands, stays}
use Rattle.hippo_join_lookups.specs.Known.{is_chosen, is_open}
use Rattle.hippo_join_stages.specs.Finding.{has_places, IsRising}
use Rattle.hippo_join_stages.specs.Stages.{Counts, ReachesFrom}
use Rattle.hippo_join_stages.specs.Walking.{CanWalk}
use Rattle.hippo_join_stages.specs.declared.stages.Stage.{Stage}
use Rattle.hippo_join_stages.specs.Visiting.{Completes, KeptOn, AreAll, Visited}
use Rattle.hippo_join_lookups.proofs.PlaceSteps.{below_or_at, get_or_default, rises-range}
use Rattle.hippo_join.proofs.ExistenceLemmas.{Fits-unset, all-chosen_rows, fits-itself}
use Rattle.hippo_join_stages.proofs.FindingLemmas.{before-chosen_rows, counts-is, open-unchosen, open-within, walk-again, walk-chosen_rows, walk-closed}
use Rattle.hippo_join_stages.proofs.FoundLemmas.{has-both, has-filter, has-first, or-cases, same_places}
use Rattle.hippo_join_stages.proofs.ProductLemmas.{Below, rising-append, same-first, has-places_of, rising-places_of}
use Rattle.hippo_join_lookups.proofs.PruneLemmas.{below-rows, in-range, long-enough}
use Rattle.hippo_join_lookups.proofs.SlotLemmas.{Fits-open, Fits-set, Fits-whole, rows-chosen, there-set, there-whole}
use Rattle.hippo_join.specs.Walked.{Join, CanGoOn, StandAt}

not_true : (b : Bool) → ¬ (b ≡ true) → b ≡ false
not_true true no_way = absurd (no_way refl)
not_true false no_way = refl

true_or_not : (b : Bool) → (b ≡ true) ⊎ (b ≡ false)
true_or_not true = inl refl
true_or_not false = inr refl

module _ {A : Type 0} where
  pub none-left : (xs : List A) → eqb (length xs) 0 ≡ true → xs ≡ []
  none-left [] none = refl
  none-left (x ∷ xs) none = absurd (false≢true (sym (eqb-suc-zero (length xs)) ∙ none))

  pub none-counted : (xs : List A) → length xs ≡ 0 → xs ≡ []
  none-counted [] none = refl
  none-counted (x ∷ xs) none = absurd (omega (arith, none))

  -- when one test implies another, the narrower one is enough
  pub filter-implied : (wide narrow : A → Bool) → ((x : A) → narrow x ≡ true → wide x ≡ true) → (xs : List A) → filter narrow (filter wide xs) ≡ filter narrow xs
  filter-implied wide narrow implied [] = refl
  filter-implied wide narrow implied (x ∷ xs) =
      let later = filter-implied wide narrow implied xs in
      elim (wide x) as (λ w. (narrow x ≡ true → w ≡ true) → filter narrow (cond w (x ∷ filter wide xs) (filter wide xs)) ≡ cond (narrow x) (x ∷ filter narrow xs) (filter narrow xs)) [
        | true ↦ λ _. λ i. cond (narrow x) (x ∷ later i) (later i)
        | false ↦ λ only.
            let none : narrow x ≡ false = not_true (narrow x) (λ yes. false≢true (only yes)) in
            later ∙ sym (λ i. cond (none i) (x ∷ filter narrow xs) (filter narrow xs))
      ] (implied x)

-- ---- lists of places
has_alone : (places other : List Place) → has_places places (other ∷ []) ≡ true → places ≡ other
has_alone places other has = elim (or-cases (is_eq (slice_cmp nat_cmp places other)) false has) as (λ _. places ≡ other) [
  | inl same ↦ same_places places other same
  | inr wrong ↦ absurd (false≢true wrong)
]

each_has : (P : List Place → Type 0) (some : List (List Place)) → ((places : List Place) → has_places places some ≡ true → P places) → AllByRecursion P some
each_has P [] all = tt
each_has P (first ∷ some) all = (all first (has-first first some), each_has P some (λ places has. all places (or_right (is_eq (slice_cmp nat_cmp places first)) (has_places places some) has)))

rising_both : (some more : List (List Place)) → IsRising some → IsRising more → ((p q : List Place) → has_places p some ≡ true → has_places q more ≡ true → slice_cmp nat_cmp p q ≡ Less) → IsRising (some ++ more)
rising_both some more a b lower = rising-append some more a b (each_has (λ p. Below p more) some (λ p has. each_has (λ q. slice_cmp nat_cmp p q ≡ Less) more (λ q there. lower p q has there)))

-- ---- all combinations of a kind
module _ (in_order : Bool) where
  are_same : (P Q : List Place → Type 0) (all : List (List Place)) → ((places : List Place) → P places → Q places) → ((places : List Place) → Q places → P places) → AreAll P in_order all → AreAll Q in_order all
  are_same P Q all there back are = record { sound = λ places has. there places (are.sound places has); whole = λ places is. are.whole places (back places is); rising = are.rising }

  are_both : (P Q : List Place → Type 0) (some more : List (List Place)) → (in_order ≡ true → (p q : List Place) → P p → Q q → slice_cmp nat_cmp p q ≡ Less) → AreAll P in_order some → AreAll Q in_order more → AreAll (λ places. P places ⊎ Q places) in_order (some ++ more)
  are_both P Q some more lower a b = record {
    sound = λ places has. elim (or-cases (has_places places some) (has_places places more) (sym (has-both places some more) ∙ has)) as (λ _. P places ⊎ Q places) [
      | inl left ↦ inl (a.sound places left)
      | inr right ↦ inr (b.sound places right)
    ];
    whole = λ places is. has-both places some more ∙ (elim is as (λ _. (has_places places some || has_places places more) ≡ true) [
      | inl left ↦ or_left (has_places places some) (has_places places more) (a.whole places left)
      | inr right ↦ or_right (has_places places some) (has_places places more) (b.whole places right)
    ]);
    rising = λ asked. rising_both some more (a.rising asked) (b.rising asked) (λ p q has there. lower asked p q (a.sound p has) (b.sound q there));
  }

  are_none : (P : List Place → Type 0) → ((places : List Place) → ¬ P places) → AreAll P in_order []
  unfolding IsStrictlySortedBy
  are_none P none = record { sound = λ places has. absurd (false≢true has); whole = λ places is. absurd (none places is); rising = λ asked. tt }

  are_one : (P : List Place → Type 0) (places : List Place) → P places → ((other : List Place) → P other → places ≡ other) → AreAll P in_order (places ∷ [])
  unfolding IsStrictlySortedBy
  are_one P places is only = record {
    sound = λ other has. subst P (sym (has_alone other places has)) is;
    whole = λ other too. subst (λ (one : List Place). has_places one (places ∷ []) ≡ true) (only other too) (has-first places []);
    rising = λ asked. (tt, tt);
  }

-- ---- slots
at_place : (slots : List (Option Place)) (places : List Place) (table place : ℕ) → table < length slots → Fits (slice_set slots table (Some place)) places → slice_get places table ≡ Some place
at_place [] places table place within fits = absurd (omega (arith, within))
at_place (slot ∷ slots) [] zero place within fits = absurd fits
at_place (slot ∷ slots) [] (suc table) place within fits = absurd fits
at_place (slot ∷ slots) (first ∷ places) zero place within fits = ap Some (sym fits.0)
at_place (None ∷ slots) (first ∷ places) (suc table) place within fits = at_place slots places table place (omega (arith, within)) fits
at_place (Some fixed ∷ slots) (first ∷ places) (suc table) place within fits = at_place slots places table place (omega (arith, within)) fits.1

-- the rows, after that of a table is no longer chosen
pub rows-left : (sets : List KeyedRows) (slots : List (Option Place)) (table : ℕ) → table < length slots → slice_set (rows_at sets slots) table blank ≡ rows_at sets (slice_set slots table None)
rows-left [] slots table within = refl
rows-left (set ∷ sets) [] table within = absurd (omega (arith, within))
rows-left (set ∷ sets) (slot ∷ slots) zero within = refl
rows-left (set ∷ sets) (slot ∷ slots) (suc table) within = ap (λ (rows : Combination). option_map_or (row_at_place set.rows) slot blank ∷ rows) (rows-left sets slots table (omega (arith, within)))

-- combinations with the same rows before a table, and other rows in it
lower_at : (slots : List (Option Place)) (p q : List Place) (table a b : ℕ) → Fits slots p → Fits slots q → ((before : ℕ) → before < table → is_chosen slots before ≡ true) → slice_get p table ≡ Some a → slice_get q table ≡ Some b → a < b → slice_cmp nat_cmp p q ≡ Less
lower_at slots [] q table a b fits_p fits_q chosen at_p at_q below = absurd cc
lower_at slots (x ∷ p) [] table a b fits_p fits_q chosen at_p at_q below = absurd cc
lower_at [] (x ∷ p) (y ∷ q) table a b fits_p fits_q chosen at_p at_q below = absurd fits_p
lower_at (slot ∷ slots) (x ∷ p) (y ∷ q) zero a b fits_p fits_q chosen at_p at_q below =
    let lower : x < y = subst (λ (m : ℕ). x < m) (sym (one at_q)) (subst (λ (m : ℕ). m < b) (sym (one at_p)) below) in
    let less : nat_cmp x y ≡ Less = grind (arith, nat_tests) in
    rw less refl
  where
    one : {m n : ℕ} → Some m ≡ Some n → m ≡ n
    one e = cc
lower_at (None ∷ slots) (x ∷ p) (y ∷ q) (suc table) a b fits_p fits_q chosen at_p at_q below = absurd (false≢true (chosen 0 (omega arith)))
lower_at (Some fixed ∷ slots) (x ∷ p) (y ∷ q) (suc table) a b fits_p fits_q chosen at_p at_q below =
    ap (λ (first : ℕ). slice_cmp nat_cmp (first ∷ p) (y ∷ q)) (sym fits_p.0 ∙ fits_q.0) ∙ same-first y (slice_cmp nat_cmp p q)
    ∙ lower_at slots p q table a b fits_p.1 fits_q.1 (λ before within. chosen (suc before) (omega (arith, within))) at_p at_q below

-- whether places agree with the chosen ones, as a test
abbrev fits : List (Option Place) → List Place → Bool
fits [] [] = true
fits [] (place ∷ places) = false
fits (slot ∷ slots) [] = false
fits (None ∷ slots) (place ∷ places) = fits slots places
fits (Some fixed ∷ slots) (place ∷ places) = nat_eq fixed place && fits slots places

fits_so : (slots : List (Option Place)) (places : List Place) → fits slots places ≡ true → Fits slots places
fits_so [] [] e = tt
fits_so [] (place ∷ places) e = absurd (false≢true e)
fits_so (slot ∷ slots) [] e = absurd (false≢true e)
fits_so (None ∷ slots) (place ∷ places) e = fits_so slots places e
fits_so (Some fixed ∷ slots) (place ∷ places) e =
    let both = and_parts (nat_eq fixed place) (fits slots places) e in
    let test : nat_eq fixed place ≡ true = both.0 in
    (grind (arith, nat_tests), fits_so slots places both.1)

fits_test : (slots : List (Option Place)) (places : List Place) → Fits slots places → fits slots places ≡ true
fits_test [] [] e = refl
fits_test [] (place ∷ places) e = absurd e
fits_test (slot ∷ slots) [] e = absurd e
fits_test (None ∷ slots) (place ∷ places) e = fits_test slots places e
fits_test (Some fixed ∷ slots) (place ∷ places) e =
    let same : fixed ≡ place = e.0 in
    let test : nat_eq fixed place ≡ true = grind (arith, nat_tests) in
    λ i. test i && fits_test slots places e.1 i

-- ---- the places of a stage, one after the other
-- a qualifying combination that has one of the first places of a stage
pub record Tried
    (choices : Choices) (query : Masked) (sets : List KeyedRows) (slots : List (Option Place)) (table : Place) (some : List Place) (i : ℕ) (places : List Place) : Type 0 where
  pub completes : Completes choices query sets slots places
  pub k : ℕ
  pub lower : k < i
  pub at : slice_get places table ≡ Some (get_or some k 0)

-- a stage whose table's row is chosen next, and its candidate places
pub record IsNext
    (choices : Choices) (query : Masked) (sets : List KeyedRows) (in_order : Bool) (slots : List (Option Place)) (table : Place) (some : List Place) : Type 0 where
  pub within : table < length slots
  pub long : length slots ≡ length sets
  pub unchosen : is_chosen slots table ≡ false
  pub before : in_order ≡ true → (earlier : Place) → earlier < table → is_chosen slots earlier ≡ true
  pub reaches : ReachesFrom choices query sets slots table some
  pub rises : in_order ≡ true → IsStrictlyIncreasing some

pub is-next : (choices : Choices) (query : Masked) (sets : List KeyedRows) (in_order : Bool) (stages : List Stage) (stage : Stage) (rest : List Stage) (slots : List (Option Place)) (some : List Place) → CanWalk choices query sets in_order stages slots → stages ≡ stage ∷ rest → is_open slots stage.table ≡ true
    → ReachesFrom choices query sets slots stage.table some → (in_order ≡ true → IsStrictlyIncreasing some) → IsNext choices query sets in_order slots stage.table some
is-next choices query sets in_order stages stage rest slots some can first open_here reaches rises =
    let within = open-within slots stage.table open_here in
    record {
      within = within;
      long = can.long;
      unchosen = open-unchosen slots stage.table open_here;
      before = before-chosen_rows choices query sets in_order stages stage rest slots can first within;
      reaches = reaches;
      rises = rises;
    }

module _ (choices : Choices) (query : Masked) (sets : List KeyedRows) (in_order : Bool) (slots : List (Option Place)) (table : Place) (some : List Place) (next : IsNext choices query sets in_order slots table some) where
  abbrev Is : List Place → Type 0
  Is = Completes choices query sets slots

  abbrev Has : Place → List Place → Type 0
  Has place = Completes choices query sets (slice_set slots table (Some place))

  abbrev Those : ℕ → List Place → Type 0
  Those = Tried choices query sets slots table some

  less : (k n : ℕ) (p q : List Place) → Is p → Is q → in_order ≡ true → k < n → n < length some → slice_get p table ≡ Some (get_or some k 0) → slice_get q table ≡ Some (get_or some n 0) → slice_cmp nat_cmp p q ≡ Less
  less k n p q is_p is_q asked lower within at_p at_q =
      lower_at slots p q table (get_or some k 0) (get_or some n 0) is_p.0 is_q.0 (next.before asked) at_p at_q (AllPairs-from_increasing some (next.rises asked) k n 0 lower within)

  with_place : (place : Place) (places : List Place) → Has place places → Is places × (slice_get places table ≡ Some place)
  with_place place places has = ((Fits-unset slots places table place next.unchosen has.0, has.1), at_place slots places table place next.within has.0)

  reached : (places : List Place) → Is places → Those (length some) places
  reached places is =
      let long = long-enough choices query sets places is.1 in
      let at = slice_get-get_or places table 0 (omega (arith, long, next.within, next.long)) in
      let has = next.reaches places is.0 is.1 (get_or places table 0) at in
      record { completes = is; k = has.0; lower = has.1; at = at ∙ ap Some (sym (get_or_default some has.0 (get_or places table 0) 0 has.1 ∙ has.2)) }

  all_tried : (i : ℕ) (all : List (List Place)) → length some ≤ i → AreAll (Those i) in_order all → AreAll Is in_order all
  all_tried i all past are = are_same in_order (Those i) Is all (λ places tried. tried.completes)
      (λ places is. let last = reached places is in record { completes = is; k = last.k; lower = omega (arith, last.lower, past); at = last.at }) are

  tried_more : (i : ℕ) (all more : List (List Place)) → i < length some → AreAll (Those i) in_order all → AreAll (Has (get_or some i 0)) in_order more → AreAll (Those (i + 1)) in_order (all ++ more)
  tried_more i all more within are here =
      are_same in_order (λ places. Those i places ⊎ Has (get_or some i 0) places) (Those (i + 1)) (all ++ more)
      (λ places is. elim is as (λ _. Those (i + 1) places) [
        | inl tried ↦ record { completes = tried.completes; k = tried.k; lower = omega (arith, tried.lower); at = tried.at }
        | inr has ↦ let both = with_place (get_or some i 0) places has in record { completes = both.0; k = i; lower = omega arith; at = both.1 }
      ])
      (λ places tried. elim (below_or_at tried.k i tried.lower) as (λ _. Those i places ⊎ Has (get_or some i 0) places) [
        | inl earlier ↦ inl (record { completes = tried.completes; k = tried.k; lower = earlier; at = tried.at })
        | inr last ↦ inr (Fits-set slots places table (get_or some i 0) tried.completes.0 (tried.at ∙ ap (λ (j : ℕ). Some (get_or some j 0)) last), tried.completes.1)
      ])
      (are_both in_order (Those i) (Has (get_or some i 0)) all more
      (λ asked p q tried has. let both = with_place (get_or some i 0) q has in less tried.k i p q tried.completes both.0 asked tried.lower within tried.at both.1) are here)

  -- the combinations that are left after some of the places were tried
  module _ (i : ℕ) (short : i ≤ length some) (all : List (List Place)) (are : AreAll (Those i) in_order all) where
    abbrev Left : List Place → Type 0
    Left places = Is places × (has_places places all ≡ false)

    abbrev left_test : List Place → Bool
    left_test places = fits slots places && (stands choices query sets places && not (has_places places all))

    abbrev left : List (List Place)
    left = filter left_test (places_of sets)

    has_left : (places : List Place) → has_places places left ≡ (in_range sets places && left_test places)
    has_left places = has-filter left_test places (places_of sets) ∙ ap (λ b. b && left_test places) (has-places_of sets places)

    is_false : (b : Bool) → not b ≡ true → b ≡ false
    is_false true e = absurd (false≢true e)
    is_false false e = refl

    are_left : AreAll Left in_order left
    are_left = record {
      sound = λ places has.
          let parts = and_parts (in_range sets places) (left_test places) (sym (has_left places) ∙ has) in
          let both = and_parts (fits slots places) (stands choices query sets places && not (has_places places all)) parts.1 in
          let two = and_parts (stands choices query sets places) (not (has_places places all)) both.1 in
          ((fits_so slots places both.0, two.0), is_false (has_places places all) two.1);
      whole = λ places is. has_left places ∙ (λ j. in-range choices query sets places is.0.1 j && (fits_test slots places is.0.0 j && (is.0.1 j && not (is.1 j))));
      rising = λ asked. IsStrictlySortedBy-filter (slice_cmp nat_cmp) left_test (places_of sets) (rising-places_of sets);
    }

    at_or_above : (k : ℕ) → (k < i) ⊎ (i ≤ k)
    at_or_above k = grind arith

    with_left : AreAll Is in_order (all ++ left)
    with_left =
        are_same in_order (λ places. Those i places ⊎ Left places) Is (all ++ left)
        (λ places is. elim is as (λ _. Is places) [ inl tried ↦ tried.completes | inr later ↦ later.0 ])
        (λ places is. elim (true_or_not (has_places places all)) as (λ _. Those i places ⊎ Left places) [ inl has ↦ inl (are.sound places has) | inr missing ↦ inr (is, missing) ])
        (are_both in_order (Those i) Left all left
        (λ asked p q tried later.
        let last = reached q later.0 in
        elim (at_or_above last.k) as (λ _. slice_cmp nat_cmp p q ≡ Less) [
          | inl earlier ↦ absurd (false≢true (sym later.1 ∙ are.whole q (record { completes = later.0; k = last.k; lower = earlier; at = last.at })))
          | inr above ↦ less tried.k last.k p q tried.completes later.0 asked (omega (arith, tried.lower, above)) last.lower tried.at last.at
        ]) are are_left)

-- ---- what is kept
module _ {S : Type 0} (keeps : List (List Place) → S → Type 0) (in_order : Bool) where
  pub kept-whole : (onward : Onward) (before these : List (List Place)) (state : S) → KeptOn keeps onward before these state → keeps (before ++ these) state
  kept-whole More before these state kept = kept
  kept-whole Enough before these state kept = subst (λ (all : List (List Place)). keeps all state) (append-nil (before ++ these)) (kept [])

  -- the same combinations, described differently, whether or not a visitor has enough
  pub visited-as : (P Q : List Place → Type 0) (onward : Onward) (before : List (List Place)) (state : S) → ((places : List Place) → P places → Q places) → ((places : List Place) → Q places → P places) → Visited P in_order keeps onward before state → Visited Q in_order keeps More before state
  visited-as P Q onward before state there back visited = record { all = visited.all; are = are_same in_order P Q visited.all there back visited.are; kept = kept-whole onward before visited.all state visited.kept }

  pub visited-none : (P : List Place → Type 0) (before : List (List Place)) (state : S) → ((places : List Place) → ¬ P places) → keeps before state → Visited P in_order keeps More before state
  visited-none P before state none kept = record { all = []; are = are_none in_order P none; kept = subst (λ (all : List (List Place)). keeps all state) (sym (append-nil before)) kept }

  module _ (choices : Choices) (query : Masked) (sets : List KeyedRows) (slots : List (Option Place)) where
    -- when each row is chosen, there is one combination, which qualifies or does not
    pub visited-one : (places : List Place) (onward : Onward) (before : List (List Place)) (state : S) → slots ≡ map Some places → stands choices query sets places ≡ true → KeptOn keeps onward before (places ∷ []) state
        → Visited (Completes choices query sets slots) in_order keeps onward before state
    visited-one places onward before state whole counts kept = record {
      all = places ∷ [];
      are = are_one in_order (Completes choices query sets slots) places (subst (λ (s : List (Option Place)). Fits s places) (sym whole) (fits-itself places), counts) (λ other is. Fits-whole slots other places whole is.0);
      kept = kept;
    }

    pub not-one : (places : List Place) → slots ≡ map Some places → stands choices query sets places ≡ false → (other : List Place) → ¬ Completes choices query sets slots other
    not-one places whole counts other is = false≢true (sym counts ∙ ap (stands choices query sets) (Fits-whole slots other places whole is.0) ∙ is.1)

    module _ (table : Place) (some : List Place) (next : IsNext choices query sets in_order slots table some) (i : ℕ) (before : List (List Place)) (old : S) (so_far : Visited (Tried choices query sets slots table some i) in_order keeps More before old) where
      -- all places of a stage were tried
      pub visited-all : length some ≤ i → Visited (Completes choices query sets slots) in_order keeps More before old
      visited-all past = record { all = so_far.all; are = all_tried choices query sets in_order slots table some next i so_far.all past so_far.are; kept = so_far.kept }

      module _ (within : i < length some) (slots_now : List (Option Place)) (place : Place) (same : slice_set slots_now table None ≡ slots) (is_place : place ≡ get_or some i 0) (onward : Onward) (now : S)
          (here : Visited (Completes choices query sets (slice_set slots_now table (Some place))) in_order keeps onward (before ++ so_far.all) now) where
        both : AreAll (Tried choices query sets slots table some (i + 1)) in_order (so_far.all ++ here.all)
        both =
            tried_more choices query sets in_order slots table some next i so_far.all here.all within so_far.are
            (subst (λ (s : List (Option Place)). AreAll (Completes choices query sets (slice_set s table (Some (get_or some i 0)))) in_order here.all) same
            (subst (λ (s : List (Option Place)). AreAll (Completes choices query sets s) in_order here.all) (sym (set-set slots_now table None (Some (get_or some i 0))))
            (subst (λ (at : Place). AreAll (Completes choices query sets (slice_set slots_now table (Some at))) in_order here.all) is_place here.are)))

        -- one more place, or a place at which the visitor has enough
        pub visited-more : Visited (Tried choices query sets slots table some (i + 1)) in_order keeps More before now
        visited-more = record {
          all = so_far.all ++ here.all;
          are = both;
          kept = subst (λ (all : List (List Place)). keeps all now) (append_assoc before so_far.all here.all) (kept-whole onward (before ++ so_far.all) here.all now here.kept);
        }

        pub visited-enough : onward ≡ Enough → Visited (Completes choices query sets slots) in_order keeps Enough before now
        visited-enough enough =
            let short : i + 1 ≤ length some = omega (arith, within) in
            let rest = left choices query sets in_order slots table some next (i + 1) short (so_far.all ++ here.all) both in
            let kept : (later : List (List Place)) → keeps ((before ++ so_far.all) ++ here.all ++ later) now = subst (λ (o : Onward). KeptOn keeps o (before ++ so_far.all) here.all now) enough here.kept in
            record {
              all = (so_far.all ++ here.all) ++ rest;
              are = with_left choices query sets in_order slots table some next (i + 1) short (so_far.all ++ here.all) both;
              kept = λ later.
                  let joined : ((before ++ so_far.all) ++ here.all) ++ (rest ++ later) ≡ (before ++ ((so_far.all ++ here.all) ++ rest)) ++ later = simp append_assoc in
                  subst (λ (these : List (List Place)). keeps these now) joined (kept (rest ++ later));
            }

-- an order contains all tables
pub below-all : (n : ℕ) (order : List Place) → order ≡ range_with_len 0 n → All (λ table. table < n) order
below-all n order is = subst (λ (l : List Place). All (λ table. table < n) l) (sym is) (λ k d within.
    let short : k < n = omega (arith, within, length-range_with_len 0 n) in
    let at = get_or-range_with_len 0 n k d short in
    omega (arith, short, at))

pub whole-all : (n : ℕ) (order : List Place) → order ≡ range_with_len 0 n → (table : Place) → table < n → Contains order table
whole-all n order is table within = subst (λ (l : List Place). Contains l table) (sym is) (table, omega (arith, within, length-range_with_len 0 n), get_or-range_with_len 0 n table table within ∙ zero-add table)

pub rises-all : (n : ℕ) (order : List Place) → order ≡ range_with_len 0 n → IsStrictlyIncreasing order
rises-all n order is = subst IsStrictlyIncreasing (sym is) (rises-range 0 n)

-- ---- rows of places that are visited
module _ {S : Type 0} (keeps : List Combination → S → Type 0) (sets : List KeyedRows) (front : List Combination) (before : List (List Place)) (places : List Place) (rows : Combination) (state : S) (are : rows ≡ chosen_rows sets places) where
  one_more : (front ++ map (chosen_rows sets) before) ++ rows ∷ [] ≡ front ++ map (chosen_rows sets) (before ++ places ∷ [])
  one_more =
      append_assoc front (map (chosen_rows sets) before) (rows ∷ [])
      ∙ ap (λ (l : List Combination). front ++ l) (ap (λ (last : Combination). map (chosen_rows sets) before ++ last ∷ []) are ∙ sym (map-append (chosen_rows sets) before (places ∷ [])))

  pub rows-kept : (result : Result Onward Memory) → KeptAfter keeps result (front ++ map (chosen_rows sets) before) (rows ∷ []) state → IfOk result (λ onward. KeptOn (λ visited. keeps (front ++ map (chosen_rows sets) visited)) onward before (places ∷ []) state)
  rows-kept (Ok More) kept = subst (λ (l : List Combination). keeps l state) one_more kept
  rows-kept (Ok Enough) kept = λ later.
      let joined =
      ap (λ (l : List Combination). l ++ map (chosen_rows sets) later) one_more ∙ append_assoc front (map (chosen_rows sets) (before ++ places ∷ [])) (map (chosen_rows sets) later)
      ∙ ap (λ (l : List Combination). front ++ l) (sym (map-append (chosen_rows sets) (before ++ places ∷ []) later)) in
      subst (λ (l : List Combination). keeps l state) joined (kept (map (chosen_rows sets) later))
  rows-kept (Err wanted) kept = tt

-- ---- all combinations
pub completes-open : (choices : Choices) (query : Masked) (sets : List KeyedRows) (slots : List (Option Place)) → slots ≡ replicate (length sets) None → (places : List Place) → stands choices query sets places ≡ true → Completes choices query sets slots places
completes-open choices query sets slots none places counts = (subst (λ (s : List (Option Place)). Fits s places) (sym none) (Fits-open places (length sets) (long-enough choices query sets places counts)), counts)

-- ---- candidate places
pub has-at : (some : List Place) (i place : Place) → i < length some → place ≡ get_or some i 0 → Contains some place
has-at some i place within is = (i, within, get_or_default some i 0 place within ∙ sym is)

-- what qualifies with chosen rows still does, whatever row a table had before
pub counts-again : (choices : Choices) (query : Masked) (sets : List KeyedRows) (slots now : List (Option Place)) (table place : Place) → slice_set now table None ≡ slots → Counts choices query sets slots table place → Counts choices query sets now table place
counts-again choices query sets slots now table place same counts =
    subst (λ (s : List (Option Place)). (set : KeyedRows) → slice_get sets table ≡ Some set → place < length set.rows → stays choices query (rows_at sets s) ≡ true)
    (ap (λ (s : List (Option Place)). slice_set s table (Some place)) (sym same) ∙ set-set now table None (Some place)) counts

-- ---- a walk
-- an unconditional fact holds when a call is Ok
pub on-ok : {T E : Type 0} (fact : Type 0) (result : Result T E) → fact → OnOk result fact
on-ok fact (Ok x) holds = holds
on-ok fact (Err e) holds = tt

-- no qualifying combination has a place past the end of a table
pub none-there : (choices : Choices) (query : Masked) (sets : List KeyedRows) (slots : List (Option Place)) (table place : Place) (set : KeyedRows) → table < length slots → slice_get sets table ≡ Some set → length set.rows ≤ place → (places : List Place) → ¬ Completes choices query sets (slice_set slots table (Some place)) places
none-there choices query sets slots table place set within at past places is =
    let below = below-rows sets places table set place (in-range choices query sets places is.1) at (at_place slots places table place within is.0) in
    omega (arith, below, past)

-- when no stage is left, there is one combination, and a test decides whether it qualifies
pub record IsWhole (join : Join) (slots : List (Option Place)) (rows : Combination) (test : Bool) : Type 0 where
  pub places : List Place
  pub whole : slots ≡ map Some places
  pub are : rows ≡ chosen_rows join.sets places
  pub counts : test ≡ stands join.choices join.query join.sets places

module _ (join : Join) where
  pub is-whole : (slots : List (Option Place)) (rows : Combination) (test : Bool) → CanGoOn join [] slots rows → test ≡ (is_guarded join.choices join.query rows && masked_passes join.choices join.query rows) → IsWhole join slots rows test
  is-whole slots rows test can is =
      let places : List Place = map (λ slot. unwrap_or slot 0) slots in
      let whole : slots ≡ map Some places = all-chosen_rows slots places can.can.covers refl in
      let long : length places ≡ length join.sets = sym (length-map places Some) ∙ sym (ap length whole) ∙ can.can.long in
      let are : rows ≡ chosen_rows join.sets places = can.stand.are ∙ ap (rows_at join.sets) whole in
      record {
        places = places;
        whole = whole;
        are = are;
        counts = counts-is join.choices join.query join.sets places rows test (sym (there-whole join.sets places long) ∙ sym (ap (are_there join.sets) whole) ∙ can.stand.there) are is;
      }

  -- a combination that is known to qualify
  pub is-counted : (slots : List (Option Place)) (rows : Combination) → CanGoOn join [] slots rows → stays join.choices join.query rows ≡ true → IsWhole join slots rows true
  unfolding stays
  is-counted slots rows can counts = is-whole slots rows true can (sym counts)

  pub counted-by : (rows : Combination) (test : Bool) → test ≡ (is_guarded join.choices join.query rows && masked_passes join.choices join.query rows) → test ≡ true → stays join.choices join.query rows ≡ true
  unfolding stays
  counted-by rows test is passes = sym is ∙ passes

  module _ (stage : Stage) (rest : List Stage) (slots : List (Option Place)) (rows : Combination) (can : CanGoOn join (stage ∷ rest) slots rows) where
    -- continue with the row at a place of the first stage's table
    pub on-with : (place : Place) (set : KeyedRows) (kept : BornRow) (now : Combination) → stage.table < length slots → slice_get join.sets stage.table ≡ Some set → place < length set.rows → slice_get set.rows place ≡ Some kept → now ≡ slice_set rows stage.table kept
        → CanGoOn join rest (slice_set slots stage.table (Some place)) now
    on-with place set kept now within at below has put = record {
      can = walk-chosen_rows join.choices join.query join.sets join.in_order stage rest slots place can.can within;
      stand = record {
        there = there-set join.sets slots stage.table place set at below can.stand.there;
        are =
            put ∙ ap (λ (own : BornRow). slice_set rows stage.table own) (sym (ap (λ (found : Option BornRow). unwrap_or found blank) has))
            ∙ ap (λ (some : Combination). slice_set some stage.table (row_at_place set.rows place)) can.stand.are ∙ rows-chosen join.sets slots stage.table place set at within;
      };
    }

    -- continue with another row of its table, or none
    pub on-again : (left : List (Option Place)) (now : Combination) → slice_set left stage.table None ≡ slots → StandAt join.sets left now → CanGoOn join (stage ∷ rest) left now
    on-again left now same stand = record { can = walk-again join.choices join.query join.sets join.in_order stage rest slots left can.can same; stand = stand }

    pub next-on : (some : List Place) → is_open slots stage.table ≡ true → ReachesFrom join.choices join.query join.sets slots stage.table some → (join.in_order ≡ true → IsStrictlyIncreasing some) → IsNext join.choices join.query join.sets join.in_order slots stage.table some
    next-on some still reaches rises = is-next join.choices join.query join.sets join.in_order (stage ∷ rest) stage rest slots some can.can refl still reaches rises

  -- continue along the other stages, when the row of the first one's table is already chosen; and
  -- along all
  pub on-closed : (stages : List Stage) (stage : Stage) (rest : List Stage) (slots : List (Option Place)) (rows : Combination) → CanGoOn join stages slots rows → stages ≡ stage ∷ rest → is_open slots stage.table ≡ false → CanGoOn join rest slots rows
  on-closed stages stage rest slots rows can first closed = record { can = walk-closed join.choices join.query join.sets join.in_order stages stage rest slots can.can first closed; stand = can.stand }

  pub on-same : (stages others : List Stage) (slots : List (Option Place)) (rows : Combination) → CanGoOn join stages slots rows → stages ≡ others → CanGoOn join others slots rows
  on-same stages others slots rows can same = let P : List Stage → Type 0 = λ l. CanGoOn join l slots rows in subst P same can
