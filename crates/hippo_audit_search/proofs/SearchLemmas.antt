-- The first places in the common tables that are left.
use Rattle.std.proofs.Common.{◌≡◌, ℕ, zero, suc, ◌+◌, ◌<◌, ◌≤◌, Bool, true, false, List, [], ◌∷◌, map, length, get_or, refl, sym, ap, subst, ◌∙◌, Option, Some, None, unwrap_or, option_map, replicate, take, drop, inl, inr, ◌⊎◌, arith, Result, Ok, Vec, Global}
use Rattle.std.specs.Prelude.{slice_get, slice_set, is_some}
use Rattle.std.specs.List.{All, Contains}
use Rattle.std.specs.List.Sorted.{IsPermutation, IsNonDecreasing}
use Rattle.std.proofs.lemmas.Bool.{false≢true}
use Rattle.std.proofs.lemmas.List.{length-set, set-set, drop_more, drop_all}
use Rattle.std.proofs.lemmas.List.Sorted.{Contains-permutation}
use Rattle.hippo_values.specs.declared.memory.Memory.{Memory}
use Rattle.hippo_model.specs.declared.query.Expr.{Expr}
use Rattle.hippo_model.specs.declared.query.Masked.{Masked}
use Rattle.hippo_model.specs.Terms.{Place}
use Rattle.hippo_tables_keyed.specs.RowSets.{KeyedRows}
use Rattle.hippo_model.specs.Masking.{Choices}
use Rattle.hippo_join_lookups.specs.Places.{slot_at}
use Rattle.hippo_join_lookups.specs.Known.{is_chosen}
use Rattle.hippo_join.specs.Existence.{HasOne}
use Rattle.hippo_join_stages.specs.Stages.{ReachesFrom, IsStage, AreStages}
use Rattle.hippo_join_lookups.proofs.PlaceSteps.{below_or_at, get_or_default}
use Rattle.hippo_join.proofs.ExistenceLemmas.{Fits-unset}
use Rattle.hippo_join_lookups.proofs.SlotLemmas.{Fits-at}
use Rattle.hippo_join_stages.specs.declared.stages.Stage.{Stage}
use Rattle.hippo_audit_common.specs.declared.commons.CommonStages.{CommonStages}
use Rattle.hippo_audit_search.specs.declared.searching.Search.{Search}
use Rattle.hippo_audit_search.specs.FirstPlaces.{AreOpen, AreWhole, AreFirst, IsFirst, with_rows}
use Rattle.hippo_audit_search.specs.Searching.{Slots, query_tables, audit_tables, FindsFirst, HasOneOf, IsSearchReady, IsStageOf, ReachesOf, Shared}
use Rattle.hippo_audit_search.proofs.SideLemmas.{set-here, share-both, one-agrees}

pub reaches-moved : (choices : Choices) (query : Masked) (sets : List KeyedRows) (slots : List (Option Place)) (table : Place) (some these sorted : List Place) → ReachesFrom choices query sets slots table some → these ≡ some → IsPermutation these sorted
    → ReachesFrom choices query sets slots table sorted
reaches-moved choices query sets slots table some these sorted reaches same moved = λ places fits counts place at.
    Contains-permutation these sorted place moved (subst (λ (l : List Place). Contains l place) (sym same) (reaches places fits counts place at))

pub in-either : (choices : Choices) (query : Masked) (sets : List KeyedRows) (slots : List (Option Place)) (table : Place) (own : List Place) (other_choices : Choices) (other : Masked) (other_sets : List KeyedRows) (other_slots : List (Option Place)) (other_table : Place) (others : List Place)
    (these sorted : List Place) → ReachesFrom choices query sets slots table own → ReachesFrom other_choices other other_sets other_slots other_table others → ((these ≡ own) ⊎ (these ≡ others)) → IsPermutation these sorted
    → ReachesFrom choices query sets slots table sorted ⊎ ReachesFrom other_choices other other_sets other_slots other_table sorted
in-either choices query sets slots table own other_choices other other_sets other_slots other_table others these sorted reaches reached either moved =
    elim either as (λ _. ReachesFrom choices query sets slots table sorted ⊎ ReachesFrom other_choices other other_sets other_slots other_table sorted) [
      | inl same ↦ inl (reaches-moved choices query sets slots table own these sorted reaches same moved)
      | inr same ↦ inr (reaches-moved other_choices other other_sets other_slots other_table others these sorted reached same moved)
    ]

-- a row that may be chosen is among those that a stage reaches
pub reach-one : (choices : Choices) (query : Masked) (seen : List Expr) (sets : List KeyedRows) (slots : List (Option Place)) (table : Place) (some : List Place) (place : Place) → slice_get slots table ≡ Some None → ReachesFrom choices query sets slots table some
    → HasOne choices query seen sets (slice_set slots table (Some place)) → Contains some place
reach-one choices query seen sets slots table some place free reaches one =
    let more = slice_set slots table (Some place) in
    let here : slot_at more table ≡ Some place = ap (λ (o : Option (Option Place)). unwrap_or o None) (set-here slots table (Some place) None free) in
    let unchosen : is_chosen slots table ≡ false = ap (λ (o : Option (Option Place)). is_some (unwrap_or o None)) free in
    reaches one.places (Fits-unset slots one.places table place unchosen one.fits) one.counts place (Fits-at more one.places table place one.fits here)

-- no place of a list before a certain one is the first for which both sides have a combination
abbrev pub NoneSoFar : {C : Type 0} → (C → Choices) → Search C → List CommonStages → Slots → Slots → List Place → ℕ → Type 0
NoneSoFar choices sides left query audit places i =
    (k : ℕ) → k < i → (others : List Place) → ¬ Shared choices sides left query audit (get_or places k 0 ∷ others)

length-tables : (left : List CommonStages) → length (query_tables left) ≡ length (audit_tables left)
length-tables [] = refl
length-tables (stages ∷ left) = ap suc (length-tables left)

module _ {C : Type 0} (choices : C → Choices) (sides : Search C) where
  -- ---- what a search requires
  pub ready-none : (common : List CommonStages) (query audit : Slots) → IsSearchReady choices sides common query audit → IsSearchReady choices sides [] query audit
  ready-none common query audit ready = record {
    query_stages = ready.query_stages;
    audit_stages = ready.audit_stages;
    query_left = λ k d within. absurd (omega arith);
    audit_left = λ k d within. absurd (omega arith);
    query_long = ready.query_long;
    audit_long = ready.audit_long;
    query_open = tt;
    audit_open = tt;
  }

  pub ready-next : (stages : CommonStages) (rest : List CommonStages) (query audit : Slots) (place : Place) → IsSearchReady choices sides (stages ∷ rest) query audit
      → IsSearchReady choices sides rest (slice_set query stages.query.now.table (Some place)) (slice_set audit stages.audit.now.table (Some place))
  ready-next stages rest query audit place ready = record {
    query_stages = ready.query_stages;
    audit_stages = ready.audit_stages;
    query_left = λ k d within. ready.query_left (suc k) d (omega (arith, within));
    audit_left = λ k d within. ready.audit_left (suc k) d (omega (arith, within));
    query_long = length-set query stages.query.now.table (Some place) ∙ ready.query_long;
    audit_long = length-set audit stages.audit.now.table (Some place) ∙ ready.audit_long;
    query_open = ready.query_open.1 place;
    audit_open = ready.audit_open.1 place;
  }

  pub ready-same : (left : List CommonStages) (query query_now audit audit_now : Slots) → query_now ≡ query → audit_now ≡ audit → IsSearchReady choices sides left query audit → IsSearchReady choices sides left query_now audit_now
  ready-same left query query_now audit audit_now same_query same_audit ready =
      subst (λ (slots : Slots). IsSearchReady choices sides left slots audit_now) (sym same_query) (subst (λ (slots : Slots). IsSearchReady choices sides left query slots) (sym same_audit) ready)

  -- both sides have a combination with the rows that are already chosen
  share-ones : (left : List CommonStages) (query audit : Slots) (given : List Place) → AreOpen (query_tables left) query → AreOpen (audit_tables left) audit → Shared choices sides left query audit given
      → HasOneOf choices sides.query.now sides.seen.now query × HasOneOf choices sides.audit.now [] audit
  share-ones left query audit given query_open audit_open share =
      let both = share-both (HasOneOf choices sides.query.now sides.seen.now) (HasOneOf choices sides.audit.now []) (query_tables left) (audit_tables left) query audit given share in (
        (one-agrees (choices sides.query.now.choices.now) sides.query.now.query.now sides.seen.now sides.query.now.sets.now (query_tables left) given query query_open both.0 both.1).0,
        (one-agrees (choices sides.audit.now.choices.now) sides.audit.now.query.now [] sides.audit.now.sets.now (audit_tables left) given audit audit_open (both.0 ∙ length-tables left) both.2).0,
      )

  pub none-may : (left : List CommonStages) (query audit : Slots) → IsSearchReady choices sides left query audit → (may : Bool)
      → (HasOneOf choices sides.query.now sides.seen.now query → HasOneOf choices sides.audit.now [] audit → may ≡ true) → may ≡ false → IsFirst (Shared choices sides left query audit) None
  none-may left query audit ready may told not given share =
      let ones = share-ones left query audit given ready.query_open ready.audit_open share in
      false≢true (sym not ∙ told ones.0 ones.1)

  pub first-same : (left : List CommonStages) (query audit : Slots) (here found : Option (Vec ℕ Global)) → here ≡ found
      → IsFirst (Shared choices sides left query audit) (option_map (λ (places : Vec ℕ Global). places.items) found) → IsFirst (Shared choices sides left query audit) (option_map (λ (places : Vec ℕ Global). places.items) here)
  first-same left query audit here found is first =
      subst (λ (o : Option (Vec ℕ Global)). IsFirst (Shared choices sides left query audit) (option_map (λ (places : Vec ℕ Global). places.items) o)) (sym is) first

  -- ---- a stage's places are tried one after the other
  module _ (common : List CommonStages) (stages : CommonStages) (rest : List CommonStages) (split : common ≡ stages ∷ rest) (query audit : Slots) (ready : IsSearchReady choices sides common query audit) where
    pub split-ready : IsSearchReady choices sides (stages ∷ rest) query audit
    split-ready = subst (λ (left : List CommonStages). IsSearchReady choices sides left query audit) split ready

    pub first-stages : IsStageOf choices sides.query.now stages.query.now × IsStageOf choices sides.audit.now stages.audit.now
    first-stages = (split-ready.query_left 0 stages.query.now (omega arith), split-ready.audit_left 0 stages.audit.now (omega arith))

    abbrev Shares : List Place → Type 0
    Shares given = Shared choices sides (stages ∷ rest) query audit given

    module _ (some these : List Place) (is : some ≡ these) (sorted : IsNonDecreasing these)
        (reach : ReachesOf choices sides.query.now stages.query.now query these ⊎ ReachesOf choices sides.audit.now stages.audit.now audit these) where
      reached : (place : Place) (given : List Place) → Shares (place ∷ given) → Contains some place
      reached place given share =
          let next = ready-next stages rest query audit place split-ready in
          let ones = share-ones rest (slice_set query stages.query.now.table (Some place)) (slice_set audit stages.audit.now.table (Some place)) given next.query_open next.audit_open share in
          subst (λ (l : List Place). Contains l place) (sym is) (elim reach as (λ _. Contains these place) [
            | inl own ↦ reach-one (choices sides.query.now.choices.now) sides.query.now.query.now sides.seen.now sides.query.now.sets.now query stages.query.now.table these place split-ready.query_open.0 own ones.0
            | inr own ↦ reach-one (choices sides.audit.now.choices.now) sides.audit.now.query.now [] sides.audit.now.sets.now audit stages.audit.now.table these place split-ready.audit_open.0 own ones.1
          ])

      rises : IsNonDecreasing some
      rises = subst (λ (l : List Place). IsNonDecreasing l) (sym is) sorted

      named : (place k : ℕ) → k < length some → get_or some k place ≡ place → get_or some k 0 ≡ place
      named place k within at = sym (get_or_default some k 0 place within) ∙ at

      -- the first place for which both sides have a combination
      first-tried : (i : ℕ) → i < length some → NoneSoFar choices sides (stages ∷ rest) query audit some i → (given : List Place)
          → AreFirst (λ later. Shares (get_or some i 0 ∷ later)) given → AreFirst Shares (get_or some i 0 ∷ given)
      first-tried i within so_far given first = (
        first,
        λ lower less later share.
            let has = reached lower later share in
            let at = named lower has.0 has.1 has.2 in
            elim (below_or_from has.0 i) as (λ _. ⊥) [
              | inl before ↦ so_far has.0 before later (subst (λ (place : Place). Shares (place ∷ later)) (sym at) share)
              | inr remaining ↦ let up : get_or some i 0 ≤ get_or some has.0 0 = rises i has.0 0 remaining has.1 in absurd (omega (arith, up, at, less))
            ],
      )
        where
          below_or_from : (k n : ℕ) → (k < n) ⊎ (n ≤ k)
          below_or_from k n = grind arith

      none-here : (i : ℕ) → length some ≤ i → NoneSoFar choices sides (stages ∷ rest) query audit some i → (given : List Place) → ¬ Shares given
      none-here i past so_far [] share = share
      none-here i past so_far (place ∷ given) share =
          let has = reached place given share in
          so_far has.0 (omega (arith, has.1)) given (subst (λ (p : Place). Shares (p ∷ given)) (sym (named place has.0 has.1 has.2)) share)

      pub none-tried : (i : ℕ) → length some ≤ i → NoneSoFar choices sides (stages ∷ rest) query audit some i → IsFirst (Shared choices sides common query audit) None
      none-tried i past so_far given = subst (λ (left : List CommonStages). ¬ Shared choices sides left query audit given) (sym split) (none-here i past so_far given)

      -- the same for the result of a call that leaves these slots
      module _ (query_now audit_now : Slots) (same_query : query_now ≡ query) (same_audit : audit_now ≡ audit) (found : Option (Vec ℕ Global)) (i : ℕ)
          (told : IsFirst (Shared choices sides rest (slice_set query_now stages.query.now.table (Some (get_or some i 0))) (slice_set audit_now stages.audit.now.table (Some (get_or some i 0)))) (option_map (λ (places : Vec ℕ Global). places.items) found))
          (so_far : NoneSoFar choices sides (stages ∷ rest) query audit some i) where
        abbrev Later : List Place → Type 0
        Later given = Shares (get_or some i 0 ∷ given)

        abbrev items : Vec ℕ Global → List Place
        items places = places.items

        told_here : IsFirst Later (option_map items found)
        told_here =
            subst (λ (slots : Slots). IsFirst (Shared choices sides rest (slice_set query stages.query.now.table (Some (get_or some i 0))) (slice_set slots stages.audit.now.table (Some (get_or some i 0)))) (option_map items found)) same_audit
            (subst (λ (slots : Slots). IsFirst (Shared choices sides rest (slice_set slots stages.query.now.table (Some (get_or some i 0))) (slice_set audit_now stages.audit.now.table (Some (get_or some i 0)))) (option_map items found)) same_query told)

        pub first-made : (query_after audit_after : Slots) → query_after ≡ query_now → audit_after ≡ audit_now → i < length some → (value : Vec ℕ Global) → found ≡ Some value → (made : Vec ℕ Global) → items made ≡ get_or some i 0 ∷ items value
            → FindsFirst choices sides common query audit query_after audit_after (Ok (Some made))
        first-made query_after audit_after query_kept audit_kept within value at made pushed =
            let first : IsFirst Later (Some (items value)) = subst (λ (o : Option (Vec ℕ Global)). IsFirst Later (option_map items o)) at told_here in
            let here : AreFirst Shares (items made) = subst (λ (m : List Place). AreFirst Shares m) (sym pushed) (first-tried i within so_far (items value) first) in
            record {
              same_query = query_kept ∙ same_query;
              same_audit = audit_kept ∙ same_audit;
              first = subst (λ (left : List CommonStages). AreFirst (Shared choices sides left query audit) (items made)) (sym split) here;
            }

        pub none-more : found ≡ None → NoneSoFar choices sides (stages ∷ rest) query audit some (i + 1)
        none-more at k lower given share =
            let none : IsFirst Later None = subst (λ (o : Option (Vec ℕ Global)). IsFirst Later (option_map items o)) at told_here in
            elim (below_or_at k i lower) as (λ _. ⊥) [
              | inl earlier ↦ so_far k earlier given share
              | inr here ↦ none given (subst (λ (j : ℕ). Shares (get_or some j 0 ∷ given)) here share)
            ]

  -- the result if no table is left
  pub none-left : (common : List CommonStages) (query audit query_after audit_after : Slots) (result : Result (Option (Vec ℕ Global)) Memory) → length common ≡ 0
      → FindsFirst choices sides [] query audit query_after audit_after result → FindsFirst choices sides common query audit query_after audit_after result
  none-left [] query audit query_after audit_after result none finds = finds
  none-left (stages ∷ common) query audit query_after audit_after result none finds = absurd (omega arith)

-- a slot that was open is open again
open-again : (slots : List (Option Place)) (table : Place) → slice_get slots table ≡ Some None → slice_set slots table None ≡ slots
open-again [] table at = refl
open-again (slot ∷ slots) zero at = ap (λ (s : Option Place). s ∷ slots) (sym (some_is at))
  where
    some_is : {A : Type 0} {a b : A} → Some a ≡ Some b → a ≡ b
    some_is e = cc
open-again (slot ∷ slots) (suc table) at = ap (λ (l : List (Option Place)). slot ∷ l) (open-again slots table at)

-- a chosen row is no longer chosen
pub reset : (slots now : Slots) (table place : Place) → slice_get slots table ≡ Some None → now ≡ slice_set slots table (Some place) → slice_set now table None ≡ slots
reset slots now table place free is = ap (λ (s : Slots). slice_set s table None) is ∙ set-set slots table (Some place) None ∙ open-again slots table free

-- ---- the beginning of the search
pub whole-stages : (choices : Choices) (query : Masked) (sets : List KeyedRows) (order listed : List Place) (stages here : List Stage) (n : ℕ) → AreStages choices query sets order stages → here ≡ stages → order ≡ listed → ((table : Place) → table < n → Contains listed table) → n ≡ length sets
    → AreWhole choices query sets here
whole-stages choices query sets order listed stages here n are same ordered whole long = record {
  each = subst (λ (l : List Stage). All (IsStage choices query sets) l) (sym same) are.each;
  all = λ table within.
      let tables : map (λ (s : Stage). s.table) here ≡ listed = ap (λ (l : List Stage). map (λ s. s.table) l) same ∙ are.tables ∙ ordered in
      subst (λ (l : List Place). Contains l table) (sym tables) (whole table (subst (λ (m : ℕ). table < m) (sym long) within));
}

all_front : {X : Type 0} (P : X → Type 0) (xs : List X) (n : ℕ) → All P xs → All P (take n xs)
all_front P [] zero all = λ k d within. absurd (omega arith)
all_front P [] (suc n) all = λ k d within. absurd (omega arith)
all_front P (x ∷ xs) zero all = λ k d within. absurd (omega arith)
all_front P (x ∷ xs) (suc n) all = by (all_front P xs n (λ k d within. all (suc k) d (omega arith)))
  where
    by : All P (take n xs) → All P (x ∷ take n xs)
    by later zero d within = all 0 d (omega arith)
    by later (suc k) d within = later k d (omega arith)

map_front : {A B : Type 0} (f : A → B) (n : ℕ) (xs : List A) → map f (take n xs) ≡ take n (map f xs)
map_front f zero xs = refl
map_front f (suc n) [] = refl
map_front f (suc n) (x ∷ xs) = ap (λ l. f x ∷ l) (map_front f n xs)

map_map : {A B C : Type 0} (g : B → C) (f : A → B) (xs : List A) → map g (map f xs) ≡ map (λ x. g (f x)) xs
map_map g f [] = refl
map_map g f (x ∷ xs) = ap (λ l. g (f x) ∷ l) (map_map g f xs)

module _ {X : Type 0} (h : X → Stage) (common listed : List X) (here stages : List Stage) (n : ℕ) (same : common ≡ listed) (taken : map h listed ≡ take n here) (same_stages : here ≡ stages) where
  pub common-are-stages : (P : Stage → Type 0) → All P stages → All P (map h common)
  common-are-stages P all =
      let first : map h common ≡ take n stages = ap (map h) same ∙ taken ∙ ap (take n) same_stages in
      subst (λ (l : List Stage). All P l) (sym first) (all_front P stages n all)

  pub common-tables-are : (order ordered first given : List Place) → map (λ (s : Stage). s.table) stages ≡ order → order ≡ ordered → take (length first) ordered ≡ first → first ≡ given → n ≡ length given → map (λ x. (h x).table) common ≡ given
  common-tables-are order ordered first given tables is front same_first long =
      sym (map_map (λ (s : Stage). s.table) h common) ∙ ap (map (λ (s : Stage). s.table)) (ap (map h) same ∙ taken ∙ ap (take n) same_stages)
      ∙ map_front (λ (s : Stage). s.table) n stages ∙ ap (take n) (tables ∙ is)
      ∙ ap (λ (m : ℕ). take m ordered) (long ∙ ap length (sym same_first)) ∙ front ∙ same_first

pub four : {S : Type 0} (P : List Place → List Place → S → S → Type 0) (tables tables' others others' : List Place) (slots slots' other other' : S) → tables ≡ tables' → others ≡ others' → slots ≡ slots' → other ≡ other' → P tables others slots other → P tables' others' slots' other'
four {S} P tables tables' others others' slots slots' other other' a b c d p =
    subst (λ (x : S). P tables' others' slots' x) d (subst (λ (x : S). P tables' others' x other) c (subst (λ (x : List Place). P tables' x slots other) b (subst (λ (x : List Place). P x others slots other) a p)))

pub open-by : (n m : ℕ) (tables given : List Place) (slots : List (Option Place)) → tables ≡ given → slots ≡ replicate m None → m ≡ n → AreOpen given (replicate n None) → AreOpen tables slots
open-by n m tables given slots same none long free =
    let slots_are : slots ≡ replicate n None = none ∙ ap (λ (k : ℕ). replicate {A = Option Place} k None) long in
    subst (λ (s : List (Option Place)). AreOpen tables s) (sym slots_are) (subst (λ (l : List Place). AreOpen l (replicate {A = Option Place} n None)) (sym same) free)

-- rows chosen in some tables, one after the other
pub with-one-more : (tables places : List Place) (i : ℕ) (slots whole : List (Option Place)) → i < length tables → i < length places → with_rows (drop i tables) (drop i places) slots ≡ whole
    → with_rows (drop (i + 1) tables) (drop (i + 1) places) (slice_set slots (get_or tables i 0) (Some (get_or places i 0))) ≡ whole
with-one-more tables places i slots whole in_tables in_places so_far =
    sym (λ j. with_rows (drop_more tables i 0 in_tables j) (drop_more places i 0 in_places j) slots) ∙ so_far

pub with-all : (tables places : List Place) (i : ℕ) (slots whole : List (Option Place)) → length tables ≤ i → with_rows (drop i tables) (drop i places) slots ≡ whole → slots ≡ whole
with-all tables places i slots whole past so_far =
    sym (ap (λ (l : List Place). with_rows l (drop i places) slots) (drop_all i tables past)) ∙ so_far
