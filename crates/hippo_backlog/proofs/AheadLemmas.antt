-- The state of reading ahead in a history: at first, when an entry is used, when a batch is read,
-- and when the history grows.
use Rattle.std.proofs.Common.{◌≡◌, ◌∙◌, sym, ap, refl, subst, arith, ℕ, zero, suc, ◌+◌, ◌<◌, ◌≤◌, Bool, true, false, ◌&&◌, ◌||◌, [], ◌∷◌, ◌++◌, map, filter, length, take, drop, nat_lt, nat_le, cond, slice_get, append_assoc, length-append}
use Rattle.std.specs.Prelude.{is_some}
use Rattle.std.proofs.lemmas.Bool.{false≢true}
use Rattle.std.proofs.lemmas.Bool.Decides.{nat_tests}
use Rattle.std.proofs.lemmas.List.{append-nil, map-append, take-append-drop, take-map, drop-drop}
use Rattle.std.proofs.lemmas.List.Elements.{filter-append}
use Rattle.std.proofs.lemmas.List.Sums.{sum_by-append, count_by-le-length}
use Rattle.hippo_model.specs.declared.entry.Entry.{Entry}
use Rattle.hippo_model.specs.declared.stored.StoredEntry.{StoredEntry}
use Rattle.hippo_model.specs.Terms.{History, Meaning}
use Rattle.hippo_model.specs.StoredForms.{stored}
use Rattle.hippo_model.specs.Validity.{is_valid}
use Rattle.hippo_model.specs.Versions.{is_version, versions}
use Rattle.hippo_model_laws.proofs.ValidFronts.{front_is_valid, next_number}
use Rattle.hippo_keeper.specs.Keeping.{Store, RisesAbove, last_number}
use Rattle.hippo_keeper.specs.Selecting.{is_stored_version, stored_versions, selected_entries}
use Rattle.hippo_keeper.proofs.RisingLemmas.{RisesAbove-lower, RisesAbove-append}
use Rattle.hippo_keeper.proofs.StoredLemmas.{stored_versions-stored}
use Rattle.hippo_backlog.specs.ReadingAhead.{ReadAhead, nothing_read, without_first, reached_by, with_piece, AreUpTo, BeginsAbove, has_read, IsAhead}
use Rattle.hippo_backlog.proofs.NumberLemmas.{AreUpTo-higher, AreUpTo-append, AreUpTo-last, filter-AreUpTo, filter-rises, last-above, last-AreUpTo, valid-AreUpTo, valid-rises}
use Rattle.hippo_backlog.proofs.VersionsTheorem.{may_there}

versions-append : (first second : History) → versions (first ++ second) ≡ versions first + versions second
versions-append first second = sum_by-append (λ (entry : Entry). cond (is_version entry.act) 1 0) first second

AreUpTo-remaining : (number : ℕ) (front rest : History) → AreUpTo number (front ++ rest) → AreUpTo number rest
AreUpTo-remaining number [] rest up_to = up_to
AreUpTo-remaining number (entry ∷ front) rest up_to = AreUpTo-remaining number front rest up_to.1

AreUpTo-take : (max number : ℕ) (history : History) → AreUpTo number history → AreUpTo number (take max history)
AreUpTo-take zero number history up_to = tt
AreUpTo-take (suc max) number [] up_to = tt
AreUpTo-take (suc max) number (entry ∷ rest) up_to = (up_to.0, AreUpTo-take max number rest up_to.1)

below_is : (low number : ℕ) → low < number → nat_lt low number ≡ true
below_is low number below = grind (arith, nat_tests)

not_below : (last number : ℕ) → number ≤ last → nat_lt last number ≡ false
not_below last number within = grind (arith, nat_tests)

-- the entries above a number are those after the ones up to it
above_only : (number after : ℕ) (later : History) → after ≤ number → RisesAbove number (map stored later) → filter (λ (e : Entry). nat_lt after e.seq) later ≡ later
above_only number after [] le above = refl
above_only number after (entry ∷ rest) le above =
    let first : number < entry.seq = above.0 in
    let passes = below_is after entry.seq (omega arith) in
    rw passes (ap (λ others. entry ∷ others) (above_only entry.seq after rest (omega arith) above.1))

pub above_parts : (after : ℕ) (used later : History) → AreUpTo after used → RisesAbove after (map stored later) → filter (λ (e : Entry). nat_lt after e.seq) (used ++ later) ≡ later
above_parts after [] later up_to above = above_only after after later (omega arith) above
above_parts after (entry ∷ used) later up_to above =
    let fails = not_below after entry.seq up_to.0 in
    rw fails (above_parts after used later up_to.1 above)

-- a test of stored entries agrees with the test of entries
filter-stored : (test : Entry → Bool) (stored_test : StoredEntry → Bool) → ((entry : Entry) → stored_test (stored entry) ≡ test entry) → (history : History) → filter stored_test (map stored history) ≡ map stored (filter test history)
filter-stored test stored_test agrees [] = refl
filter-stored test stored_test agrees (entry ∷ rest) =
    let later = filter-stored test stored_test agrees rest in
    ap (λ passes. cond passes (stored entry ∷ filter stored_test (map stored rest)) (filter stored_test (map stored rest))) (agrees entry)
    ∙ (elim (test entry) as (λ passes. cond passes (stored entry ∷ filter stored_test (map stored rest)) (filter stored_test (map stored rest)) ≡ map stored (cond passes (entry ∷ filter test rest) (filter test rest))) [
      | true ↦ ap (λ others. stored entry ∷ others) later
      | false ↦ later
    ])

-- two filters in either order
filter-both : (one other : Entry → Bool) (history : History) → filter one (filter other history) ≡ filter other (filter one history)
filter-both one other [] = refl
filter-both one other (entry ∷ rest) =
    let later = filter-both one other rest in
    elim (one entry) as (λ first. one entry ≡ first → filter one (cond (other entry) (entry ∷ filter other rest) (filter other rest)) ≡ filter other (cond first (entry ∷ filter one rest) (filter one rest))) [
      | true ↦ λ is. (elim (other entry) as (λ second. other entry ≡ second → filter one (cond second (entry ∷ filter other rest) (filter other rest)) ≡ filter other (entry ∷ filter one rest)) [
        | true ↦ λ too. rw (is, too) (ap (λ others. entry ∷ others) later)
        | false ↦ λ too. rw too later
      ] refl)
      | false ↦ λ is. (elim (other entry) as (λ second. other entry ≡ second → filter one (cond second (entry ∷ filter other rest) (filter other rest)) ≡ filter other (filter one rest)) [
        | true ↦ λ too. rw is later
        | false ↦ λ too. later
      ] refl)
    ] refl

-- a front of rising numbers, and the numbers after it
after_rises : (number max : ℕ) (later : History) → RisesAbove number (map stored later) → RisesAbove (last_number number (map stored (take max later))) (map stored (drop max later))
after_rises number zero later above = above
after_rises number (suc max) [] above = tt
after_rises number (suc max) (entry ∷ rest) above = after_rises entry.seq max rest above.1

take_rises : (number max : ℕ) (later : History) → RisesAbove number (map stored later) → RisesAbove number (map stored (take max later))
take_rises number zero later above = tt
take_rises number (suc max) [] above = tt
take_rises number (suc max) (entry ∷ rest) above = (above.0, take_rises entry.seq max rest above.1)

-- a front that is shorter than requested is everything
short_front : (max : ℕ) (later : History) → length (map stored (take max later)) < max → drop max later ≡ []
short_front zero later short = absurd (omega arith)
short_front (suc max) [] short = refl
short_front (suc max) (entry ∷ rest) short = short_front max rest (omega arith)

none_stored : (history : History) → map stored history ≡ [] → history ≡ []
none_stored [] none = refl
none_stored (entry ∷ rest) none = absurd cc

is_below : (a b : ℕ) → nat_lt a b ≡ true → a < b
is_below a b is = grind (arith, nat_tests)

both_true : (a b : Bool) → (a && b) ≡ true → (a ≡ true) × (b ≡ true)
both_true true b e = (refl, e)
both_true false b e = absurd (false≢true e)

-- bounds of the number up to which everything is read
pub reached_by-least : (max end : ℕ) (piece : Store) (reached : ℕ) → last_number reached piece ≤ reached_by max end piece reached
reached_by-least max end piece reached =
    let last = last_number reached piece in
    elim (nat_lt (length piece) max && nat_lt last end) as (λ short. (nat_lt (length piece) max && nat_lt last end) ≡ short → last ≤ cond short end last) [
      | true ↦ λ is. let below : last < end = is_below last end (both_true (nat_lt (length piece) max) (nat_lt last end) is).1 in omega arith
      | false ↦ λ is. omega arith
    ] refl

reached_by-most : (max end : ℕ) (piece : Store) (reached limit : ℕ) → last_number reached piece ≤ limit → end ≤ limit → reached_by max end piece reached ≤ limit
reached_by-most max end piece reached limit last_within end_within =
    elim (nat_lt (length piece) max && nat_lt (last_number reached piece) end) as (λ short. cond short end (last_number reached piece) ≤ limit) [
      | true ↦ end_within
      | false ↦ last_within
    ]

-- a batch with entries moves that number up, and an empty one moves it to the end
pub reached_by-further : (max end : ℕ) (piece : Store) (reached : ℕ) → 0 < max → RisesAbove reached piece → reached < end → reached < reached_by max end piece reached
reached_by-further max end [] reached some rises below =
    let short : nat_lt 0 max ≡ true = below_is 0 max some in
    let before : nat_lt reached end ≡ true = below_is reached end below in
    rw (short, before) below
reached_by-further max end (entry ∷ rest) reached some rises below =
    let above : reached < entry.seq = rises.0 in
    let last = last-above entry.seq rest rises.1 in
    let least = reached_by-least max end (entry ∷ rest) reached in
    omega arith

-- one more entry is used, or none is left
pub one_used : (next : ℕ) (piece : Store) → drop (next + 1) piece ≡ drop 1 (drop next piece)
one_used next piece = sym (drop-drop 1 next piece)

pub none_left : (next : ℕ) (piece : Store) → length piece ≤ next → drop next piece ≡ drop 1 (drop next piece)
none_left zero [] past = refl
none_left (suc next) [] past = refl
none_left zero (kept ∷ rest) past = absurd (omega arith)
none_left (suc next) (kept ∷ rest) past = none_left next rest (omega arith)

-- the versions handed over are at most the number that is read, after one more batch
pub handed_within : (max end handed reached : ℕ) (piece : Store) → handed ≤ reached → RisesAbove reached piece
    → (count next : ℕ) → count ≡ stored_versions piece → next ≡ reached_by max end piece reached → handed + count ≤ next
handed_within max end handed reached piece within rises count next count_is next_is =
    let few = count_by-le-length is_stored_version piece in
    let last = last-above reached piece rises in
    let least = reached_by-least max end piece reached in
    omega (arith, few, last, least, count_is, next_is)

module _ (test : Entry → Bool) where
  -- nothing is read yet
  pub IsAhead-first : (meaning : Meaning) (history : History) → is_valid meaning history ≡ true → ((new : IsAhead test 0 nothing_read history) × (new.used ≡ []))
  IsAhead-first meaning history valid =
      let rises = filter-rises test 0 history (valid-rises meaning history valid) in (
        record {
          used = [];
          waiting = [];
          later = filter test history;
          parts = refl;
          forms = refl;
          used_up_to = tt;
          left_above = rises;
          read_up_to = tt;
          later_above = rises;
          place_is_read = omega arith;
          reached_within = omega arith;
          counted = refl;
        },
        refl,
      )

  module _ (place : ℕ) (ahead : ReadAhead) (history : History) (split : IsAhead test place ahead history) where
    -- the first entry that waits is used
    pub IsAhead-used : (entry : Entry) (rest : History) → split.waiting ≡ entry ∷ rest → ((new : IsAhead test entry.seq (without_first ahead) history) × (new.used ≡ split.used ++ entry ∷ []))
    IsAhead-used entry rest first =
        let above = subst (λ (w : History). RisesAbove place (map stored (w ++ split.later))) first split.left_above in
        let read = subst (λ (w : History). AreUpTo ahead.reached w) first split.read_up_to in
        let below : place < entry.seq = above.0 in (
          record {
            used = split.used ++ entry ∷ [];
            waiting = rest;
            later = split.later;
            parts = split.parts ∙ ap (λ (w : History). split.used ++ (w ++ split.later)) first ∙ sym (append_assoc split.used (entry ∷ []) (rest ++ split.later));
            forms = ap (drop 1) (split.forms ∙ ap (map stored) first);
            used_up_to = AreUpTo-append entry.seq split.used entry (AreUpTo-higher place entry.seq split.used (omega arith) split.used_up_to) (omega arith);
            left_above = above.1;
            read_up_to = read.1;
            later_above = split.later_above;
            place_is_read = read.0;
            reached_within = split.reached_within;
            counted = split.counted ∙ ap (λ (w : History). versions (split.used ++ w)) first ∙ sym (ap versions (append_assoc split.used (entry ∷ []) rest));
          },
          refl,
        )

    moved_read : (number : ℕ) (waiting : History) → AreUpTo ahead.reached waiting → BeginsAbove number (map stored waiting) → (waiting ≡ [] → number ≤ ahead.reached) → number ≤ ahead.reached
    moved_read number [] read begins none = none refl
    moved_read number (entry ∷ rest) read begins none =
        let above : number < entry.seq = begins in
        let within : entry.seq ≤ ahead.reached = read.0 in
        omega arith

    moved_above : (number : ℕ) (waiting later : History) → RisesAbove place (map stored (waiting ++ later)) → RisesAbove ahead.reached (map stored later) → BeginsAbove number (map stored waiting) → number ≤ ahead.reached → RisesAbove number (map stored (waiting ++ later))
    moved_above number [] later left above begins within = RisesAbove-lower number ahead.reached (map stored later) within above
    moved_above number (entry ∷ rest) later left above begins within = (begins, left.1)

    none_waits : (number : ℕ) (waiting : Store) → (nat_le number ahead.reached || is_some (slice_get waiting 0)) ≡ true → waiting ≡ [] → number ≤ ahead.reached
    none_waits number [] read none =
        (elim (nat_le number ahead.reached) as (λ within. nat_le number ahead.reached ≡ within → (within || false) ≡ true → number ≤ ahead.reached) [
          | true ↦ λ is e. grind (arith, nat_tests)
          | false ↦ λ is e. absurd (false≢true e)
        ]) refl read
    none_waits number (kept ∷ rest) read none = absurd cc

    -- the place moves to a number up to which nothing waits
    pub IsAhead-moved : (number : ℕ) → place ≤ number → BeginsAbove number ahead.waiting → has_read number ahead ≡ true → ((new : IsAhead test number ahead history) × (new.used ≡ split.used))
    IsAhead-moved number forward begins read =
        let begins_so = subst (λ (w : Store). BeginsAbove number w) split.forms begins in
        let within = moved_read number split.waiting split.read_up_to begins_so (λ none. none_waits number ahead.waiting read (split.forms ∙ ap (map stored) none)) in (
          record {
            used = split.used;
            waiting = split.waiting;
            later = split.later;
            parts = split.parts;
            forms = split.forms;
            used_up_to = AreUpTo-higher place number split.used forward split.used_up_to;
            left_above = moved_above number split.waiting split.later split.left_above split.later_above begins_so within;
            read_up_to = split.read_up_to;
            later_above = split.later_above;
            place_is_read = within;
            reached_within = split.reached_within;
            counted = split.counted;
          },
          refl,
        )

    -- a batch of entries that are not read yet is handed over; nothing waited before
    pub IsAhead-read : (stored_test : StoredEntry → Bool) → ((entry : Entry) → stored_test (stored entry) ≡ test entry) → (meaning : Meaning) → is_valid meaning history ≡ true → (max end : ℕ) (piece : Store) → ahead.waiting ≡ [] → piece ≡ selected_entries stored_test ahead.reached max (map stored history) → end ≤ length history → ((new : IsAhead test place (with_piece max end piece ahead) history) × (new.used ≡ split.used))
    IsAhead-read stored_test agrees meaning valid max end piece none handed within =
        let nothing : split.waiting ≡ [] = none_stored split.waiting (sym split.forms ∙ none) in
        let place_read = split.place_is_read in
        let reached_in = split.reached_within in
        let parts : filter test history ≡ split.used ++ split.later = split.parts ∙ ap (λ (w : History). split.used ++ (w ++ split.later)) nothing in
        let up_to = AreUpTo-higher place ahead.reached split.used place_read split.used_up_to in
        let above : Entry → Bool = λ e. nat_lt ahead.reached e.seq in
        let front : piece ≡ map stored (take max split.later) =
        handed ∙ ap (λ (s : Store). take max (filter stored_test s)) (filter-stored above (λ e. nat_lt ahead.reached e.seq) (λ e. refl) history)
        ∙ ap (take max) (filter-stored test stored_test agrees (filter above history))
        ∙ ap (λ (h : History). take max (map stored h)) (filter-both test above history ∙ ap (filter above) parts ∙ above_parts ahead.reached split.used split.later up_to split.later_above)
        ∙ take-map stored max split.later in
        let whole = take-append-drop max split.later in
        let all_within = AreUpTo-remaining (length history) split.used split.later (subst (λ (h : History). AreUpTo (length history) h) parts (filter-AreUpTo test (length history) history (valid-AreUpTo meaning history valid))) in
        let last_is : last_number ahead.reached piece ≡ last_number ahead.reached (map stored (take max split.later)) = ap (last_number ahead.reached) front in
        let rises = take_rises ahead.reached max split.later split.later_above in
        let last_up = last-above ahead.reached (map stored (take max split.later)) rises in
        let last_within = AreUpTo-last ahead.reached (length history) (take max split.later) reached_in (AreUpTo-take max (length history) split.later all_within) in
        let least = reached_by-least max end piece ahead.reached in (
          record {
            used = split.used;
            waiting = take max split.later;
            later = drop max split.later;
            parts = parts ∙ ap (λ (l : History). split.used ++ l) (sym whole);
            forms = front;
            used_up_to = split.used_up_to;
            left_above = subst (λ (l : History). RisesAbove place (map stored l)) (sym whole) (subst (λ (w : History). RisesAbove place (map stored (w ++ split.later))) nothing split.left_above);
            read_up_to = AreUpTo-higher (last_number ahead.reached (map stored (take max split.later))) (reached_by max end piece ahead.reached) (take max split.later) (omega (arith, last_is, least)) (last-AreUpTo ahead.reached (take max split.later) rises);
            later_above = further front;
            place_is_read = omega (arith, place_read, last_up, last_is, least);
            reached_within = reached_by-most max end piece ahead.reached (length history) (omega (arith, last_is, last_within)) within;
            counted =
                (λ i. (split.counted ∙ ap (λ (w : History). versions (split.used ++ w)) nothing ∙ ap versions (append-nil split.used)) i + (ap stored_versions front ∙ stored_versions-stored (take max split.later)) i)
                ∙ sym (versions-append split.used (take max split.later));
          },
          refl,
        )
      where
        further : piece ≡ map stored (take max split.later) → RisesAbove (reached_by max end piece ahead.reached) (map stored (drop max split.later))
        further front =
            elim (nat_lt (length piece) max && nat_lt (last_number ahead.reached piece) end) as (λ short. (nat_lt (length piece) max && nat_lt (last_number ahead.reached piece) end) ≡ short → RisesAbove (cond short end (last_number ahead.reached piece)) (map stored (drop max split.later))) [
              | true ↦ λ is.
                  let few : length piece < max = is_below (length piece) max (both_true (nat_lt (length piece) max) (nat_lt (last_number ahead.reached piece) end) is).0 in
                  let none = short_front max split.later (subst (λ (s : Store). length s < max) front few) in
                  subst (λ (h : History). RisesAbove end (map stored h)) (sym none) tt
              | false ↦ λ is. subst (λ (s : Store). RisesAbove (last_number ahead.reached s) (map stored (drop max split.later))) (sym front) (after_rises ahead.reached max split.later split.later_above)
            ] refl

    more_rises : (number : ℕ) (left : History) (entry : Entry) (passes : Bool) → number ≤ length history → entry.seq ≡ length history + 1 → AreUpTo (length history) left → RisesAbove number (map stored left) → RisesAbove number (map stored (left ++ cond passes (entry ∷ []) []))
    more_rises number left entry true within next up_to rises =
        let last = AreUpTo-last number (length history) left within up_to in
        subst (λ (s : Store). RisesAbove number s) (sym (map-append stored left (entry ∷ []))) (RisesAbove-append number (map stored left) (stored entry) rises (omega arith))
    more_rises number left entry false within next up_to rises = subst (λ (h : History). RisesAbove number (map stored h)) (sym (append-nil left)) rises

    -- the history grows by an entry
    pub IsAhead-grown : (meaning : Meaning) (entry : Entry) → is_valid meaning (history ++ entry ∷ []) ≡ true → ((new : IsAhead test place ahead (history ++ entry ∷ [])) × (new.used ≡ split.used))
    IsAhead-grown meaning entry valid =
        let more : History = filter test (entry ∷ []) in
        let next = next_number meaning history entry (may_there meaning history [] entry valid) in
        let place_read = split.place_is_read in
        let reached_in = split.reached_within in
        let old_valid = front_is_valid meaning history (entry ∷ []) valid in
        let up_to = subst (λ (h : History). AreUpTo (length history) h) split.parts (filter-AreUpTo test (length history) history (valid-AreUpTo meaning history old_valid)) in
        let left_up_to = AreUpTo-remaining (length history) split.used (split.waiting ++ split.later) up_to in
        let later_up_to = AreUpTo-remaining (length history) split.waiting split.later left_up_to in
        let regrouped = append_assoc split.waiting split.later more in (
          record {
            used = split.used;
            waiting = split.waiting;
            later = split.later ++ more;
            parts = filter-append test history (entry ∷ []) ∙ ap (λ (h : History). h ++ more) split.parts ∙ append_assoc split.used (split.waiting ++ split.later) more ∙ ap (λ (h : History). split.used ++ h) regrouped;
            forms = split.forms;
            used_up_to = split.used_up_to;
            left_above = subst (λ (h : History). RisesAbove place (map stored h)) regrouped (more_rises place (split.waiting ++ split.later) entry (test entry) (omega arith) next left_up_to split.left_above);
            read_up_to = split.read_up_to;
            later_above = more_rises ahead.reached split.later entry (test entry) reached_in next later_up_to split.later_above;
            place_is_read = place_read;
            reached_within = let longer = length-append history (entry ∷ []) in omega (arith, longer, reached_in);
            counted = split.counted;
          },
          refl,
        )
