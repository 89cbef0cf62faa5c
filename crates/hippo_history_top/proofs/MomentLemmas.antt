-- The moments of entries. In a valid history the entries up to a bound are its first entries.
use Rattle.std.proofs.Common.{◌≡◌, ◌∙◌, ℕ, zero, suc, ◌+◌, ◌<◌, ◌≤◌, Bool, true, false, cond, ◌&&◌, List, [], ◌∷◌, ◌++◌, length, take, drop, get_or, Option, Some, None, refl, sym, ap, length-append, arith}
use Rattle.std.specs.Prelude.{◌==◌, int_le, nat_le, count_by}
use Rattle.std.specs.Option.{option_map_or}
use Rattle.std.proofs.lemmas.Bool.{and_parts, false≢true}
use Rattle.std.proofs.lemmas.Bool.Decides.{nat_tests}
use Rattle.std.proofs.lemmas.Int.{ints}
use Rattle.std.proofs.lemmas.List.{append-nil, map-append}
use Rattle.std.proofs.lemmas.List.Elements.{filter-append}
use Rattle.std.proofs.lemmas.List.Sums.{sum_by-append}
use Rattle.hippo_values.specs.declared.moments.Moment.{Moment}
use Rattle.hippo_model.specs.declared.entry.Entry.{Entry}
use Rattle.hippo_model.specs.Histories.{last_word}
use Rattle.hippo_model.specs.Keepable.{is_keepable}
use Rattle.hippo_model.specs.Terms.{History}
use Rattle.hippo_model.specs.Validity.{keeps_order, is_acceptable, may_follow, is_valid}
use Rattle.hippo_model.proofs.LastWords.{last_word-append}
use Rattle.hippo_model_laws.proofs.ValidFronts.{holds_of_each_valid, next_number}
use Rattle.hippo_typing.specs.Meanings.{meaning}
use Rattle.hippo_typing_catalog.proofs.ListLemmas.{drop_at_get_or}
use Rattle.hippo_history_top.specs.declared.asking.Bound.{Bound}
use Rattle.hippo_history_top.specs.declared.asking.Bound.TheVariants.{Number, At}
use Rattle.hippo_history_top.specs.Dating.{is_to, entries_to, moments_of, count_to}

pub one_moment_more : (read : History) (entry : Entry) → moments_of (read ++ entry ∷ []) ≡ moments_of read ++ entry.moment ∷ []
one_moment_more read entry = map-append (λ (e : Entry). e.moment) read (entry ∷ [])

take_none : (n : ℕ) (history : History) → history ≡ [] → take n history ≡ []
take_none zero history none = refl
take_none (suc n) history none = ap (take (suc n)) none

-- the first members of a list, with one more member at its end
take_before : (n : ℕ) (list : History) (x : Entry) → n ≤ length list → take n (list ++ x ∷ []) ≡ take n list
take_before zero list x within = refl
take_before (suc n) [] x within = absurd (omega arith)
take_before (suc n) (first ∷ list) x within = ap (λ (l : History). first ∷ l) (take_before n list x (omega arith))

take_whole : (n : ℕ) (list : History) → length list ≤ n → take n list ≡ list
take_whole n [] within = take_none n [] refl
take_whole zero (first ∷ list) within = absurd (omega arith)
take_whole (suc n) (first ∷ list) within = ap (λ (l : History). first ∷ l) (take_whole n list (omega arith))

all_of : (list : History) (x : Entry) (n : ℕ) (front : History) → front ≡ take n list → length list ≤ n → front ++ x ∷ [] ≡ list ++ x ∷ []
all_of list x n front is within = ap (λ (l : History). l ++ x ∷ []) (is ∙ take_whole n list within)

-- by a number
module _ (n : ℕ) where
  abbrev FirstNumbers : History → Type 0
  FirstNumbers history = entries_to (Number n) history ≡ take n history

  next : (history : History) (entry : Entry) → FirstNumbers history → entry.seq ≡ length history + 1 → (test : Bool) → nat_le entry.seq n ≡ test
      → entries_to (Number n) history ++ cond test (entry ∷ []) [] ≡ take n (history ++ entry ∷ [])
  next history entry so_far seq true is =
      let within : entry.seq ≤ n = grind (arith, nat_tests, is) in
      all_of history entry n (entries_to (Number n) history) so_far (omega (arith, seq, within))
      ∙ sym (take_whole n (history ++ entry ∷ []) (let sum = length-append history (entry ∷ []) in omega (arith, seq, within, sum)))
  next history entry so_far seq false is =
      let past : n < entry.seq = grind (arith, nat_tests, is) in
      append-nil (entries_to (Number n) history) ∙ so_far ∙ sym (take_before n history entry (omega (arith, seq, past)))

  pub first_numbers : (history : History) → is_valid meaning history ≡ true → FirstNumbers history
  first_numbers history valid =
      holds_of_each_valid meaning FirstNumbers
      (λ h entry good so_far may. filter-append (is_to (Number n)) h (entry ∷ []) ∙ next h entry so_far (next_number meaning h entry may) (nat_le entry.seq n) refl)
      (sym (take_none n [] refl)) history valid

-- by a moment
module _ (at : Moment) where
  abbrev is_by : Moment → Bool
  is_by moment = int_le moment at

  abbrev last_moment : History → Option Moment
  last_moment history = last_word (λ entry. Some entry.moment) history

  -- the entries up to the moment are the first ones; if the last entry is among them, all are
  record FirstMoments (history : History) : Type 0 where
    first : entries_to (At at) history ≡ take (count_by is_by (moments_of history)) history
    all : option_map_or is_by (last_moment history) true ≡ true → count_by is_by (moments_of history) ≡ length history
    within : count_by is_by (moments_of history) ≤ length history

  earlier : (last : Option Moment) (moment : Moment) → option_map_or (λ last. int_le last moment) last true ≡ true → int_le moment at ≡ true → option_map_or is_by last true ≡ true
  earlier None moment order is = refl
  earlier (Some last) moment order is = grind (arith, ints, order, is)

  module _ (history : History) (entry : Entry) (so_far : FirstMoments history) (order : keeps_order history entry.moment ≡ true) where
    abbrev count : ℕ
    count = count_by is_by (moments_of history)

    longer : count_by is_by (moments_of (history ++ entry ∷ [])) ≡ count + (0 + cond (is_by entry.moment) 1 0)
    longer = ap (count_by is_by) (one_moment_more history entry) ∙ sum_by-append (λ moment. cond (is_by moment) 1 0) (moments_of history) (entry.moment ∷ [])

    one : length (history ++ entry ∷ []) ≡ length history + 1
    one = length-append history (entry ∷ [])

    last_is : last_moment (history ++ entry ∷ []) ≡ Some entry.moment
    last_is = last_word-append (λ (e : Entry). Some e.moment) history entry

    by_test : (test : Bool) → is_by entry.moment ≡ test → FirstMoments (history ++ entry ∷ [])
    by_test true is =
        let all : count ≡ length history = so_far.all (earlier (last_moment history) entry.moment order is) in
        let sum : count_by is_by (moments_of (history ++ entry ∷ [])) ≡ length (history ++ entry ∷ []) =
        longer ∙ ap (λ (b : Bool). count + (0 + cond b 1 0)) is ∙ omega (arith, all, one) in
        record {
          first =
              filter-append (is_to (At at)) history (entry ∷ []) ∙ ap (λ (b : Bool). entries_to (At at) history ++ cond b (entry ∷ []) []) is
              ∙ all_of history entry count (entries_to (At at) history) so_far.first (omega (arith, all))
              ∙ sym (take_whole (count_by is_by (moments_of (history ++ entry ∷ []))) (history ++ entry ∷ []) (omega (arith, sum)));
          all = λ e. sum;
          within = omega (arith, sum);
        }
    by_test false is =
        let same : count_by is_by (moments_of (history ++ entry ∷ [])) ≡ count = longer ∙ ap (λ (b : Bool). count + (0 + cond b 1 0)) is ∙ omega arith in
        let within = so_far.within in
        record {
          first =
              filter-append (is_to (At at)) history (entry ∷ []) ∙ ap (λ (b : Bool). entries_to (At at) history ++ cond b (entry ∷ []) []) is
              ∙ append-nil (entries_to (At at) history) ∙ so_far.first ∙ sym (take_before count history entry within)
              ∙ ap (λ (n : ℕ). take n (history ++ entry ∷ [])) (sym same);
          all = λ e. absurd (false≢true (sym is ∙ sym (ap (λ (last : Option Moment). option_map_or is_by last true) last_is) ∙ e));
          within = omega (arith, same, within, one);
        }

  in_order : (history : History) (entry : Entry) → may_follow meaning history entry ≡ true → keeps_order history entry.moment ≡ true
  in_order history entry may =
      (and_parts (is_keepable entry && entry.seq == length history + 1) (keeps_order history entry.moment)
      (and_parts (is_keepable entry && entry.seq == length history + 1 && keeps_order history entry.moment) (is_acceptable meaning history entry.act) may).0).1

  pub first_moments : (history : History) → is_valid meaning history ≡ true → entries_to (At at) history ≡ take (count_by is_by (moments_of history)) history
  first_moments history valid =
      (holds_of_each_valid meaning FirstMoments (λ h entry good so_far may. by_test h entry so_far (in_order h entry may) (is_by entry.moment) refl)
      (record { first = refl; all = λ e. refl; within = omega arith }) history valid).first

-- the entries of a valid history up to a bound are its first ones
pub first_to_bound : (bound : Bound) (history : History) → is_valid meaning history ≡ true → entries_to bound history ≡ take (count_to bound (moments_of history)) history
first_to_bound (Number n) history valid = first_numbers n history valid
first_to_bound (At at) history valid = first_moments at history valid

-- one more moment counts for one at most
pub within_more : (count index one : ℕ) (test : Bool) → one ≡ cond test 1 0 → count ≤ index → count + one ≤ index + 1
within_more count index one true is within = omega (arith, is, within)
within_more count index one false is within = omega (arith, is, within)

summed : (count one own rest here whole : ℕ) → one ≡ own → here ≡ 0 + own + rest → count + here ≡ whole → count + one + rest ≡ whole
summed count one own rest here whole same parts so_far = omega (arith, same, parts, so_far)

pub one_more_counted : (at : Moment) (moments : List Moment) (index count one : ℕ) (set : Moment) → index < length moments → set ≡ get_or moments index set → one ≡ cond (int_le set at) 1 0
    → count + count_to (At at) (drop index moments) ≡ count_to (At at) moments → count + one + count_to (At at) (drop (index + 1) moments) ≡ count_to (At at) moments
one_more_counted at moments index count one set inside is same so_far =
    summed count one (cond (int_le set at) 1 0) (count_to (At at) (drop (index + 1) moments)) (count_to (At at) (drop index moments)) (count_to (At at) moments)
    same (ap (count_to (At at)) (drop_at_get_or moments index set inside is) ∙ sum_by-append (λ (moment : Moment). cond (int_le moment at) 1 0) (set ∷ []) (drop (index + 1) moments)) so_far
