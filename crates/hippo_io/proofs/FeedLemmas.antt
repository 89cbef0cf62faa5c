-- Line feeds in parts of a list, and the first line feed.
use Rattle.std.proofs.Common.{◌≡◌, ℕ, suc, ◌+◌, ◌-◌, ◌<◌, ◌≤◌, Bool, true, false, cond, eqb, List, [], ◌∷◌, ◌++◌, Some, None, length, get_or, take, drop, refl, sym, ap, ◌∙◌, arith, length-drop}
use Rattle.std.proofs.Math.Seq.{take-add}
use Rattle.std.proofs.lemmas.Bool.{ltb-false, eqb-true}
use Rattle.std.proofs.lemmas.List.{take-append-drop, get_or-drop, get_or-take, length-take-le, take_rest}
use Rattle.std.proofs.lemmas.List.Sums.{sum_by-append, sum_by-cons, fails_before_first}
use Rattle.std.proofs.lemmas.List.Quantifiers.{position-Some}
use Rattle.std.specs.Prelude.{Option, position}
use Rattle.std.specs.List.{position_or_len}
use Rattle.hippo_io.specs.Lines.{feeds}
use Rattle.hippo_io.specs.Moves.{BeginsWithLine}

abbrev pub is_feed : ℕ → Bool
is_feed byte = eqb byte 10

pub feeds-append : (xs ys : List ℕ) → feeds (xs ++ ys) ≡ feeds xs + feeds ys
feeds-append xs ys = sum_by-append _ xs ys

pub feeds-cons : (x : ℕ) (xs : List ℕ) → feeds (x ∷ xs) ≡ cond (is_feed x) 1 0 + feeds xs
feeds-cons x xs = sum_by-cons _ x xs

feeds_none : (xs : List ℕ) → ((k : ℕ) → k < length xs → is_feed (get_or xs k 0) ≡ false) → feeds xs ≡ 0
feeds_none [] none = refl
feeds_none (x ∷ xs) none =
    feeds-cons x xs ∙ ap (λ b. cond b 1 0 + feeds xs) (none 0 (omega arith)) ∙ omega (arith, feeds_none xs (λ k short. none (suc k) (omega arith)))

none_unless : (b : Bool) (n : ℕ) → ◌≡◌ {A = Option ℕ} (cond b (Some n) None) None → b ≡ false
none_unless true n e = cc
none_unless false n e = refl

feeds_unfound : (xs : List ℕ) → position is_feed xs ≡ None → feeds xs ≡ 0
feeds_unfound xs e =
    let all : length xs ≤ position_or_len is_feed xs = ltb-false _ _ (none_unless _ _ e) in
    feeds_none xs (λ k short. fails_before_first is_feed xs k 0 (omega arith))

feeds_before : (xs : List ℕ) (n : ℕ) → n ≤ length xs → ((k : ℕ) → k < n → is_feed (get_or xs k 0) ≡ false) → feeds (take n xs) ≡ 0
feeds_before xs n inside none =
    let long = length-take-le n xs inside in
    feeds_none (take n xs) (λ k short. ap is_feed (get_or-take n xs k 0 (omega arith)) ∙ none k (omega arith))

-- no line feed is in the part already searched, nor in the rest
pub feeds-searched : (xs : List ℕ) (n : ℕ) → feeds (take n xs) ≡ 0 → position is_feed (take (length xs - n) (drop n xs)) ≡ None → feeds xs ≡ 0
feeds-searched xs n none e =
    ap feeds (sym (take-append-drop n xs)) ∙ feeds-append (take n xs) (drop n xs)
    ∙ omega (arith, feeds_unfound (drop n xs) (ap (position is_feed) (sym (take_rest xs n)) ∙ e))

-- the first line feed of the rest is the first of all
pub BeginsWithLine-searched : (xs : List ℕ) (n place : ℕ) → n ≤ length xs → feeds (take n xs) ≡ 0 → position is_feed (take (length xs - n) (drop n xs)) ≡ Some place
    → BeginsWithLine xs (n + place)
BeginsWithLine-searched xs n place inside none e =
    let found = position-Some is_feed (drop n xs) place 0 (ap (position is_feed) (sym (take_rest xs n)) ∙ e) in
    let long = length-drop n xs in
    record {
      inside = omega (arith, found.0);
      before = ap feeds (take-add n place xs) ∙ feeds-append (take n xs) (take place (drop n xs)) ∙ omega (arith, feeds_before (drop n xs) place (omega (arith, found.0)) found.2);
      feed = sym (get_or-drop n xs place 0) ∙ eqb-true _ _ found.1;
    }
