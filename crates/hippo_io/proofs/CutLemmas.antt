-- An input is split at its first line feed.
use Rattle.std.proofs.Common.{◌≡◌, ℕ, ◌+◌, ◌<◌, ◌≤◌, Bool, true, false, cond, List, [], ◌∷◌, ◌++◌, map, length, take, drop, refl, sym, ap, ◌∙◌, arith, append-nil, append_assoc, length-append}
use Rattle.std.proofs.lemmas.List.{take-append-drop, drop_more}
use Rattle.std.specs.Io.BufRead.{drop_through}
use Rattle.hippo_values.specs.Limits.{line_limit}
use Rattle.hippo_io.specs.Lines.{too_long_line, line_feed, pieces, with_first_byte, lines, line_of, feeds}
use Rattle.hippo_io.specs.Moves.{BeginsWithLine}
use Rattle.hippo_io.proofs.FeedLemmas.{is_feed, feeds-append, feeds-cons}
use Rattle.hippo_io.proofs.LineLemmas.{line_of-long}

-- the bytes before the first line feed
abbrev pub before_feed : List ℕ → List ℕ
before_feed [] = []
before_feed (x ∷ xs) = cond (is_feed x) [] (x ∷ before_feed xs)

abbrev after_feed : List ℕ → List ℕ
after_feed xs = drop_through line_feed xs

-- the first of bytes without a line feed is not one
clear_first : (x : ℕ) (xs : List ℕ) → feeds (x ∷ xs) ≡ 0 → is_feed x ≡ false
clear_first x xs clear =
    let P : Bool → Type 0 = λ b. cond b 1 0 + feeds xs ≡ 0 → b ≡ false in
    elim (is_feed x) as P [ true ↦ λ e. absurd (omega arith) | false ↦ λ e. refl ] (sym (feeds-cons x xs) ∙ clear)

clear_rest : (x : ℕ) (xs : List ℕ) → feeds (x ∷ xs) ≡ 0 → feeds xs ≡ 0
clear_rest x xs clear = omega (arith, feeds-cons x xs)

before_feed-clear : (front rest : List ℕ) → feeds front ≡ 0 → before_feed (front ++ rest) ≡ front ++ before_feed rest
before_feed-clear [] rest clear = refl
before_feed-clear (x ∷ xs) rest clear =
    ap (λ b. cond b [] (x ∷ before_feed (xs ++ rest))) (clear_first x xs clear) ∙ ap (λ l. x ∷ l) (before_feed-clear xs rest (clear_rest x xs clear))

pub after_feed-clear : (front rest : List ℕ) → feeds front ≡ 0 → drop_through line_feed (front ++ rest) ≡ drop_through line_feed rest
after_feed-clear [] rest clear = refl
after_feed-clear (x ∷ xs) rest clear =
    ap (λ b. cond b (xs ++ rest) (after_feed (xs ++ rest))) (clear_first x xs clear) ∙ after_feed-clear xs rest (clear_rest x xs clear)

by_test : (x : ℕ) (xs : List ℕ) → with_first_byte x (pieces xs) ≡ (x ∷ before_feed xs) ∷ pieces (after_feed xs) → pieces (x ∷ xs) ≡ before_feed (x ∷ xs) ∷ pieces (after_feed (x ∷ xs))
by_test x xs other =
    let P : Bool → Type 0 = λ b. cond b ([] ∷ pieces xs) (with_first_byte x (pieces xs)) ≡ cond b [] (x ∷ before_feed xs) ∷ pieces (cond b xs (after_feed xs)) in
    elim (is_feed x) as P [ true ↦ refl | false ↦ other ]

-- bytes begin with a piece; the rest are those after its line feed
pieces-first : (x : ℕ) (xs : List ℕ) → pieces (x ∷ xs) ≡ before_feed (x ∷ xs) ∷ pieces (after_feed (x ∷ xs))
pieces-first x [] = by_test x [] refl
pieces-first x (y ∷ ys) = by_test x (y ∷ ys) (ap (with_first_byte x) (pieces-first y ys))

lines-first : (xs : List ℕ) → 0 < length xs → lines xs ≡ line_of (before_feed xs) ∷ lines (after_feed xs)
lines-first [] some = absurd (omega arith)
lines-first (x ∷ xs) some = ap (map line_of) (pieces-first x xs)

longer : (front rest : List ℕ) → length front ≤ length (front ++ rest)
longer front rest = omega (arith, length-append front rest)

module _ (waiting rest : List ℕ) where
  -- n bytes, a line feed, and the bytes after it
  whole_is : (n : ℕ) → BeginsWithLine waiting n → waiting ++ rest ≡ take n waiting ++ (line_feed ∷ (drop (n + 1) waiting ++ rest))
  whole_is n line =
      ap (λ l. l ++ rest) (sym (take-append-drop n waiting) ∙ ap (λ l. take n waiting ++ l) (drop_more waiting n 0 line.inside ∙ ap (λ b. b ∷ drop (n + 1) waiting) line.feed))
      ∙ append_assoc (take n waiting) (line_feed ∷ drop (n + 1) waiting) rest

  pub after_feed-whole : (n : ℕ) → BeginsWithLine waiting n → drop_through line_feed (waiting ++ rest) ≡ drop (n + 1) waiting ++ rest
  after_feed-whole n line = ap after_feed (whole_is n line) ∙ after_feed-clear (take n waiting) (line_feed ∷ (drop (n + 1) waiting ++ rest)) line.before

  -- the first line of bytes that begin with a whole one
  pub lines-whole : (n : ℕ) → BeginsWithLine waiting n → lines (waiting ++ rest) ≡ line_of (take n waiting) ∷ lines (drop (n + 1) waiting ++ rest)
  lines-whole n line =
      let piece : before_feed (waiting ++ rest) ≡ take n waiting =
      ap before_feed (whole_is n line) ∙ before_feed-clear (take n waiting) (line_feed ∷ (drop (n + 1) waiting ++ rest)) line.before ∙ append-nil (take n waiting) in
      lines-first (waiting ++ rest) (omega (arith, longer waiting rest, line.inside))
      ∙ ap (λ l. line_of l ∷ lines (after_feed (waiting ++ rest))) piece ∙ ap (λ l. line_of (take n waiting) ∷ lines l) (after_feed-whole n line)

  -- the first line of bytes that begin with more than the longest line
  pub lines-long : feeds waiting ≡ 0 → line_limit < length waiting → lines (waiting ++ rest) ≡ too_long_line ∷ lines (drop_through line_feed (waiting ++ rest))
  lines-long clear long =
      let piece = before_feed-clear waiting rest clear in
      lines-first (waiting ++ rest) (omega (arith, longer waiting rest))
      ∙ ap (λ l. l ∷ lines (after_feed (waiting ++ rest))) (line_of-long (before_feed (waiting ++ rest)) (omega (arith, ap length piece, longer waiting (before_feed rest))))

-- bytes without a line feed are one line
pub lines-rest : (waiting : List ℕ) → feeds waiting ≡ 0 → 0 < length waiting → lines waiting ≡ line_of waiting ∷ []
lines-rest waiting clear some =
    let whole = append-nil waiting in
    lines-first waiting some
    ∙ ap (λ l. line_of l ∷ lines (after_feed waiting)) (ap before_feed (sym whole) ∙ before_feed-clear waiting [] clear ∙ whole)
    ∙ ap (λ l. line_of waiting ∷ lines l) (ap after_feed (sym whole) ∙ after_feed-clear waiting [] clear)

-- the line feeds of bytes that begin with a whole line
pub feeds-whole : (waiting : List ℕ) (n : ℕ) → BeginsWithLine waiting n → feeds waiting ≡ 1 + feeds (drop (n + 1) waiting)
feeds-whole waiting n line =
    ap feeds (sym (append-nil waiting) ∙ whole_is waiting [] n line) ∙ feeds-append (take n waiting) _
    ∙ omega (arith, line.before, feeds-cons line_feed (drop (n + 1) waiting ++ []), ap feeds (append-nil (drop (n + 1) waiting)))
