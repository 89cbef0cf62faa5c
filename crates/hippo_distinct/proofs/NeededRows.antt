-- Which of the different rows of an answer disappear when combinations are removed.
use Rattle.std.proofs.Common.{◌≡◌, ℕ, ◌+◌, Bool, true, false, not, cond, ◌&&◌, ◌||◌, List, [], ◌∷◌, ◌++◌, map, refl, sym, ap, ◌∙◌, zero-add}
use Rattle.std.specs.Prelude.{filter, ◌==◌}
use Rattle.std.specs.List.{list_any, list_all}
use Rattle.std.proofs.lemmas.Bool.{and_parts, and_from, or_left, or_right}
use Rattle.std.proofs.lemmas.List.Sums.{sum_by-cons}
use Rattle.std.proofs.lemmas.List.Folds.{list_all-append}
use Rattle.hippo_model.specs.Terms.{ShownRow}
use Rattle.hippo_model.specs.Bags.{same_row, occurrences, same_bag}
use Rattle.hippo_model.specs.Forms.{distinct_rows}
use Rattle.hippo_model.proofs.SameRows.{same_row-refl}
use Rattle.hippo_distinct.proofs.DifferentLemmas.{same_row-exact}

-- whether a row is among others
abbrev pub is_among : List ShownRow → ShownRow → Bool
is_among rows row = list_any (same_row row) rows

abbrev pub one_if : Bool → ℕ
one_if test = cond test 1 0

abbrev others : ShownRow → List ShownRow → List ShownRow
others first rows = filter (λ row. not (same_row first row)) rows

-- tests of all rows
list_all-mono : (p q : ShownRow → Bool) → ((row : ShownRow) → p row ≡ true → q row ≡ true) → (rows : List ShownRow) → list_all p rows ≡ true → list_all q rows ≡ true
list_all-mono p q then [] all = refl
list_all-mono p q then (row ∷ rows) all =
    let both = and_parts (p row) (list_all p rows) all in
    and_from (q row) (list_all q rows) (then row both.0) (list_all-mono p q then rows both.1)

-- a copy of the first row changes nothing if the first row passes
one_dropped : (p : ShownRow → Bool) (first row : ShownRow) (same : Bool) → same_row first row ≡ same → p first ≡ true → (some rest : List ShownRow) → list_all p some ≡ list_all p rest
    → list_all p (cond (not same) (row ∷ some) some) ≡ (p row && list_all p rest)
one_dropped p first row true same passes some rest e = e ∙ ap (λ (test : Bool). test && list_all p rest) (sym (ap p (sym (same_row-exact first row same)) ∙ passes))
one_dropped p first row false same passes some rest e = ap (λ (test : Bool). p row && test) e

all_others : (p : ShownRow → Bool) (first : ShownRow) → p first ≡ true → (rows : List ShownRow) → list_all p (others first rows) ≡ list_all p rows
all_others p first passes [] = refl
all_others p first passes (row ∷ rows) = one_dropped p first row (same_row first row) refl passes (others first rows) rows (all_others p first passes rows)

-- the different rows pass a test exactly when all rows do
pub all_different : (p : ShownRow → Bool) (rows : List ShownRow) → list_all p (distinct_rows rows) ≡ list_all p rows
all_different p [] = refl
all_different p (first ∷ rows) = by (p first) refl ∙ ap (λ (rest : Bool). p first && rest) (all_different p rows)
  where
    by : (passes : Bool) → p first ≡ passes → (p first && list_all p (others first (distinct_rows rows))) ≡ (p first && list_all p (distinct_rows rows))
    by true passes = ap (λ (rest : Bool). p first && rest) (all_others p first passes (distinct_rows rows))
    by false passes = ap (λ (test : Bool). test && list_all p (others first (distinct_rows rows))) passes ∙ sym (ap (λ (test : Bool). test && list_all p (distinct_rows rows)) passes)

pub counted : (row first : ShownRow) (rest : List ShownRow) → occurrences row (first ∷ rest) ≡ one_if (same_row row first) + occurrences row rest
counted row first rest = sum_by-cons (λ other. cond (same_row row other) 1 0) first rest

-- a row is not among those that differ from it
none_left : (row first : ShownRow) (same : Bool) → same_row row first ≡ same → (some : List ShownRow) → occurrences row some ≡ 0 → occurrences row (cond (not same) (first ∷ some) some) ≡ 0
none_left row first true same some e = e
none_left row first false same some e = counted row first some ∙ ap (λ (test : Bool). one_if test + occurrences row some) same ∙ ap (λ (count : ℕ). 0 + count) e

none_of_others : (row : ShownRow) (rows : List ShownRow) → occurrences row (others row rows) ≡ 0
none_of_others row [] = refl
none_of_others row (first ∷ rows) = none_left row first (same_row row first) refl (others row rows) (none_of_others row rows)

-- another row is not counted
one_kept : (row first one : ShownRow) (same : Bool) → same_row first one ≡ same → same_row row first ≡ false → (some rest : List ShownRow) → occurrences row some ≡ occurrences row rest
    → occurrences row (cond (not same) (one ∷ some) some) ≡ occurrences row (one ∷ rest)
one_kept row first one true same apart some rest e =
    let none : same_row row one ≡ false = ap (same_row row) (sym (same_row-exact first one same)) ∙ apart in
    e ∙ sym (zero-add (occurrences row rest)) ∙ ap (λ (test : Bool). one_if test + occurrences row rest) (sym none) ∙ sym (counted row one rest)
one_kept row first one false same apart some rest e = counted row one some ∙ ap (λ (count : ℕ). one_if (same_row row one) + count) e ∙ sym (counted row one rest)

as_often_in_others : (row first : ShownRow) → same_row row first ≡ false → (rows : List ShownRow) → occurrences row (others first rows) ≡ occurrences row rows
as_often_in_others row first apart [] = refl
as_often_in_others row first apart (one ∷ rows) = one_kept row first one (same_row first one) refl apart (others first rows) rows (as_often_in_others row first apart rows)

-- a row is among the different rows once, or not at all
pub once : (row : ShownRow) (rows : List ShownRow) → occurrences row (distinct_rows rows) ≡ one_if (is_among rows row)
once row [] = refl
once row (first ∷ rows) = counted row first (others first (distinct_rows rows)) ∙ by (same_row row first) refl (once row rows)
  where
    by : (same : Bool) → same_row row first ≡ same → occurrences row (distinct_rows rows) ≡ one_if (is_among rows row)
        → one_if (same_row row first) + occurrences row (others first (distinct_rows rows)) ≡ one_if (same_row row first || is_among rows row)
    by true same rest =
        let none : occurrences row (others first (distinct_rows rows)) ≡ 0 = ap (λ (one : ShownRow). occurrences row (others one (distinct_rows rows))) (sym (same_row-exact row first same)) ∙ none_of_others row (distinct_rows rows) in
        (λ i. one_if (same i) + none i) ∙ sym (ap (λ (test : Bool). one_if (test || is_among rows row)) same)
    by false same rest =
        (λ i. one_if (same i) + (as_often_in_others row first same (distinct_rows rows) ∙ rest) i) ∙ zero-add (one_if (is_among rows row)) ∙ sym (ap (λ (test : Bool). one_if (test || is_among rows row)) same)

-- each row is among all
all_among : (rows : List ShownRow) → list_all (is_among rows) rows ≡ true
all_among [] = refl
all_among (first ∷ rows) =
    and_from _ _ (or_left (same_row first first) (is_among rows first) (same_row-refl first))
    (list_all-mono (is_among rows) (is_among (first ∷ rows)) (λ row among. or_right (same_row row first) (is_among rows row) among) rows (all_among rows))

-- if each row is among all: it is equally often in some and in all exactly when it is among some
abbrev as_often : List ShownRow → List ShownRow → ShownRow → Bool
as_often some all row = one_if (is_among some row) == one_if (is_among all row)

bit_of_true : (a b : Bool) → b ≡ true → (one_if a == one_if b) ≡ a
bit_of_true true b is = ap (λ (test : Bool). 1 == one_if test) is
bit_of_true false b is = ap (λ (test : Bool). 0 == one_if test) is

as_often_within : (some all rows : List ShownRow) → list_all (is_among all) rows ≡ true → list_all (as_often some all) rows ≡ list_all (is_among some) rows
as_often_within some all [] among = refl
as_often_within some all (row ∷ rows) among =
    let both = and_parts (is_among all row) (list_all (is_among all) rows) among in
    λ i. bit_of_true (is_among some row) (is_among all row) both.0 i && as_often_within some all rows both.1 i

-- the different rows of some and of all are one bag exactly when each of all is among some
same_where_all_are_left : (some all : List ShownRow) → list_all (is_among all) some ≡ true → same_bag (distinct_rows some) (distinct_rows all) ≡ list_all (is_among some) all
same_where_all_are_left some all within =
    (λ i. list_all (λ row. once row some i == once row all i) (distinct_rows some ++ distinct_rows all))
    ∙ list_all-append (as_often some all) (distinct_rows some) (distinct_rows all)
    ∙ (λ i. all_different (as_often some all) some i && all_different (as_often some all) all i)
    ∙ (λ i. as_often_within some all some within i && as_often_within some all all (all_among all) i)
    ∙ ap (λ (test : Bool). test && list_all (is_among some) all) (all_among some)

pub not_all : (p : ShownRow → Bool) (rows : List ShownRow) → not (list_all p rows) ≡ list_any (λ row. not (p row)) rows
not_all p [] = refl
not_all p (row ∷ rows) = by (p row) ∙ ap (λ (test : Bool). not (p row) || test) (not_all p rows)
  where
    by : (test : Bool) → not (test && list_all p rows) ≡ (not test || not (list_all p rows))
    by true = refl
    by false = refl

either : {A B : Type 0} (f : A → B) (test : Bool) (one other : A) → f (cond test one other) ≡ cond test (f one) (f other)
either f true one other = refl
either f false one other = refl

module _ {C : Type 0} (row_of : C → ShownRow) (passes is_out : C → Bool) where
  abbrev pub answered : List C → List ShownRow
  answered combinations = map row_of (filter passes combinations)

  abbrev pub left : List C → List ShownRow
  left combinations = answered (filter (λ c. not (is_out c)) combinations)

  -- whether a row comes only from combinations that are removed
  abbrev pub alone : List C → ShownRow → Bool
  alone combinations row = list_all (λ c. not (passes c && same_row row (row_of c)) || is_out c) combinations

  left-cons : (c : C) (rest : List C) → left (c ∷ rest) ≡ cond (not (is_out c)) (cond (passes c) (row_of c ∷ left rest) (left rest)) (left rest)
  left-cons c rest =
      let kept : List C = filter (λ c. not (is_out c)) rest in
      either answered (not (is_out c)) (c ∷ kept) kept ∙ ap (λ (rows : List ShownRow). cond (not (is_out c)) rows (left rest)) (either (map row_of) (passes c) (c ∷ filter passes kept) (filter passes kept))

  alone_with_one : (out pass same : Bool) (first row : ShownRow) (rows : List ShownRow) → same_row row first ≡ same
      → ((not (pass && same) || out) && not (is_among rows row)) ≡ not (is_among (cond (not out) (cond pass (first ∷ rows) rows) rows) row)
  alone_with_one true true true first row rows e = refl
  alone_with_one true true false first row rows e = refl
  alone_with_one true false same first row rows e = refl
  alone_with_one false false same first row rows e = refl
  alone_with_one false true true first row rows e = ap (λ (test : Bool). not (test || is_among rows row)) (sym e)
  alone_with_one false true false first row rows e = ap (λ (test : Bool). not (test || is_among rows row)) (sym e)

  -- a row comes only from them exactly when it is not among the remaining rows
  pub alone_is : (row : ShownRow) (combinations : List C) → alone combinations row ≡ not (is_among (left combinations) row)
  alone_is row [] = refl
  alone_is row (c ∷ rest) =
      ap (λ (test : Bool). (not (passes c && same_row row (row_of c)) || is_out c) && test) (alone_is row rest)
      ∙ alone_with_one (is_out c) (passes c) (same_row row (row_of c)) (row_of c) row (left rest) refl
      ∙ ap (λ (rows : List ShownRow). not (is_among rows row)) (sym (left-cons c rest))

  -- the remaining rows are among all
  within_one : (out pass : Bool) (first : ShownRow) (some all : List ShownRow) → list_all (is_among all) some ≡ true
      → list_all (is_among (cond pass (first ∷ all) all)) (cond (not out) (cond pass (first ∷ some) some) some) ≡ true
  within_one true true first some all within = list_all-mono (is_among all) (is_among (first ∷ all)) (λ row among. or_right (same_row row first) (is_among all row) among) some within
  within_one true false first some all within = within
  within_one false true first some all within =
      and_from _ _ (or_left (same_row first first) (is_among all first) (same_row-refl first))
      (list_all-mono (is_among all) (is_among (first ∷ all)) (λ row among. or_right (same_row row first) (is_among all row) among) some within)
  within_one false false first some all within = within

  pub left_within : (combinations : List C) → list_all (is_among (answered combinations)) (left combinations) ≡ true
  left_within [] = refl
  left_within (c ∷ rest) =
      let step = within_one (is_out c) (passes c) (row_of c) (left rest) (answered rest) (left_within rest) in
      (λ i. list_all (is_among (either (map row_of) (passes c) (c ∷ filter passes rest) (filter passes rest) i)) (left-cons c rest i)) ∙ step

  -- the different rows become another bag exactly when some row comes only from removed
  -- combinations
  pub needs_what_comes_alone : (combinations : List C) → not (same_bag (distinct_rows (left combinations)) (distinct_rows (answered combinations))) ≡ list_any (alone combinations) (answered combinations)
  needs_what_comes_alone combinations =
      ap not (same_where_all_are_left (left combinations) (answered combinations) (left_within combinations))
      ∙ not_all (is_among (left combinations)) (answered combinations)
      ∙ λ i. list_any (λ row. sym (alone_is row combinations) i) (answered combinations)
