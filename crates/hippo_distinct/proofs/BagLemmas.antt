-- The number of members of a list that pass a test, for lists compared as bags.
use Rattle.std.proofs.Common.{◌≡◌, ℕ, ◌+◌, ◌<◌, ◌≤◌, arith, Bool, true, false, not, cond, ◌&&◌, ◌||◌, List, [], ◌∷◌, ◌++◌, map, refl, sym, ap, ◌∙◌}
use Rattle.std.specs.Prelude.{filter, ◌==◌}
use Rattle.std.specs.List.{list_all}
use Rattle.std.specs.Cmp.{nat_eq_equiv}
use Rattle.std.proofs.lemmas.Bool.{and_parts, and_from, or_left, or_right, eqb-true, or_parts}
use Rattle.std.proofs.lemmas.List.Folds.{list_any-append}
use Rattle.std.proofs.Math.Bool.{and-false}
use Rattle.hippo_model.specs.Terms.{ShownRow}
use Rattle.hippo_model.specs.Bags.{same_row, occurrences, same_bag}
use Rattle.hippo_model.specs.Forms.{distinct_rows}
use Rattle.hippo_model.proofs.SameRows.{same_row-refl}
use Rattle.hippo_distinct.proofs.DifferentLemmas.{same_row-exact}
use Rattle.hippo_distinct.proofs.NeededRows.{is_among, one_if, counted, once}

abbrev pub Test : Type 0
Test = ShownRow → Bool

abbrev pub count : Test → List ShownRow → ℕ
count test [] = 0
count test (row ∷ rows) = one_if (test row) + count test rows

occurrences-count : (row : ShownRow) (rows : List ShownRow) → occurrences row rows ≡ count (same_row row) rows
occurrences-count row [] = refl
occurrences-count row (first ∷ rows) = counted row first rows ∙ ap (λ (rest : ℕ). one_if (same_row row first) + rest) (occurrences-count row rows)

-- two lists contain each row the same number of times
abbrev pub AreSame : List ShownRow → List ShownRow → Type 0
AreSame some others = (row : ShownRow) → count (same_row row) some ≡ count (same_row row) others

-- a list without the first member that equals a row
abbrev erased : ShownRow → List ShownRow → List ShownRow
erased row [] = []
erased row (first ∷ rows) = cond (same_row row first) rows (first ∷ erased row rows)

erased_one : (test : Test) (row first : ShownRow) (same : Bool) (rows rest : List ShownRow) → same_row row first ≡ same
    → (0 < count (same_row row) rows → count test rows ≡ one_if (test row) + count test rest) → 0 < one_if same + count (same_row row) rows
    → one_if (test first) + count test rows ≡ one_if (test row) + count test (cond same rows (first ∷ rest))
erased_one test row first true rows rest e later some = ap (λ (one : ShownRow). one_if (test one) + count test rows) (sym (same_row-exact row first e))
erased_one test row first false rows rest e later some = let l = later (omega (arith, some)) in omega (arith, l)

count-erased : (test : Test) (row : ShownRow) (rows : List ShownRow) → 0 < count (same_row row) rows → count test rows ≡ one_if (test row) + count test (erased row rows)
count-erased test row [] some = omega (arith, some)
count-erased test row (first ∷ rows) some = erased_one test row first (same_row row first) rows (erased row rows) refl (count-erased test row rows) some

-- the same number of members pass a test in both lists
pub count-same : (some others : List ShownRow) → AreSame some others → (test : Test) → count test some ≡ count test others
count-same [] [] same test = refl
count-same [] (other ∷ others) same test =
    let one : one_if (same_row other other) ≡ 1 = ap one_if (same_row-refl other) in
    let none = same other in
    absurd (omega (arith, one, none))
count-same (row ∷ rows) others same test =
    let one : one_if (same_row row row) ≡ 1 = ap one_if (same_row-refl row) in
    let often = same row in
    let there : 0 < count (same_row row) others = omega (arith, one, often) in
    let rest : AreSame rows (erased row others) = λ other. let all = same other in let out = count-erased (same_row other) row others there in omega (arith, all, out) in
    ap (λ (more : ℕ). one_if (test row) + more) (count-same rows (erased row others) rest test) ∙ sym (count-erased test row others there)

-- a member passes a test that all members pass
pub at_member : (test : Test) (rows : List ShownRow) → list_all test rows ≡ true → (row : ShownRow) → is_among rows row ≡ true → test row ≡ true
at_member test [] all row among = absurd cc
at_member test (first ∷ rows) all row among =
    by (same_row row first) refl (at_member test rows (and_parts (test first) (list_all test rows) all).1 row) among
  where
    by : (same : Bool) → same_row row first ≡ same → (is_among rows row ≡ true → test row ≡ true) → (same || is_among rows row) ≡ true → test row ≡ true
    by true e later here = ap test (same_row-exact row first e) ∙ (and_parts (test first) (list_all test rows) all).0
    by false e later among = later among

pub all_members : (test : Test) (rows : List ShownRow) → ((row : ShownRow) → is_among rows row ≡ true → test row ≡ true) → list_all test rows ≡ true
all_members test [] each = refl
all_members test (first ∷ rows) each =
    and_from _ _ (each first (or_left (same_row first first) (is_among rows first) (same_row-refl first)))
    (all_members test rows (λ row among. each row (or_right (same_row row first) (is_among rows row) among)))

none_counted : (row : ShownRow) (rows : List ShownRow) → is_among rows row ≡ false → count (same_row row) rows ≡ 0
none_counted row [] e = refl
none_counted row (first ∷ rows) e = by (same_row row first) (none_counted row rows) e
  where
    by : (same : Bool) → (is_among rows row ≡ false → count (same_row row) rows ≡ 0) → (same || is_among rows row) ≡ false → one_if same + count (same_row row) rows ≡ 0
    by true later wrong = absurd cc
    by false later none = let l = later none in omega (arith, l)

-- from bags to counts, and back
pub same-from_bag : (left right : List ShownRow) → same_bag left right ≡ true → AreSame left right
same-from_bag left right bag row = by (is_among (left ++ right) row) refl
  where
    by : (among : Bool) → is_among (left ++ right) row ≡ among → count (same_row row) left ≡ count (same_row row) right
    by true among =
        sym (occurrences-count row left) ∙ eqb-true _ _ (at_member (λ one. occurrences one left == occurrences one right) (left ++ right) bag row among) ∙ occurrences-count row right
    by false among =
        let both = or_parts (is_among left row) (is_among right row) (sym (list_any-append (same_row row) left right) ∙ among) in
        none_counted row left both.0 ∙ sym (none_counted row right both.1)

pub bag-from_same : (left right : List ShownRow) → AreSame left right → same_bag left right ≡ true
bag-from_same left right same = all_members (λ one. occurrences one left == occurrences one right) (left ++ right) (λ row among.
    ap (λ (often : ℕ). often == occurrences row right) (occurrences-count row left ∙ same row ∙ sym (occurrences-count row right)) ∙ nat_eq_equiv.refl (occurrences row right))

pub count-map : (test : Test) (f : ShownRow → ShownRow) (rows : List ShownRow) → count test (map f rows) ≡ count (λ row. test (f row)) rows
count-map test f [] = refl
count-map test f (row ∷ rows) = ap (λ (rest : ℕ). one_if (test (f row)) + rest) (count-map test f rows)

count-filter : (test keeps : Test) (rows : List ShownRow) → count test (filter keeps rows) ≡ count (λ row. keeps row && test row) rows
count-filter test keeps [] = refl
count-filter test keeps (row ∷ rows) = by (keeps row) (filter keeps rows) (count-filter test keeps rows)
  where
    by : (kept : Bool) (rest : List ShownRow) → count test rest ≡ count (λ row. keeps row && test row) rows
        → count test (cond kept (row ∷ rest) rest) ≡ one_if (kept && test row) + count (λ row. keeps row && test row) rows
    by true rest e = ap (λ (more : ℕ). one_if (test row) + more) e
    by false rest e = omega (arith, e)

count-none : (rows : List ShownRow) → count (λ row. false) rows ≡ 0
count-none [] = refl
count-none (row ∷ rows) = let rest = count-none rows in omega (arith, rest)

-- tests that agree when another test passes
pub count-agree : (p q passes : Test) → ((row : ShownRow) → passes row ≡ true → p row ≡ q row) → (rows : List ShownRow) → list_all passes rows ≡ true → count p rows ≡ count q rows
count-agree p q passes agree [] all = refl
count-agree p q passes agree (row ∷ rows) all =
    let both = and_parts (passes row) (list_all passes rows) all in
    λ i. one_if (agree row both.0 i) + count-agree p q passes agree rows both.1 i

-- if a test implies another, and the same number pass both, the other implies it
abbrev pub implied : Test → Test → Test
implied p q row = not (q row) || p row

count-le : (p q : Test) → ((row : ShownRow) → p row ≡ true → q row ≡ true) → (rows : List ShownRow) → count p rows ≤ count q rows
count-le p q then [] = omega arith
count-le p q then (row ∷ rows) = by (p row) (q row) (then row) (count-le p q then rows)
  where
    by : (a b : Bool) → (a ≡ true → b ≡ true) → count p rows ≤ count q rows → one_if a + count p rows ≤ one_if b + count q rows
    by true true each less = omega (arith, less)
    by true false each less = let wrong = each refl in absurd cc
    by false true each less = omega (arith, less)
    by false false each less = omega (arith, less)

pub all_implied : (p q : Test) → ((row : ShownRow) → p row ≡ true → q row ≡ true) → (rows : List ShownRow) → count p rows ≡ count q rows → list_all (implied p q) rows ≡ true
all_implied p q then [] e = refl
all_implied p q then (row ∷ rows) e = by (p row) (q row) (then row) (count-le p q then rows) (all_implied p q then rows) e
  where
    by : (a b : Bool) → (a ≡ true → b ≡ true) → count p rows ≤ count q rows → (count p rows ≡ count q rows → list_all (implied p q) rows ≡ true)
        → one_if a + count p rows ≡ one_if b + count q rows → ((not b || a) && list_all (implied p q) rows) ≡ true
    by true true each less rest same = rest (omega (arith, same))
    by true false each less rest same = let wrong = each refl in absurd cc
    by false true each less rest same = absurd (omega (arith, less, same))
    by false false each less rest same = rest (omega (arith, same))

module _ (some all : List ShownRow) (within : list_all (is_among all) some ≡ true) where
  shared_with : (row other : ShownRow) (same : Bool) → same_row row other ≡ same → (is_among some other && same) ≡ (is_among some row && same)
  shared_with row other true e = ap (λ (one : ShownRow). is_among some one && true) (sym (same_row-exact row other e))
  shared_with row other false e = and-false (is_among some other) ∙ sym (and-false (is_among some row))

  of_some : (row : ShownRow) (among : Bool) → is_among some row ≡ among → count (λ other. among && same_row row other) (distinct_rows all) ≡ one_if among
  of_some row true e = sym (occurrences-count row (distinct_rows all)) ∙ once row all ∙ ap one_if (at_member (is_among all) some within row e)
  of_some row false e = count-none (distinct_rows all)

  same-distinct_rows : AreSame (distinct_rows some) (filter (is_among some) (distinct_rows all))
  same-distinct_rows row =
      sym (occurrences-count row (distinct_rows some)) ∙ once row some ∙ sym (of_some row (is_among some row) refl)
      ∙ sym (λ i. count (λ other. shared_with row other (same_row row other) refl i) (distinct_rows all))
      ∙ sym (count-filter (same_row row) (is_among some) (distinct_rows all))

  -- the different rows, counted among those of all
  pub count-distinct_rows : (test : Test) → count test (distinct_rows some) ≡ count (λ row. is_among some row && test row) (distinct_rows all)
  count-distinct_rows test = count-same (distinct_rows some) (filter (is_among some) (distinct_rows all)) same-distinct_rows test ∙ count-filter test (is_among some) (distinct_rows all)
