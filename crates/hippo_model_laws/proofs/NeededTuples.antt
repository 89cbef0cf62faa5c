-- Which combinations an answer needs.
use Rattle.std.proofs.Common.{◌≡◌, ℕ, ◌+◌, ◌<◌, Bool, true, false, not, cond, ◌&&◌, ◌||◌, List, [], ◌∷◌, ◌++◌, map, refl, sym, ap, ◌∙◌, arith}
use Rattle.std.specs.Prelude.{filter, ◌==◌}
use Rattle.std.specs.List.{list_any, list_all}
use Rattle.std.specs.Cmp.{nat_eq_equiv}
use Rattle.std.proofs.lemmas.Bool.{and_parts, and_from, eqb-true, or_parts}
use Rattle.std.proofs.lemmas.List.Sums.{sum_by-cons}
use Rattle.std.proofs.lemmas.List.Folds.{list_all-append}
use Rattle.hippo_values.proofs.CondLemmas.{on_cond}
use Rattle.hippo_model.specs.Terms.{ShownRow}
use Rattle.hippo_model.specs.Bags.{same_row, occurrences, same_bag}
use Rattle.hippo_model.proofs.SameRows.{same_row-refl}

-- equal lists of rows are the same bag
same_counts : (rows some : List ShownRow) → list_all (λ row. occurrences row rows == occurrences row rows) some ≡ true
same_counts rows [] = refl
same_counts rows (row ∷ some) = and_from _ _ (nat_eq_equiv.refl (occurrences row rows)) (same_counts rows some)

module _ {C : Type 0} (row_of : C → ShownRow) (passes is_out : C → Bool) where
  abbrev answered : List C → List ShownRow
  answered combinations = map row_of (filter passes combinations)

  abbrev left : List C → List ShownRow
  left combinations = answered (filter (λ c. not (is_out c)) combinations)

  abbrev is_lost : C → Bool
  is_lost c = is_out c && passes c

  abbrev one_if : Bool → ℕ
  one_if test = cond test 1 0

  -- how often a row is lost
  abbrev lost : ShownRow → List C → ℕ
  lost row [] = 0
  lost row (c ∷ combinations) = one_if (is_lost c && same_row row (row_of c)) + lost row combinations

  answered-cons : (c : C) (rest : List C) → answered (c ∷ rest) ≡ cond (passes c) (row_of c ∷ answered rest) (answered rest)
  answered-cons c rest = on_cond (map row_of) (passes c) (c ∷ filter passes rest) (filter passes rest)

  left-cons : (c : C) (rest : List C) → left (c ∷ rest) ≡ cond (not (is_out c)) (cond (passes c) (row_of c ∷ left rest) (left rest)) (left rest)
  left-cons c rest =
      let kept : List C = filter (λ c. not (is_out c)) rest in
      on_cond answered (not (is_out c)) (c ∷ kept) kept ∙ ap (λ (rows : List ShownRow). cond (not (is_out c)) rows (left rest)) (answered-cons c kept)

  counted : (row first : ShownRow) (rest : List ShownRow) → occurrences row (first ∷ rest) ≡ one_if (same_row row first) + occurrences row rest
  counted row first rest = sum_by-cons (λ other. cond (same_row row other) 1 0) first rest

  -- what one combination adds to the answer, to the rest and to the lost rows
  sum_of_one : (row : ShownRow) (out test : Bool) (first : ShownRow) (whole part : List ShownRow) (gone : ℕ) → occurrences row whole ≡ occurrences row part + gone
      → occurrences row (cond test (first ∷ whole) whole) ≡ occurrences row (cond (not out) (cond test (first ∷ part) part) part) + (one_if ((out && test) && same_row row first) + gone)
  sum_of_one row true true first whole part gone e = let k = counted row first whole in omega arith
  sum_of_one row true false first whole part gone e = omega arith
  sum_of_one row false true first whole part gone e = let k = counted row first whole in let m = counted row first part in omega arith
  sum_of_one row false false first whole part gone e = omega arith

  -- a row occurs in the answer as often as in the rest and in the lost rows together
  sum_of : (row : ShownRow) (combinations : List C) → occurrences row (answered combinations) ≡ occurrences row (left combinations) + lost row combinations
  sum_of row [] = refl
  sum_of row (c ∷ combinations) =
      rw (answered-cons c combinations, left-cons c combinations) (sum_of_one row (is_out c) (passes c) (row_of c) (answered combinations) (left combinations) (lost row combinations) (sum_of row combinations))

  -- nothing is lost
  same_if : (out test : Bool) (first : ShownRow) (whole part : List ShownRow) → (out && test) ≡ false → part ≡ whole → cond (not out) (cond test (first ∷ part) part) part ≡ cond test (first ∷ whole) whole
  same_if true true first whole part none e = absurd cc
  same_if true false first whole part none e = e
  same_if false true first whole part none e = ap (λ (rows : List ShownRow). first ∷ rows) e
  same_if false false first whole part none e = e

  same_if_none : (combinations : List C) → list_any is_lost combinations ≡ false → left combinations ≡ answered combinations
  same_if_none [] none = refl
  same_if_none (c ∷ combinations) none =
      let both = or_parts (is_lost c) (list_any is_lost combinations) none in
      left-cons c combinations
      ∙ same_if (is_out c) (passes c) (row_of c) (answered combinations) (left combinations) both.0 (same_if_none combinations both.1) ∙ sym (answered-cons c combinations)

  abbrev LostRow : (ShownRow → Bool) → List C → Type 0
  LostRow test combinations = (row : ShownRow) × (test row ≡ true) × (0 < lost row combinations)

  lost_here_or_later : (test : ShownRow → Bool) (first : ShownRow) (out pass some : Bool) (whole : List ShownRow) (gone : ShownRow → ℕ)
      → (some ≡ true → list_all test whole ≡ true → (row : ShownRow) × (test row ≡ true) × (0 < gone row)) → ((out && pass) || some) ≡ true → list_all test (cond pass (first ∷ whole) whole) ≡ true
      → (row : ShownRow) × (test row ≡ true) × (0 < one_if ((out && pass) && same_row row first) + gone row)
  lost_here_or_later test first true true some whole gone later any all =
      let more : 0 < 1 + gone first = omega arith in (first, (and_parts (test first) (list_all test whole) all).0, rw (same_row-refl first) more)
  lost_here_or_later test first true false some whole gone later any all = let l = later any all in (l.0, l.1, omega (arith, l.2))
  lost_here_or_later test first false true some whole gone later any all = let l = later any (and_parts (test first) (list_all test whole) all).1 in (l.0, l.1, omega (arith, l.2))
  lost_here_or_later test first false false some whole gone later any all = let l = later any all in (l.0, l.1, omega (arith, l.2))

  -- a test that each row of an answer passes is passed by a lost row, if there is one
  lost_row : (test : ShownRow → Bool) (combinations : List C) → list_any is_lost combinations ≡ true → list_all test (answered combinations) ≡ true → LostRow test combinations
  lost_row test [] some all = absurd cc
  lost_row test (c ∷ combinations) some all =
      lost_here_or_later test (row_of c) (is_out c) (passes c) (list_any is_lost combinations) (answered combinations) (λ row. lost row combinations) (λ later each. lost_row test combinations later each) some
      (sym (ap (list_all test) (answered-cons c combinations)) ∙ all)

  abbrev is_as_often : List C → ShownRow → Bool
  is_as_often combinations row = occurrences row (left combinations) == occurrences row (answered combinations)

  not_the_same : (combinations : List C) → list_any is_lost combinations ≡ true → ¬ (same_bag (left combinations) (answered combinations) ≡ true)
  not_the_same combinations some bag =
      let both = and_parts (list_all (is_as_often combinations) (left combinations)) (list_all (is_as_often combinations) (answered combinations)) (sym (list_all-append (is_as_often combinations) (left combinations) (answered combinations)) ∙ bag) in
      let l = lost_row (is_as_often combinations) combinations some both.1 in
      let often : occurrences l.0 (left combinations) ≡ occurrences l.0 (answered combinations) = eqb-true _ _ l.1 in
      omega (arith, sum_of l.0 combinations, l.2, often)

  the_same : (combinations : List C) → list_any is_lost combinations ≡ false → same_bag (left combinations) (answered combinations) ≡ true
  the_same combinations none = rw (same_if_none combinations none) (same_counts (answered combinations) (answered combinations ++ answered combinations))

  -- the answer becomes a different bag exactly when something is lost
  pub needs_what_is_lost : (combinations : List C) → not (same_bag (left combinations) (answered combinations)) ≡ list_any is_lost combinations
  needs_what_is_lost combinations =
      elim (list_any is_lost combinations) as (λ lost. list_any is_lost combinations ≡ lost → not (same_bag (left combinations) (answered combinations)) ≡ lost) [
        | false ↦ λ none. ap not (the_same combinations none)
        | true ↦ λ some. elim (same_bag (left combinations) (answered combinations)) as (λ same. same_bag (left combinations) (answered combinations) ≡ same → not same ≡ true) [
          | true ↦ λ bag. absurd (not_the_same combinations some bag)
          | false ↦ λ bag. refl
        ] refl
      ] refl
