-- Different rows that are kept, one more row.
use Rattle.std.proofs.Common.{◌≡◌, ℕ, zero, suc, Some, Bool, true, false, cond, not, ◌&&◌, List, [], ◌∷◌, ◌++◌, refl, sym, ap, ◌∙◌}
use Rattle.std.specs.Prelude.{Option, slice_get, unwrap_or}
use Rattle.std.specs.List.{list_any, list_all}
use Rattle.std.specs.Cmp.Lexicographic.{pointwise}
use Rattle.std.proofs.lemmas.Bool.{or_left, or_right}
use Rattle.std.proofs.lemmas.List.{append-nil}
use Rattle.indexmap.specs.IndexSet.{insert_key}
use Rattle.hippo_values.specs.OrderLaws.{value_ties}
use Rattle.hippo_model.specs.declared.cells.Cell.{Cell}
use Rattle.hippo_model.specs.declared.cells.Cell.TheVariants.{Shown, Denied}
use Rattle.hippo_model.specs.Terms.{ShownRow}
use Rattle.hippo_model.specs.Bags.{same_cell, same_row}
use Rattle.hippo_model.specs.Forms.{distinct_rows}
use Rattle.hippo_model.specs.contracts.cells.CellPartialEq.TheImpl as derived
use Rattle.hippo_model.proofs.SameRows.{same_row-refl}
use Rattle.hippo_distinct.specs.DistinctRows.{stands_in}
use Rattle.hippo_distinct.proofs.DifferentLemmas.{if_new, distinct_rows-push, same_row-exact}
use Rattle.hippo_distinct.proofs.NeededRows.{all_different, not_all}

pub same_row-sym : (a b : ShownRow) → same_row a b ≡ same_row b a
same_row-sym a b = by (same_row a b) (same_row b a) refl refl
  where
    by : (one other : Bool) → same_row a b ≡ one → same_row b a ≡ other → same_row a b ≡ same_row b a
    by true true e f = e ∙ sym f
    by false false e f = e ∙ sym f
    by true false e f = ap (λ (row : ShownRow). same_row row b) (same_row-exact a b e) ∙ ap (same_row b) (sym (same_row-exact a b e))
    by false true e f = ap (λ (row : ShownRow). same_row row b) (sym (same_row-exact b a f)) ∙ ap (same_row b) (same_row-exact b a f)

-- rows are equal when they are the same
abbrev pub row_eq : ShownRow → ShownRow → Bool
row_eq = pointwise (derived.ghosts).eq

cell_eq-same : (a b : Cell) → (derived.ghosts).eq a b ≡ same_cell a b
cell_eq-same (Shown a) (Shown b) = value_ties a b
cell_eq-same (Denied a) (Denied b) = refl
cell_eq-same (Shown a) (Denied b) = refl
cell_eq-same (Denied a) (Shown b) = refl

pub row_eq-same : (a b : ShownRow) → row_eq a b ≡ same_row a b
row_eq-same [] [] = refl
row_eq-same [] (b ∷ bs) = refl
row_eq-same (a ∷ rest) [] = refl
row_eq-same (a ∷ rest) (b ∷ bs) = λ i. cell_eq-same a b i && row_eq-same rest bs i

not_not : (test : Bool) → not (not test) ≡ test
not_not true = refl
not_not false = refl

any-not-all : (test : ShownRow → Bool) (rows : List ShownRow) → list_any test rows ≡ not (list_all (λ row. not (test row)) rows)
any-not-all test rows = sym (λ i. list_any (λ row. not_not (test row) i) rows) ∙ sym (not_all (λ row. not (test row)) rows)

-- some of the different rows pass a test exactly when some of all rows do
pub any-distinct_rows : (test : ShownRow → Bool) (rows : List ShownRow) → list_any test (distinct_rows rows) ≡ list_any test rows
any-distinct_rows test rows = any-not-all test (distinct_rows rows) ∙ ap not (all_different (λ row. not (test row)) rows) ∙ sym (any-not-all test rows)

-- a row is among the different rows exactly when it is among all
pub stands-distinct_rows : (row : ShownRow) (rows : List ShownRow) → stands_in row (distinct_rows rows) ≡ stands_in row rows
stands-distinct_rows row rows = any-distinct_rows (λ other. same_row other row) rows

-- a set's lookup asks whether a row is among its own
pub asks-stands_in : (row : ShownRow) (rows : List ShownRow) → list_any (row_eq row) rows ≡ stands_in row rows
asks-stands_in row rows = λ i. list_any (λ other. (row_eq-same row other ∙ same_row-sym row other) i) rows

-- the different rows with one more row are those with the row inserted
pub put_in : (kept found : List ShownRow) (row : ShownRow) → kept ≡ distinct_rows found → insert_key row_eq kept row ≡ distinct_rows (found ++ row ∷ [])
put_in kept found row are =
    ap (λ (rows : List ShownRow). insert_key row_eq rows row) are
    ∙ (λ i. cond ((asks-stands_in row (distinct_rows found) ∙ stands-distinct_rows row found) i) (distinct_rows found) (distinct_rows found ++ row ∷ []))
    ∙ by (stands_in row found)
    ∙ sym (distinct_rows-push found row)
  where
    by : (stands : Bool) → cond stands (distinct_rows found) (distinct_rows found ++ row ∷ []) ≡ distinct_rows found ++ if_new stands row
    by true = sym (append-nil (distinct_rows found))
    by false = refl

-- a row that is among them adds none
pub there_already : (kept found : List ShownRow) (row : ShownRow) → kept ≡ distinct_rows found → list_any (row_eq row) kept ≡ true → kept ≡ distinct_rows (found ++ row ∷ [])
there_already kept found row are there = sym (ap (λ (test : Bool). cond test kept (kept ++ row ∷ [])) there) ∙ put_in kept found row are

any-at_place : (test : ShownRow → Bool) (rows : List ShownRow) (place : ℕ) (row : ShownRow) → slice_get rows place ≡ Some row → test row ≡ true → list_any test rows ≡ true
any-at_place test [] place row at passes = cc
any-at_place test (first ∷ rows) zero row at passes = or_left (test first) (list_any test rows) (ap (λ (found : Option ShownRow). test (unwrap_or found first)) at ∙ passes)
any-at_place test (first ∷ rows) (suc place) row at passes = or_right (test first) (list_any test rows) (any-at_place test rows place row at passes)

-- a row at some place adds none
pub stands_at : (kept found : List ShownRow) (place : ℕ) (row : ShownRow) → kept ≡ distinct_rows found → slice_get kept place ≡ Some row → kept ≡ distinct_rows (found ++ row ∷ [])
stands_at kept found place row are at = there_already kept found row are (any-at_place (row_eq row) kept place row at (row_eq-same row row ∙ same_row-refl row))
