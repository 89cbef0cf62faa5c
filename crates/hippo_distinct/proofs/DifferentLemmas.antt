-- The different rows, one more row.
use Rattle.std.proofs.Common.{◌≡◌, append_assoc, Bool, true, false, not, cond, ◌||◌, List, [], ◌∷◌, ◌++◌, refl, sym, ap, ◌∙◌}
use Rattle.std.specs.Prelude.{filter}
use Rattle.std.specs.Ordering.{is_eq, ordering_then}
use Rattle.std.specs.declared.cmp.Ordering.{Ordering}
use Rattle.std.specs.declared.cmp.Ordering.TheVariants.{Less, Equal, Greater}
use Rattle.std.proofs.lemmas.Bool.{eqb-true}
use Rattle.std.proofs.lemmas.List.{append-nil}
use Rattle.std.proofs.lemmas.List.Elements.{filter-append}
use Rattle.std.proofs.lemmas.List.Folds.{list_any-append}
use Rattle.std.proofs.lemmas.Slice.Eq.{slice_eq-Decides}
use Rattle.std.proofs.Math.Bool.{or-false}
use Rattle.hippo_values.specs.Order.{value_cmp}
use Rattle.hippo_model.specs.declared.cells.Cell.{Cell}
use Rattle.hippo_model.specs.declared.cells.Cell.TheVariants.{Shown, Denied}
use Rattle.hippo_model.specs.Terms.{ShownRow}
use Rattle.hippo_model.specs.Bags.{same_cell, same_row}
use Rattle.hippo_model.specs.Forms.{distinct_rows}
use Rattle.hippo_model.proofs.SameRows.{same_cell-refl}
use Rattle.hippo_tables_keyed.proofs.Orders.{same_exact}
use Rattle.hippo_distinct.specs.DistinctRows.{stands_in}
use Rattle.hippo_values.specs.declared.values.Value.{Value}

abbrev pub if_new : Bool → ShownRow → List ShownRow
if_new stands row = cond stands [] (row ∷ [])

new_after : (first row : ShownRow) (same stands : Bool) → same_row first row ≡ same → filter (λ other. not (same_row first other)) (if_new stands row) ≡ if_new (same || stands) row
new_after first row true true e = refl
new_after first row false true e = refl
new_after first row true false e = rw e refl
new_after first row false false e = rw e refl

pub distinct_rows-push : (rows : List ShownRow) (row : ShownRow) → distinct_rows (rows ++ row ∷ []) ≡ distinct_rows rows ++ if_new (stands_in row rows) row
distinct_rows-push [] row = refl
distinct_rows-push (first ∷ rows) row =
    ap (λ (rest : List ShownRow). first ∷ filter (λ other. not (same_row first other)) rest) (distinct_rows-push rows row)
    ∙ ap (λ (rest : List ShownRow). first ∷ rest) (filter-append (λ other. not (same_row first other)) (distinct_rows rows) (if_new (stands_in row rows) row))
    ∙ ap (λ (last : List ShownRow). first ∷ filter (λ other. not (same_row first other)) (distinct_rows rows) ++ last) (new_after first row (same_row first row) (stands_in row rows) refl)

-- equal values are the same
pub value_exact : (a b : Value) → same_cell (Shown a) (Shown b) ≡ true → a ≡ b
value_exact a b same = ap (first_or a) (same_exact (a ∷ []) (b ∷ []) (then_equal (value_cmp a b) ∙ same))
  where
    first_or : Value → List Value → Value
    first_or other [] = other
    first_or other (value ∷ values) = value

    then_equal : (order : Ordering) → is_eq (ordering_then order Equal) ≡ is_eq order
    then_equal Less = refl
    then_equal Equal = refl
    then_equal Greater = refl

pub same_cell-exact : (a b : Cell) → same_cell a b ≡ true → a ≡ b
same_cell-exact (Shown a) (Shown b) same = ap Shown (value_exact a b same)
same_cell-exact (Denied a) (Denied b) same = ap Denied (eqb-true a b same)
same_cell-exact (Shown a) (Denied b) same = absurd cc
same_cell-exact (Denied a) (Shown b) same = absurd cc

pub same_row-exact : (a b : ShownRow) → same_row a b ≡ true → a ≡ b
same_row-exact a b same = (slice_eq-Decides (λ one other. (same_cell-exact one other, λ is. ap (same_cell one) (sym is) ∙ same_cell-refl one)) a b true (sym same)).0 refl

-- the different rows of the beginning of a list come first
pub distinct_rows-append : (more rows : List ShownRow) → (rest : List ShownRow) × (distinct_rows (rows ++ more) ≡ distinct_rows rows ++ rest)
distinct_rows-append [] rows = ([], ap distinct_rows (append-nil rows) ∙ sym (append-nil (distinct_rows rows)))
distinct_rows-append (row ∷ more) rows =
    let later = distinct_rows-append more (rows ++ row ∷ []) in (
      if_new (stands_in row rows) row ++ later.0,
      ap distinct_rows (sym (append_assoc rows (row ∷ []) more)) ∙ later.1 ∙ ap (λ (front : List ShownRow). front ++ later.0) (distinct_rows-push rows row)
          ∙ append_assoc (distinct_rows rows) (if_new (stands_in row rows) row) later.0,
    )

pub stands-push : (other row : ShownRow) (rows : List ShownRow) → stands_in other (rows ++ row ∷ []) ≡ (stands_in other rows || same_row row other)
stands-push other row rows = list_any-append (λ one. same_row one other) rows (row ∷ []) ∙ ap (λ (last : Bool). stands_in other rows || last) (or-false (same_row row other))
