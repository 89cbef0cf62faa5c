-- The masked expression of a column has the value of the masked row's cell.
use Rattle.std.proofs.Common.{◌≡◌, ◌∙◌, sym, refl, ap, arith, ℕ, zero, suc, ◌+◌, ℤ, Bool, true, false, not, ◌&&◌, if◌then◌else◌, List, [], ◌∷◌, map, length, Option, None, Some, ◌⊎◌, inl, inr}
use Rattle.std.specs.Prelude.{int_le, slice_get, slice_index_or, option_and_then}
use Rattle.std.specs.List.{list_all, enumerate_from}
use Rattle.std.specs.Option.{option_map_or}
use Rattle.std.proofs.lemmas.List.{get_or_past}
use Rattle.std.proofs.lemmas.List.Folds.{list_all-append}
use Rattle.std.proofs.lemmas.Option.{slice_get_cases, get_or_from_slice_get}
use Rattle.hippo_values.specs.declared.values.Value.{Value}
use Rattle.hippo_values.specs.declared.values.Value.TheVariants.{Null as NullValue}
use Rattle.hippo_model.specs.declared.born_row.BornRow.{BornRow}
use Rattle.hippo_model.specs.declared.cells.Cell.{Cell}
use Rattle.hippo_model.specs.declared.cells.Cell.TheVariants.{Shown as ShownCell, Denied as DeniedCell}
use Rattle.hippo_model.specs.declared.policy.Gate.{Gate}
use Rattle.hippo_model.specs.declared.policy.Gate.TheVariants.{Always, Never, Aged, With}
use Rattle.hippo_model.specs.declared.policy.TableRules.{TableRules}
use Rattle.hippo_model.specs.declared.policy.Verdict.{Verdict}
use Rattle.hippo_model.specs.declared.policy.Verdict.TheVariants.{Shown, Denied}
use Rattle.hippo_model.specs.declared.query.Guard.{Guard}
use Rattle.hippo_model.specs.declared.query.Expr.TheVariants.{Null}
use Rattle.hippo_model.specs.declared.query.Ref.{Ref}
use Rattle.hippo_model.specs.Terms.{Combination, Row, ShownRow, Place}
use Rattle.hippo_model.specs.Rows.{cell_at}
use Rattle.hippo_model.specs.Verdicts.{number_in}
use Rattle.hippo_model.specs.Views.{is_shown, cell_by, masked_row}
use Rattle.hippo_model.specs.Answers.{cell_in}
use Rattle.hippo_model.specs.Masking.{Choices, raw_value, is_younger, agrees_by, shown_if, masked_cell, is_shown_cell}
use Rattle.hippo_policy.specs.Gates.{is_born_after, gate_verdict, gate_in, rules_verdict}
use Rattle.hippo_rewrite.specs.Rewriting.{expr_by, column_expr, masked_column, key_guard, table_guards, guards_from}
use Rattle.hippo_rewrite.proofs.Products.{all_pass, all_changed}

abbrev at : Place → Place → Ref
at table column = record { table = table; column = column }

by_test : (test : Bool) (value : Value) (rule : ℕ) → shown_if test value rule ≡ cell_by (if test then Shown else Denied rule) value
by_test true value rule = refl
by_test false value rule = refl

not_agreed : (test : Bool) (value : Value) (rule : ℕ) → ◌≡◌ {A = Cell} (DeniedCell rule) (cell_by (if test && false then Shown else Denied rule) value)
not_agreed true value rule = refl
not_agreed false value rule = refl

is_shown_cell-cell_by : (verdict : Verdict) (value : Value) → is_shown_cell (cell_by verdict value) ≡ is_shown verdict
is_shown_cell-cell_by Shown value = refl
is_shown_cell-cell_by (Denied rule) value = refl

-- a cell of a masked row
cell_of : (verdicts : Place → Verdict) (first : Place) (row : Row) (column : Place)
    → slice_index_or (map (λ (place, value). cell_by (verdicts place) value) (enumerate_from first row)) column (DeniedCell 0)
    ≡ option_map_or (λ value. cell_by (verdicts (first + column)) value) (slice_get row column) (DeniedCell 0)
cell_of verdicts first [] column = refl
cell_of verdicts first (value ∷ row) zero = let e : first ≡ first + 0 = omega arith in ap (λ (place : Place). cell_by (verdicts place) value) e
cell_of verdicts first (value ∷ row) (suc column) =
    let e : first + 1 + column ≡ first + suc column = omega arith in
    cell_of verdicts (first + 1) row column ∙ ap (λ (place : Place). option_map_or (λ value. cell_by (verdicts place) value) (slice_get row column) (DeniedCell 0)) e

cell_of_row : (verdicts : Place → Verdict) (row : Row) (column : Place)
    → slice_index_or (masked_row verdicts row) column (DeniedCell 0) ≡ option_map_or (λ value. cell_by (verdicts column) value) (slice_get row column) (DeniedCell 0)
cell_of_row verdicts row column =
    let e : 0 + column ≡ column = omega arith in
    cell_of verdicts 0 row column ∙ ap (λ (place : Place). option_map_or (λ value. cell_by (verdicts place) value) (slice_get row column) (DeniedCell 0)) e

module _ (choices : Choices) where
  -- whether each key cell of a row is shown, and the row as it is masked
  abbrev pub is_kept : TableRules → BornRow → Bool
  is_kept table kept = list_all (λ place. is_shown (rules_verdict choices table kept place)) table.key

  abbrev pub shown_row : TableRules → BornRow → ShownRow
  shown_row table kept = masked_row (rules_verdict choices table kept) kept.row

  module _ (rows : Combination) (table : Place) (kept : BornRow) (found : slice_get rows table ≡ Some kept) where
    value_of : (column : Place) → raw_value rows (at table column) ≡ cell_at kept.row column
    value_of column = ap (λ (row : Option BornRow). option_map_or (λ row. cell_at row.row column) row NullValue) found

    younger : (column : Place) (second : ℤ) → is_younger rows (at table column) second ≡ not (int_le kept.born second)
    younger column second = ap (λ (row : Option BornRow). option_map_or (λ row. not (int_le row.born second)) row false) found

    born_after : (column : Place) (second : Option ℤ) → option_map_or (is_younger rows (at table column)) second true ≡ is_born_after kept.born second
    born_after column None = refl
    born_after column (Some second) = younger column second

    -- the masked expression of a column has the value that its gate shows
    pub by_gate : (column : Place) (subject : Option Place) (gate : Gate)
        → masked_cell choices rows (expr_by subject (at table column) gate)
        ≡ cell_by (gate_verdict choices kept.born (option_and_then (λ place. number_in (cell_at kept.row place)) subject) gate) (cell_at kept.row column)
    by_gate column subject Always = ap ShownCell (value_of column)
    by_gate column subject (Never rule) = refl
    by_gate column subject (Aged rule second) = (λ i. shown_if (younger column second i) (value_of column i) rule) ∙ by_test (not (int_le kept.born second)) (cell_at kept.row column) rule
    by_gate column None (With rule item opt_in second) = not_agreed (is_born_after kept.born second) (cell_at kept.row column) rule
    by_gate column (Some place) (With rule item opt_in second) =
        (λ i. shown_if (born_after column second i && agrees_by choices (number_in (value_of place i)) item opt_in) (value_of column i) rule)
        ∙ by_test (is_born_after kept.born second && agrees_by choices (number_in (cell_at kept.row place)) item opt_in) (cell_at kept.row column) rule

    -- the cell of a column is that of the masked row
    column_cell : (rules : TableRules) → length kept.row ≡ length rules.gates → (column : Place)
        → masked_cell choices rows (column_expr rules (at table column)) ≡ slice_index_or (shown_row rules kept) column (DeniedCell 0)
    column_cell rules fits column =
        let verdicts : Place → Verdict = rules_verdict choices rules kept in
        by_gate column rules.subject (gate_in rules column) ∙ (elim (slice_get_cases kept.row column).1 [
          | inl (value, within, is, same) ↦
              ap (cell_by (verdicts column)) (get_or_from_slice_get kept.row column value NullValue is)
              ∙ ap (λ (found : Option Value). option_map_or (λ value. cell_by (verdicts column) value) found (DeniedCell 0)) (sym is)
              ∙ sym (cell_of_row verdicts kept.row column)
          | inr (past, none) ↦
              ap (λ (gate : Gate). cell_by (gate_verdict choices kept.born (option_and_then (λ place. number_in (cell_at kept.row place)) rules.subject) gate) (cell_at kept.row column)) (get_or_past rules.gates column (Never 0) (omega arith))
              ∙ ap (λ (found : Option Value). option_map_or (λ value. cell_by (verdicts column) value) found (DeniedCell 0)) (sym none)
              ∙ sym (cell_of_row verdicts kept.row column)
        ])

    abbrev is_passed : Guard → Bool
    is_passed guard = is_shown_cell (masked_cell choices rows guard.expr)

    -- the guards of a table are its key's verdicts
    guards_of_table : (rules : TableRules) (key : List Place) → list_all is_passed (map (key_guard table rules) key) ≡ list_all (λ place. is_shown (rules_verdict choices rules kept place)) key
    guards_of_table rules [] = refl
    guards_of_table rules (column ∷ key) =
        let here : is_passed (key_guard table rules column) ≡ is_shown (rules_verdict choices rules kept column) =
        ap is_shown_cell (by_gate column rules.subject (gate_in rules column)) ∙ is_shown_cell-cell_by (rules_verdict choices rules kept column) (cell_at kept.row column) in
        λ i. here i && guards_of_table rules key i

  -- a row for each table, with a value for each of its gates
  abbrev pub Fits : List TableRules → Combination → Type 0
  Fits [] [] = Unit {0}
  Fits (table ∷ rules) (kept ∷ rows) = (length kept.row ≡ length table.gates) × Fits rules rows
  Fits rules rows = ⊥

  -- the guards of the tables are the keys' verdicts
  pub guards_are : (rows : Combination) (rules : List TableRules) (members : Combination) (first : Place) → Fits rules members → ((place : Place) → slice_get rows (first + place) ≡ slice_get members place)
      → list_all (λ guard. is_shown_cell (masked_cell choices rows guard.expr)) (guards_from first rules) ≡ all_pass is_kept shown_row rules members
  guards_are rows [] [] first fits same = refl
  guards_are rows [] (kept ∷ members) first fits same = absurd fits
  guards_are rows (table ∷ rules) [] first fits same = absurd fits
  guards_are rows (table ∷ rules) (kept ∷ members) first fits same =
      let e : first ≡ first + 0 = omega arith in
      let found : slice_get rows first ≡ Some kept = ap (slice_get rows) e ∙ same 0 in
      let later : (place : Place) → slice_get rows (first + 1 + place) ≡ slice_get members place =
      λ place. let n : first + 1 + place ≡ first + suc place = omega arith in ap (slice_get rows) n ∙ same (suc place) in
      list_all-append (λ (guard : Guard). is_shown_cell (masked_cell choices rows guard.expr)) (table_guards first table) (guards_from (first + 1) rules)
      ∙ (λ i. guards_of_table rows first kept found table table.key i && guards_are rows rules members (first + 1) fits.1 later i)

  -- what is found at the place of a table
  abbrev Found : List TableRules → Combination → List ShownRow → Place → Type 0
  Found rules rows shown place =
      ((slice_get rules place ≡ None) × (slice_index_or shown place [] ≡ []))
      ⊎ ((table : TableRules) × (kept : BornRow) × (slice_get rules place ≡ Some table) × (slice_get rows place ≡ Some kept) × (slice_index_or shown place [] ≡ shown_row table kept) × (length kept.row ≡ length table.gates))

  found_at : (rules : List TableRules) (rows : Combination) → Fits rules rows → (place : Place) → Found rules rows (all_changed is_kept shown_row rules rows) place
  found_at [] [] fits place = inl (refl, refl)
  found_at [] (kept ∷ rows) fits place = absurd fits
  found_at (table ∷ rules) [] fits place = absurd fits
  found_at (table ∷ rules) (kept ∷ rows) fits zero = inr (table, kept, refl, refl, refl, fits.0)
  found_at (table ∷ rules) (kept ∷ rows) fits (suc place) = found_at rules rows fits.1 place

  -- each column has the cell of the masked rows
  pub columns_are : (rules : List TableRules) (rows : Combination) → Fits rules rows → (column : Ref)
      → masked_cell choices rows (masked_column rules column) ≡ cell_in (all_changed is_kept shown_row rules rows) column
  columns_are rules rows fits column =
      elim (found_at rules rows fits column.table) [
        | inl (none, empty) ↦
            ap (λ (table : Option TableRules). masked_cell choices rows (option_map_or (λ table. column_expr table column) table (Null 0))) none
            ∙ ap (λ (row : ShownRow). slice_index_or row column.column (DeniedCell 0)) (sym empty)
        | inr (table, kept, is, found, shown, same) ↦
            ap (λ (table : Option TableRules). masked_cell choices rows (option_map_or (λ table. column_expr table column) table (Null 0))) is
            ∙ column_cell rows column.table kept found table same column.column
            ∙ ap (λ (row : ShownRow). slice_index_or row column.column (DeniedCell 0)) (sym shown)
      ]
