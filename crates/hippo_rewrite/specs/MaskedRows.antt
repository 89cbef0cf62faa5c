-- Rows as rules, births and choices mask them.
use Rattle.std.specs.Prelude.{Bool, true, false, ◌&&◌, ◌==◌, List, [], ◌∷◌, length, filter_map, Option}
use Rattle.std.specs.Bool.{then_some}
use Rattle.std.specs.List.{list_all}
use Rattle.hippo_model.specs.declared.born_row.BornRow.{BornRow}
use Rattle.hippo_model.specs.declared.policy.TableRules.{TableRules}
use Rattle.hippo_model.specs.Terms.{ShownRow}
use Rattle.hippo_model.specs.Views.{is_shown, masked_row}
use Rattle.hippo_model.specs.Masking.{Choices}
use Rattle.hippo_policy.specs.Gates.{rules_verdict}

-- a row as it is masked; none if a cell of its key is denied
abbrev pub row_by : Choices → TableRules → BornRow → Option ShownRow
row_by choices table kept =
    let verdicts = rules_verdict choices table kept in
    then_some (list_all (λ place. is_shown (verdicts place)) table.key)
    (masked_row verdicts kept.row)

-- the rows of each table as they are masked
abbrev pub rows_by : Choices → List TableRules → List (List BornRow) → List (List ShownRow)
rows_by choices (table ∷ rules) (rows ∷ tables) =
    filter_map (row_by choices table) rows ∷ rows_by choices rules tables
rows_by choices rules tables = []

-- a row has a value for each gate of its table
abbrev pub row_fits_gates : TableRules → BornRow → Bool
row_fits_gates table kept = length kept.row == length table.gates

-- there is a list of rows for each table, and each row fits
abbrev pub rows_fit : List TableRules → List (List BornRow) → Bool
rows_fit [] [] = true
rows_fit (table ∷ rules) (rows ∷ tables) =
    list_all (row_fits_gates table) rows && rows_fit rules tables
rows_fit rules tables = false
