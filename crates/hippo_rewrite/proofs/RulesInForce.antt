-- Over the rows of a valid history, the rules in force mask each table to its view.
use Rattle.std.proofs.Common.{◌≡◌, ◌∙◌, sym, refl, ap, arith, ℕ, ◌+◌, ◌<◌, true, ◌&&◌, List, [], ◌∷◌, map, length, Option, Some, option_map}
use Rattle.std.specs.Prelude.{◌==◌, filter_map, nat_lt, slice_get}
use Rattle.std.specs.Bool.{then_some}
use Rattle.std.specs.List.{list_all, enumerate_from, cons_option}
use Rattle.std.specs.Option.{option_map_or}
use Rattle.std.proofs.lemmas.Bool.{and_parts, and_from, eqb-true, ltb-true}
use Rattle.std.proofs.lemmas.Option.{slice_get-map}
use Rattle.std.proofs.lemmas.List.FromFn.{length-map-range_with_len}
use Rattle.hippo_values.specs.declared.names.Name.{Name}
use Rattle.hippo_model.specs.declared.born_row.BornRow.{BornRow}
use Rattle.hippo_model.specs.declared.policy.Gate.{Gate}
use Rattle.hippo_model.specs.declared.policy.TableRules.{TableRules}
use Rattle.hippo_model.specs.declared.policy.Verdict.{Verdict}
use Rattle.hippo_model.specs.declared.query.Expr.TheVariants.{Null}
use Rattle.hippo_model.specs.declared.query.Query.{Query}
use Rattle.hippo_model.specs.declared.query.Ref.{Ref}
use Rattle.hippo_model.specs.declared.schema.Schema.{Schema}
use Rattle.hippo_model.specs.Terms.{History, Meaning, Combination, Row, ShownRow, Place}
use Rattle.hippo_model.specs.Histories.{schema_at}
use Rattle.hippo_model.specs.Rows.{cell_at, table_rows}
use Rattle.hippo_model.specs.Rules.{rule_at, choice_at}
use Rattle.hippo_model.specs.Verdicts.{Context, verdict}
use Rattle.hippo_model.specs.Views.{is_shown, cell_by, masked_row, view_row, view, view_at}
use Rattle.hippo_model.specs.Answers.{product, answer_of, seen_combinations}
use Rattle.hippo_model.specs.Masking.{masked_cell}
use Rattle.hippo_model.specs.Validity.{is_valid}
use Rattle.hippo_policy.specs.Gates.{gate_in, gate_by, table_rules, rules_verdict}
use Rattle.hippo_policy.proofs.VerdictLemmas.{rules_verdict-table_rules}
use Rattle.hippo_rewrite.specs.MaskedRows.{row_by, rows_by, row_fits_gates, rows_fit}
use Rattle.hippo_rewrite.specs.Rewriting.{column_expr, masked_column}
use Rattle.hippo_rewrite.specs.RewritingLaws.{rules_at, tables_at, rewritten_answer, HasTables}
use Rattle.hippo_rewrite.proofs.FittingRows.{is_wide, is_within, fits_schema}
use Rattle.hippo_rewrite.proofs.MaskedCells.{by_gate}
use Rattle.hippo_rewrite.proofs.MaskedAnswers.{masked_answer-rewritten_query}

module _ (here there : Place → Verdict) (size : ℕ) (same : (place : Place) → place < size → here place ≡ there place) where
  same_cells : (first : Place) (row : Row) → first + length row ≡ size
      → map (λ (place, value). cell_by (here place) value) (enumerate_from first row) ≡ map (λ (place, value). cell_by (there place) value) (enumerate_from first row)
  same_cells first [] end = refl
  same_cells first (value ∷ row) end =
      let within : first < size = omega arith in
      let later : first + 1 + length row ≡ size = omega arith in
      λ i. cell_by (same first within i) value ∷ same_cells (first + 1) row later i

  same_row : (row : Row) → length row ≡ size → masked_row here row ≡ masked_row there row
  same_row row is = let end : 0 + length row ≡ size = omega arith in same_cells 0 row end

  same_key : (key : List Place) → list_all (λ place. nat_lt place size) key ≡ true → list_all (λ place. is_shown (here place)) key ≡ list_all (λ place. is_shown (there place)) key
  same_key [] all = refl
  same_key (place ∷ key) all =
      let both = and_parts (nat_lt place size) (list_all (λ place. nat_lt place size) key) all in
      let e : here place ≡ there place = same place (ltb-true place size both.0) in
      λ i. is_shown (e i) && same_key key both.1 i

-- a property of a query's tables and their schemas, one table at a time
pub table_by_table : (history : History) (Has : List Name → List Schema → Type 0) → Has [] []
    → ((table : Name) (schema : Schema) (tables : List Name) (schemas : List Schema) → schema_at history table ≡ Some schema → Has tables schemas → Has (table ∷ tables) (schema ∷ schemas))
    → (tables : List Name) (schemas : List Schema) → map (schema_at history) tables ≡ map Some schemas → Has tables schemas
table_by_table history Has none more [] [] is = none
table_by_table history Has none more [] (schema ∷ schemas) is = absurd cc
table_by_table history Has none more (table ∷ tables) [] is = absurd cc
table_by_table history Has none more (table ∷ tables) (schema ∷ schemas) is =
    let first : schema_at history table ≡ Some schema = cc in
    let rest : map (schema_at history) tables ≡ map Some schemas = cc in
    more table schema tables schemas first (table_by_table history Has none more tables schemas rest)

module _ (history : History) (context : Context) where
  -- a row as the rules in force mask it is its row of the view
  row_by-view_row : (schema : Schema) (kept : BornRow) → list_all (is_within schema) schema.key ≡ true → is_wide schema kept ≡ true
      → row_by (choice_at history) (table_rules history context schema) kept ≡ view_row history context schema kept
  row_by-view_row schema kept keyed wide =
      let here : Place → Verdict = rules_verdict (choice_at history) (table_rules history context schema) kept in
      let there : Place → Verdict = verdict history context schema kept in
      let same : (place : Place) → place < length schema.columns → here place ≡ there place = rules_verdict-table_rules history context schema kept in
      let row : masked_row here kept.row ≡ masked_row there kept.row = same_row here there (length schema.columns) same kept.row (eqb-true (length kept.row) (length schema.columns) wide) in
      let key : list_all (λ place. is_shown (here place)) schema.key ≡ list_all (λ place. is_shown (there place)) schema.key = same_key here there (length schema.columns) same schema.key keyed in
      λ i. then_some (key i) (row i)

  rows_by-view : (schema : Schema) (rows : List BornRow) → list_all (is_within schema) schema.key ≡ true → list_all (is_wide schema) rows ≡ true
      → filter_map (row_by (choice_at history) (table_rules history context schema)) rows ≡ filter_map (view_row history context schema) rows
  rows_by-view schema [] keyed all = refl
  rows_by-view schema (kept ∷ rows) keyed all =
      let both = and_parts (is_wide schema kept) (list_all (is_wide schema) rows) all in
      λ i. cons_option (row_by-view_row schema kept keyed both.0 i) (rows_by-view schema rows keyed both.1 i)

  -- each row has a value for each gate
  row_fits_gates-is_wide : (schema : Schema) (rows : List BornRow) → list_all (row_fits_gates (table_rules history context schema)) rows ≡ list_all (is_wide schema) rows
  row_fits_gates-is_wide schema rows =
      let gate : Place → Gate = λ place. gate_by history context.moment (rule_at history context.purpose context.recipient schema.name place) in
      ap (λ (size : ℕ). list_all (λ kept. length kept.row == size) rows) (length-map-range_with_len gate 0 (length schema.columns))

  module _ (meaning : Meaning) (valid : is_valid meaning history ≡ true) where
    rules_fit : (tables : List Name) (schemas : List Schema) → map (schema_at history) tables ≡ map Some schemas → rows_fit (rules_at history context schemas) (tables_at history schemas) ≡ true
    rules_fit =
        table_by_table history (λ tables schemas. rows_fit (rules_at history context schemas) (tables_at history schemas) ≡ true) refl (λ table schema tables schemas first later.
        let fit = fits_schema meaning history valid table schema first in
        and_from _ _ (row_fits_gates-is_wide schema (table_rows schema history) ∙ fit.0) later)

    views_are : (tables : List Name) (schemas : List Schema) → map (schema_at history) tables ≡ map Some schemas
        → rows_by (choice_at history) (rules_at history context schemas) (tables_at history schemas) ≡ map (view_at history context) tables
    views_are =
        table_by_table history (λ tables schemas. rows_by (choice_at history) (rules_at history context schemas) (tables_at history schemas) ≡ map (view_at history context) tables) refl (λ table schema tables schemas first later.
        let fit = fits_schema meaning history valid table schema first in
        let here : filter_map (row_by (choice_at history) (table_rules history context schema)) (table_rows schema history) ≡ view_at history context table =
        rows_by-view schema (table_rows schema history) fit.1 fit.0 ∙ sym (ap (λ (found : Option Schema). option_map_or (view history context) found []) first) in
        λ i. here i ∷ later i)

-- rows in a valid history fit the rules in force
pub rows_fit-rules_at : (meaning : Meaning) (history : History) (context : Context) (query : Query) (schemas : List Schema) → HasTables meaning history query schemas
    → rows_fit (rules_at history context schemas) (tables_at history schemas) ≡ true
rows_fit-rules_at meaning history context query schemas has = rules_fit history context meaning has.valid query.tables schemas has.schemas_are

-- the rewritten query's answer is the raw answer over the views
pub rewritten_answer-raw : (meaning : Meaning) (history : History) (context : Context) (query : Query) (schemas : List Schema) → HasTables meaning history query schemas
    → rewritten_answer history context schemas query ≡ answer_of query.items query.cond (seen_combinations history context query)
rewritten_answer-raw meaning history context query schemas has =
    masked_answer-rewritten_query (choice_at history) (rules_at history context schemas) query (tables_at history schemas) (rows_fit-rules_at meaning history context query schemas has)
    ∙ ap (λ (views : List (List ShownRow)). answer_of query.items query.cond (product views)) (views_are history context meaning has.valid query.tables schemas has.schemas_are)

-- the masked expression of a column is its cell as the verdict shows it
pub masked_column-verdict : (history : History) (context : Context) (schemas : List Schema) (rows : Combination) (column : Ref) (schema : Schema) (kept : BornRow)
    → slice_get schemas column.table ≡ Some schema → slice_get rows column.table ≡ Some kept → column.column < length schema.columns
    → masked_cell (choice_at history) rows (masked_column (rules_at history context schemas) column) ≡ cell_by (verdict history context schema kept column.column) (cell_at kept.row column.column)
masked_column-verdict history context schemas rows column schema kept is found within =
    let rules : TableRules = table_rules history context schema in
    let rules_are : slice_get (rules_at history context schemas) column.table ≡ Some rules =
    slice_get-map (table_rules history context) schemas column.table ∙ ap (option_map (table_rules history context)) is in
    ap (λ (table : Option TableRules). masked_cell (choice_at history) rows (option_map_or (λ table. column_expr table column) table (Null 0))) rules_are
    ∙ by_gate (choice_at history) rows column.table kept found column.column rules.subject (gate_in rules column.column)
    ∙ ap (λ (shown : Verdict). cell_by shown (cell_at kept.row column.column)) (rules_verdict-table_rules history context schema kept column.column within)
