-- Laws of rewritten queries.
use Rattle.std.specs.Prelude.{◌≡◌, ◌<◌, true, List, map, length, Some, slice_get}
use Rattle.hippo_model.specs.declared.born_row.BornRow.{BornRow}
use Rattle.hippo_model.specs.declared.policy.TableRules.{TableRules}
use Rattle.hippo_model.specs.declared.query.Query.{Query}
use Rattle.hippo_model.specs.declared.query.Ref.{Ref}
use Rattle.hippo_model.specs.declared.schema.Schema.{Schema}
use Rattle.hippo_model.specs.Terms.{History, Meaning, Combination, ShownRow}
use Rattle.hippo_model.specs.Histories.{schema_at}
use Rattle.hippo_model.specs.Rows.{cell_at, table_rows}
use Rattle.hippo_model.specs.Rules.{choice_at}
use Rattle.hippo_model.specs.Verdicts.{Context, verdict}
use Rattle.hippo_model.specs.Views.{cell_by}
use Rattle.hippo_model.specs.Forms.{rows_by_form}
use Rattle.hippo_model.specs.Answers.{product, answer_of, seen_combinations, answer}
use Rattle.hippo_model.specs.Masking.{Choices, masked_cell, masked_answer}
use Rattle.hippo_model.specs.Validity.{is_valid}
use Rattle.hippo_policy.specs.Gates.{table_rules}
use Rattle.hippo_rewrite.specs.MaskedRows.{rows_by, rows_fit}
use Rattle.hippo_rewrite.specs.Rewriting.{masked_column, rewritten_query}

-- the answer of the rewritten query over rows, their births and choices is the raw answer of the
-- query over the rows as they are masked
abbrev pub RewritingMasks : Type 0
RewritingMasks =
    (rules : List TableRules) (query : Query) (choices : Choices) (tables : List (List BornRow))
    → rows_fit rules tables ≡ true
    → masked_answer choices (rewritten_query rules query) tables
    ≡ answer_of query.items query.cond (product (rows_by choices rules tables))

-- the rules in force of tables after some entries, and below, the tables' rows
abbrev pub rules_at : History → Context → List Schema → List TableRules
rules_at history context schemas = map (table_rules history context) schemas

abbrev pub tables_at : History → List Schema → List (List BornRow)
tables_at history schemas = map (λ schema. table_rows schema history) schemas

-- the answer, after some entries, of a query that is rewritten by the rules in force
abbrev pub rewritten_answer : History → Context → List Schema → Query → List ShownRow
rewritten_answer history context schemas query =
    masked_answer (choice_at history) (rewritten_query (rules_at history context schemas) query)
    (tables_at history schemas)

-- the history is valid, and these are the schemas of the query's tables
pub record HasTables (meaning : Meaning) (history : History) (query : Query) (schemas : List Schema)
    : Type 0 where
  pub valid : is_valid meaning history ≡ true
  pub schemas_are : map (schema_at history) query.tables ≡ map Some schemas

-- rows in a valid history fit the rules in force
abbrev pub RowsFitRules : Type 0
RowsFitRules =
    (meaning : Meaning) (history : History) (context : Context) (query : Query)
    (schemas : List Schema)
    → HasTables meaning history query schemas
    → rows_fit (rules_at history context schemas) (tables_at history schemas) ≡ true

-- the answer of the query that is rewritten by the rules in force is the query's raw answer over
-- the views; by the query's form, it is the query's answer
abbrev pub RewritingAnswers : Type 0
RewritingAnswers =
    (meaning : Meaning) (history : History) (context : Context) (query : Query)
    (schemas : List Schema)
    → HasTables meaning history query schemas
    → (rewritten_answer history context schemas query
    ≡ answer_of query.items query.cond (seen_combinations history context query))
    × (rows_by_form query.form (rewritten_answer history context schemas query)
    ≡ answer history context query)

-- in a combination of rows, the masked expression of a column under the rules in force is the
-- column's cell as the verdict shows it
abbrev pub ColumnsShowVerdicts : Type 0
ColumnsShowVerdicts =
    (history : History) (context : Context) (schemas : List Schema) (rows : Combination)
    (column : Ref)
    (schema : Schema) (kept : BornRow) → slice_get schemas column.table ≡ Some schema
    → slice_get rows column.table ≡ Some kept → column.column < length schema.columns
    → masked_cell (choice_at history) rows (masked_column (rules_at history context schemas) column)
    ≡ cell_by (verdict history context schema kept column.column) (cell_at kept.row column.column)
