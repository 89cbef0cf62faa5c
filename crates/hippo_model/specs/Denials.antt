-- The cells that were denied to a query, and the rules that deny them.
use Rattle.std.specs.Prelude.{ℕ, Bool, ◌||◌, List, [], filter_map, flat_map, nat_eq, Option, Some, None, if◌then◌else◌}
use Rattle.std.specs.List.{list_any, enumerate_from}
use Rattle.std.specs.Option.{option_map_or}
use Rattle.hippo_values.specs.declared.moments.Moment.{Moment}
use Rattle.hippo_values.specs.declared.names.Name.{Name}
use Rattle.hippo_model.specs.declared.born_row.BornRow.{BornRow}
use Rattle.hippo_model.specs.declared.entry.Act.{Act}
use Rattle.hippo_model.specs.declared.entry.Act.TheVariants.{Asked}
use Rattle.hippo_model.specs.declared.entry.Entry.{Entry}
use Rattle.hippo_model.specs.declared.policy.Verdict.{Verdict}
use Rattle.hippo_model.specs.declared.policy.Verdict.TheVariants.{Shown, Denied}
use Rattle.hippo_model.specs.declared.query.Query.{Query}
use Rattle.hippo_model.specs.declared.schema.Column.{Column}
use Rattle.hippo_model.specs.declared.schema.Schema.{Schema}
use Rattle.hippo_model.specs.Terms.{History, Row, Key, Place, Meaning}
use Rattle.hippo_model.specs.Histories.{before_entry, schema_at}
use Rattle.hippo_model.specs.Rows.{key_of, table_rows}
use Rattle.hippo_model.specs.Verdicts.{Context, verdict}
use Rattle.hippo_model.specs.Columns.{query_columns, same_column}

-- a denied cell: its table, its row's key, its column's name, and the number of the rule that
-- denies it
pub record Denial : Type 0 where
  pub table : Name
  pub key : Key
  pub column : Name
  pub rule : ℕ

abbrev pub denial_by : Schema → Row → Name → Verdict → Option Denial
denial_by schema row column Shown = None
denial_by schema row column (Denied rule) =
    Some (record { table = schema.name; key = key_of schema.key row; column = column; rule = rule })

-- whether a column is in the key, or the query names it
abbrev pub is_listed : Query → Schema → Place → Bool
is_listed query schema place =
    list_any (nat_eq place) schema.key || list_any (same_column (schema.name, place))
    (query_columns query)

-- the denied cells among a row's listed columns, in the schema's order
abbrev pub row_denials : History → Context → Query → Schema → BornRow → List Denial
row_denials history context query schema kept =
    let denial : Place → Column → Option Denial =
    λ place column. denial_by schema kept.row column.name
    (verdict history context schema kept place) in
    filter_map (λ (place, column). if is_listed query schema place then denial place column
    else None)
    (enumerate_from 0 schema.columns)

-- the listed denied cells of a table's rows, in the order of their keys
abbrev pub table_denials : History → Context → Query → Schema → List Denial
table_denials history context query schema =
    flat_map (row_denials history context query schema) (table_rows schema history)

-- the listed denied cells of a query's tables, in the order of FROM
abbrev pub query_denials : History → Context → Query → List Denial
query_denials history context query =
    flat_map (λ table. option_map_or (table_denials history context query) (schema_at history table)
    []) query.tables

-- the listed denied cells of a query that an act records, given the entries before it
abbrev pub denials_in : Meaning → History → Moment → Act → List Denial
denials_in meaning history moment (Asked user purpose recipient text) =
    let context : Context = record { purpose = purpose; recipient = recipient; moment = moment } in
    option_map_or (query_denials history context) (meaning history text) []
denials_in meaning history moment act = []

-- the cells that were denied to an entry's query, at the entry's own time
abbrev pub denials : Meaning → History → Entry → List Denial
denials meaning history entry =
    denials_in meaning (before_entry entry history) entry.moment entry.act
