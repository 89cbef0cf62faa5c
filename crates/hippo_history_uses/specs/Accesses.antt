-- The accesses to a patient's rows by the logged queries of a history.
use Rattle.std.specs.Prelude.{ℕ, ℤ, Bool, List, [], map, filter, flat_map}
use Rattle.std.specs.Option.{option_map_or}
use Rattle.hippo_values.specs.declared.moments.Moment.{Moment}
use Rattle.hippo_values.specs.declared.names.Name.{Name}
use Rattle.hippo_model.specs.declared.born_row.BornRow.{BornRow}
use Rattle.hippo_model.specs.declared.entry.Act.{Act}
use Rattle.hippo_model.specs.declared.entry.Act.TheVariants.{Asked}
use Rattle.hippo_model.specs.declared.entry.Entry.{Entry}
use Rattle.hippo_model.specs.declared.query.Query.{Query}
use Rattle.hippo_model.specs.declared.schema.Schema.{Schema}
use Rattle.hippo_model.specs.Histories.{before_entry, schema_at}
use Rattle.hippo_model.specs.Rows.{key_of}
use Rattle.hippo_model.specs.Terms.{History}
use Rattle.hippo_model.specs.Verdicts.{Context, verdict}
use Rattle.hippo_typing.specs.Meanings.{meaning}
use Rattle.hippo_history_formats.specs.declared.access.Access.{Access}
use Rattle.hippo_history_uses.specs.Cells.{names_column, answers_column, tests_column, seen_cells, denied_columns}
use Rattle.hippo_history_uses.specs.Uses.{used_rows}

-- who asked a logged query, when and for what, and the number of its entry
pub record Asker : Type 0 where
  pub entry : ℕ
  pub moment : Moment
  pub user : Name
  pub purpose : Name
  pub recipient : Name

abbrev pub asker_context : Asker → Context
asker_context asker =
    record { purpose = asker.purpose; recipient = asker.recipient; moment = asker.moment }

-- what a query saw of a row that it used
abbrev pub access_to : History → Asker → Query → Schema → BornRow → Access
access_to history asker query schema kept =
    let verdicts = verdict history (asker_context asker) schema kept in
    record {
      entry = asker.entry;
      moment = asker.moment;
      user = asker.user;
      purpose = asker.purpose;
      recipient = asker.recipient;
      table = schema.name;
      key = key_of schema.key kept.row;
      shown = seen_cells (answers_column query schema.name) verdicts schema kept.row;
      tested = seen_cells (tests_column query schema.name) verdicts schema kept.row;
      denied = denied_columns (names_column query schema.name) verdicts schema;
    }

-- the accesses of a query to a patient's rows in a table
abbrev pub table_accesses : History → Asker → Query → ℤ → Schema → List Access
table_accesses history asker query patient schema =
    map (access_to history asker query schema)
    (used_rows history (asker_context asker) query patient schema)

-- the accesses of a query to a patient's rows, table by table in the order of FROM
abbrev pub query_accesses : History → Asker → ℤ → Query → List Access
query_accesses history asker patient query =
    flat_map (λ table. option_map_or (table_accesses history asker query patient)
    (schema_at history table) []) query.tables

-- the accesses of an act, given the entries before it
abbrev pub act_accesses : History → ℕ → Moment → ℤ → Act → List Access
act_accesses history number moment patient (Asked user purpose recipient text) =
    let asker : Asker = record {
      entry = number;
      moment = moment;
      user = user;
      purpose = purpose;
      recipient = recipient;
    } in
    option_map_or (query_accesses history asker patient) (meaning history text) []
act_accesses history number moment patient act = []

-- the accesses of an entry, as of its own time
abbrev pub entry_accesses : History → ℤ → Entry → List Access
entry_accesses history patient entry =
    act_accesses (before_entry entry history) entry.seq entry.moment patient entry.act

-- the accesses of those entries in a part of a history that pass a test
abbrev pub accesses_in : ℤ → (Entry → Bool) → History → History → List Access
accesses_in patient test history part =
    flat_map (entry_accesses history patient) (filter test part)

-- the accesses to a patient's rows by the entries of a history that pass a test
abbrev pub accesses_of : ℤ → (Entry → Bool) → History → List Access
accesses_of patient test history = accesses_in patient test history history
