-- Laws on the accesses of a history: whose they are, and which audits flag them.
use Rattle.std.specs.Prelude.{◌≡◌, ◌≤◌, ◌==◌, ℕ, ℤ, true, Bool, ◌&&◌, [], ◌∷◌, ◌++◌, slice_get, Some, bytes_eq}
use Rattle.std.specs.List.{AllByRecursion, AllPairs, list_any}
use Rattle.hippo_values.specs.Texts.{Txt}
use Rattle.hippo_values.specs.Order.{same_cells}
use Rattle.hippo_values.specs.declared.moments.Moment.{Moment}
use Rattle.hippo_values.specs.declared.names.Name.{Name}
use Rattle.hippo_model.specs.declared.audit.Audit.{Audit}
use Rattle.hippo_model.specs.declared.born_row.BornRow.{BornRow}
use Rattle.hippo_model.specs.declared.entry.Act.TheVariants.{Asked}
use Rattle.hippo_model.specs.declared.entry.Entry.{Entry}
use Rattle.hippo_model.specs.declared.query.Query.{Query}
use Rattle.hippo_model.specs.declared.schema.Column.{Column}
use Rattle.hippo_model.specs.declared.schema.Schema.{Schema}
use Rattle.hippo_model.specs.Audits.{in_period, is_flagged}
use Rattle.hippo_model.specs.Histories.{before_entry, schema_at}
use Rattle.hippo_model.specs.Rows.{key_of, table_rows}
use Rattle.hippo_model.specs.Terms.{History, Key, Row, Place}
use Rattle.hippo_model.specs.Validity.{is_valid, is_well_formed}
use Rattle.hippo_model.specs.Verdicts.{Context, verdict}
use Rattle.hippo_model.specs.Views.{is_shown}
use Rattle.hippo_model_laws.specs.Audits.{StandsIn}
use Rattle.hippo_typing.specs.Meanings.{meaning}
use Rattle.hippo_history_formats.specs.declared.access.Access.{Access}
use Rattle.hippo_history_uses.specs.Accesses.{Asker, asker_context, access_to, accesses_of}
use Rattle.hippo_history_uses.specs.Cells.{names_column}
use Rattle.hippo_history_uses.specs.Conditions.{own_column, key_is}
use Rattle.hippo_history_uses.specs.Uses.{is_patients_row, uses_row}

-- an access is by a logged query of a history that passes a test
pub record IsByQuestion (test : Entry → Bool) (history : History) (access : Access) : Type 0 where
  pub place : Place
  pub entry : Entry
  pub text : Txt
  pub stands : slice_get history place ≡ Some entry
  pub counts : test entry ≡ true
  pub act_is : entry.act ≡ Asked access.user access.purpose access.recipient text
  pub number_is : access.entry ≡ entry.seq
  pub moment_is : access.moment ≡ entry.moment

-- each access is by a logged query of the stretch that is asked for
abbrev pub AccessesAreByQuestions : Type 0
AccessesAreByQuestions =
    (patient : ℤ) (test : Entry → Bool) (history : History)
    → AllByRecursion (IsByQuestion test history) (accesses_of patient test history)

-- the accesses of a valid history are in the order of their entries
abbrev pub AccessesAreInEntryOrder : Type 0
AccessesAreInEntryOrder =
    (patient : ℤ) (test : Entry → Bool) (history : History) → is_valid meaning history ≡ true
    → AllPairs (λ first later. first.entry ≤ later.entry) (accesses_of patient test history)

-- the audit DURING from TO to AUDIT SHOWN column FROM table WHERE the key is that of a row
abbrev pub audit_of_cell : Moment → Moment → Schema → Row → Place → Audit
audit_of_cell from to schema row column = record {
  from = from;
  to = to;
  exempt = [];
  shown = true;
  columns = own_column column ∷ [];
  tables = schema.name ∷ [];
  cond = key_is schema.key row;
}

-- a row of a table of a logged query, as it was before the query
pub record IsRowBefore (history : History) (entry : Entry) (context : Context) (query : Query)
    (schema : Schema) (kept : BornRow) : Type 0 where
  pub user : Name
  pub text : Txt
  pub place : Place
  pub act_is : entry.act ≡ Asked user context.purpose context.recipient text
  pub moment_is : context.moment ≡ entry.moment
  pub means : meaning (before_entry entry history) text ≡ Some query
  pub named : list_any (bytes_eq schema.name) query.tables ≡ true
  pub schema_is : schema_at (before_entry entry history) schema.name ≡ Some schema
  pub stands : slice_get (table_rows schema (before_entry entry history)) place ≡ Some kept

-- whether a query names a column, used the row, and was shown the row's cell in the column
abbrev pub sees_cell : History → Context → Query → Schema → BornRow → Place → Bool
sees_cell history context query schema kept column =
    names_column query schema.name column && uses_row history context query schema kept
    && is_shown (verdict history context schema kept column)

-- an audit of a cell flags a query exactly where the query names the column, used the row, and was
-- shown the cell. The audit's period includes the query.
abbrev pub FlagsSayWhatIsSeen : Type 0
FlagsSayWhatIsSeen =
    (history : History) (entry : Entry) (context : Context) (query : Query) (schema : Schema)
    (kept : BornRow) → IsRowBefore history entry context query schema kept
    → (from to : Moment) (column : Place)
    → in_period (audit_of_cell from to schema kept.row column) entry.moment ≡ true
    → is_flagged meaning history (audit_of_cell from to schema kept.row column) entry
    ≡ sees_cell (before_entry entry history) context query schema kept column

-- whether an access has a column among `shown` or `tested`
abbrev pub has_column : Access → Name → Bool
has_column access column =
    list_any (λ cell. bytes_eq column cell.column) (access.shown ++ access.tested)

-- an access to a row has a column among `shown` or `tested` exactly where the query names the
-- column and is shown the cell
abbrev pub ColumnsAreThoseSeen : Type 0
ColumnsAreThoseSeen =
    (history : History) (asker : Asker) (query : Query) (schema : Schema) (kept : BornRow)
    → is_well_formed schema ≡ true → (place : Place) (column : Column)
    → slice_get schema.columns place ≡ Some column
    → has_column (access_to history asker query schema kept) column.name
    ≡ (names_column query schema.name place
    && is_shown (verdict history (asker_context asker) schema kept place))

-- whether an access is by the entry with a number, to the row with a key of a table, and has a
-- column among `shown` or `tested`
abbrev pub shows_cell : ℕ → Name → Key → Name → Access → Bool
shows_cell entry table key column access =
    access.entry == entry && bytes_eq table access.table && same_cells access.key key
    && has_column access column

-- an access has a column among `shown` or `tested` exactly where an audit of that cell flags the
-- query. The row is about the patient, and the audit's period includes the query.
abbrev pub AuditsFlagAccesses : Type 0
AuditsFlagAccesses =
    (patient : ℤ) (test : Entry → Bool) (history : History) (entry : Entry)
    → StandsIn meaning history entry → test entry ≡ true
    → (context : Context) (query : Query) (schema : Schema) (kept : BornRow)
    → IsRowBefore history entry context query schema kept
    → is_patients_row patient schema kept ≡ true
    → (from to : Moment) (place : Place) (column : Column)
    → slice_get schema.columns place ≡ Some column
    → in_period (audit_of_cell from to schema kept.row place) entry.moment ≡ true
    → list_any (shows_cell entry.seq schema.name (key_of schema.key kept.row) column.name)
    (accesses_of patient test history)
    ≡ is_flagged meaning history (audit_of_cell from to schema kept.row place) entry
