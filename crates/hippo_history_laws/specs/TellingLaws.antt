-- The text that shows an act reads back: it parses as a statement that asks for this act.
use Rattle.std.specs.Prelude.{◌≡◌, ℕ, ◌<◌, Bool, true, false, ◌&&◌, List, [], ◌∷◌, ◌++◌, map, length, nat_eq, nat_lt, bytes_eq, Option, Some, None, Ok}
use Rattle.std.specs.List.{list_all}
use Rattle.hippo_values.specs.Texts.{Txt}
use Rattle.hippo_values.specs.declared.names.Name.{Name}
use Rattle.hippo_lexer.specs.Cutting.{outcome_of}
use Rattle.hippo_lexer.specs.Words.{words_check}
use Rattle.hippo_lexer.specs.declared.kinds.Token.{Token}
use Rattle.hippo_model.specs.declared.entry.Act.{Act}
use Rattle.hippo_model.specs.declared.entry.Act.TheVariants.{Create, Insert, Update, Delete, Purpose, Recipient, Item, Authorize, Deauthorize, Allow, Revoke, Choice, Asked}
use Rattle.hippo_model.specs.declared.entry.Entry.{Entry}
use Rattle.hippo_model.specs.declared.schema.Column.{Column}
use Rattle.hippo_model.specs.declared.schema.Schema.{Schema}
use Rattle.hippo_stmt_ast.specs.declared.statement.Stmt.{Stmt}
use Rattle.hippo_model.specs.declared.wanted.Wanted.{Wanted}
use Rattle.hippo_model.specs.Keepable.{is_folded_name, item_is_keepable, value_is_keepable, schema_is_keepable, act_is_keepable}
use Rattle.hippo_model.specs.Rows.{key_of}
use Rattle.hippo_model.specs.Terms.{History, Key, Meaning, Place, Row}
use Rattle.hippo_model.specs.Validity.{all_differ, days_fit, is_valid, is_well_formed}
use Rattle.hippo_stmt_reader.specs.StatementFinder.{statement_of}
use Rattle.hippo_typing_catalog.specs.Catalogs.{known_at, table_of}
use Rattle.hippo_typing_catalog.specs.ChangesRefused.{change_refused}
use Rattle.hippo_typing_catalog.specs.ChangesWanted.{wanted_by}
use Rattle.hippo_tables.specs.Finished.{finished_act, live_row, live_number}
use Rattle.hippo_history_statements.specs.Telling.{act_statement, set_places, columns_of, key_places, schema_before}

-- a text parses as this statement: it is cut into tokens, its words are accepted, and the tokens
-- are the statement
pub record ReadsAs (text : Txt) (statement : Stmt) : Type 0 where
  pub tokens : List Token
  pub cut : outcome_of text ≡ Ok tokens
  pub words : words_check tokens ≡ Ok tt
  pub found : statement_of tokens ≡ Some statement

-- the text of an act parses as a statement that, after the history, asks for exactly this act
pub record ReadsBack (history : History) (schema : Option Schema) (act : Act) : Type 0 where
  pub statement : Stmt
  pub reads : ReadsAs (act_statement schema act) statement
  pub wanted : Wanted
  pub wants : wanted_by (known_at history) statement ≡ Some wanted
  pub comes : finished_act history wanted ≡ Ok act

-- acts that name no table
abbrev pub names_no_table : Act → Bool
names_no_table (Purpose purpose) = true
names_no_table (Recipient recipient) = true
names_no_table (Item item kind) = true
names_no_table (Authorize user purpose recipient) = true
names_no_table (Deauthorize user purpose recipient) = true
names_no_table (Choice subject item agreed) = true
names_no_table act = false

-- the text of such an act, if it can be stored, reads back after any history
abbrev pub NamesReadBack : Type 0
NamesReadBack =
    (history : History) (schema : Option Schema) (act : Act) → names_no_table act ≡ true
    → act_is_keepable act ≡ true
    → ReadsBack history schema act

-- the text of a CREATE TABLE reads back after any history, if the table's schema can be stored and
-- is well formed
abbrev pub CreatesReadBack : Type 0
CreatesReadBack =
    (history : History) (known : Option Schema) (schema : Schema) → schema_is_keepable schema ≡ true
    → is_well_formed schema ≡ true → ReadsBack history known (Create schema)

-- the text of an INSERT reads back, for a row of at least one value in a table that exists and has
-- no row with its key
abbrev pub InsertsReadBack : Type 0
InsertsReadBack =
    (history : History) (schema : Schema) (table : Name) (row : Row)
    → table_of (known_at history) table ≡ Some schema
    → live_number history table (key_of schema.key row) ≡ None → is_folded_name table ≡ true
    → 0 < length row
    → list_all value_is_keepable row ≡ true → ReadsBack history (Some schema) (Insert table row)

-- a table exists after the history, its columns have distinct names in lower case, and these are
-- places of its columns, at least one
pub record NamesColumns (history : History) (schema : Schema) (table : Name) (places : List Place)
    : Type 0 where
  pub known : table_of (known_at history) table ≡ Some schema
  pub differ : all_differ bytes_eq (map (λ (column : Column). column.name) schema.columns) ≡ true
  pub columns_named : list_all (λ (column : Column). is_folded_name column.name) schema.columns
      ≡ true
  pub some : 0 < length places
  pub within : list_all (λ (place : Place). nat_lt place (length schema.columns)) places ≡ true

-- the text of a REVOKE reads back
abbrev pub RevokesReadBack : Type 0
RevokesReadBack =
    (history : History) (schema : Schema) (purpose recipient table : Name) (places : List Place)
    → NamesColumns history schema table places
    → (is_folded_name purpose && is_folded_name recipient && is_folded_name table) ≡ true
    → ReadsBack history (Some schema) (Revoke purpose recipient table places)

-- the text of an ALLOW reads back
abbrev pub AllowsReadBack : Type 0
AllowsReadBack =
    (history : History) (schema : Schema) (purpose recipient table : Name) (places : List Place)
    (item : Option Name)
    (days : Option ℕ) → NamesColumns history schema table places
    → (is_folded_name purpose && is_folded_name recipient && is_folded_name table) ≡ true
    → item_is_keepable item ≡ true → days_fit days ≡ true
    → ReadsBack history (Some schema) (Allow purpose recipient table places item days)

-- the table has a row with the same key as this row, and both have a value for each column
pub record Replaces (history : History) (schema : Schema) (table : Name) (row old : Row)
    : Type 0 where
  pub live : live_row history table (key_of schema.key row) ≡ Some old
  pub same : key_of schema.key old ≡ key_of schema.key row
  pub size : length row ≡ length schema.columns
  pub old_size : length old ≡ length schema.columns

-- the text of an UPDATE reads back, for a row that replaces the one with its key, in a table with a
-- column outside its key
abbrev pub UpdatesReadBack : Type 0
UpdatesReadBack =
    (history : History) (schema : Schema) (table : Name) (row old : Row)
    → NamesColumns history schema table schema.key → all_differ nat_eq schema.key ≡ true
    → 0 < length (set_places schema.columns schema.key) → is_folded_name table ≡ true
    → list_all value_is_keepable row ≡ true → Replaces history schema table row old
    → ReadsBack history (Some schema) (Update table row)

-- the text of a DELETE reads back, for the key of a row that exists, in a table whose key columns
-- differ
abbrev pub DeletesReadBack : Type 0
DeletesReadBack =
    (history : History) (schema : Schema) (table : Name) (key : Key) (row : Row)
    → NamesColumns history schema table schema.key → all_differ nat_eq schema.key ≡ true
    → is_folded_name table ≡ true
    → length schema.key ≡ length key → list_all value_is_keepable key ≡ true
    → live_row history table key ≡ Some row
    → ReadsBack history (Some schema) (Delete table key)

-- whether the text of an act is a statement: that of a question also has who asked it, and an
-- UPDATE must set a column
abbrev pub is_stated : Option Schema → Act → Bool
is_stated schema (Asked user purpose recipient text) = false
is_stated schema (Update table row) =
    nat_lt 0 (length (set_places (columns_of schema) (key_places schema)))
is_stated schema act = true

-- the text reads back, and nothing in the statement is refused, so that after the history it makes
-- exactly this act
pub record MakesAgain (history : History) (schema : Option Schema) (act : Act) : Type 0 where
  pub back : ReadsBack history schema act
  pub unrefused : change_refused (known_at history) back.statement ≡ []

-- each entry of a valid history that is shown as a statement is made again by it, after the entries
-- before it
abbrev pub EntriesAreMadeAgain : Type 0
EntriesAreMadeAgain =
    (meaning : Meaning) (before later : History) (entry : Entry)
    → is_valid meaning (before ++ entry ∷ later) ≡ true
    → is_stated (schema_before (before ++ entry ∷ later) entry) entry.act ≡ true
    → MakesAgain before (schema_before (before ++ entry ∷ later) entry) entry.act
