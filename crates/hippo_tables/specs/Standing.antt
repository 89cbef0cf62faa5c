-- Tables that represent a history.
use Rattle.std.specs.Prelude.{◌≡◌, ℕ, Bool, true, false, List, [], ◌∷◌, ◌++◌, Option, None, Some, filter_map, option_map, is_some, if◌then◌else◌, bytes_eq}
use Rattle.std.specs.HashMap.{get}
use Rattle.std.specs.List.{list_all}
use Rattle.hippo_values.specs.declared.names.Name.{Name}
use Rattle.hippo_model.specs.declared.born_row.BornRow.{BornRow}
use Rattle.hippo_model.specs.declared.entry.Entry.{Entry}
use Rattle.hippo_model.specs.declared.entry.Act.{Act}
use Rattle.hippo_model.specs.declared.entry.Act.TheVariants.{Create, Insert, Update, Delete}
use Rattle.hippo_model.specs.declared.schema.Schema.{Schema}
use Rattle.hippo_model.specs.Terms.{History, Row, Key}
use Rattle.hippo_model.specs.Histories.{schema_at}
use Rattle.hippo_model.specs.Rows.{key_of, keys_named}
use Rattle.hippo_tables_keyed.specs.RowSets.{key_in}
use Rattle.hippo_model.specs.Validity.{create_fits, is_table_version}
use Rattle.hippo_tables.specs.declared.tables.Change.{Change}
use Rattle.hippo_tables.specs.declared.tables.Change.TheVariants.{Nothing, Made, Inserted, Updated}
use Rattle.hippo_tables.specs.declared.tables.Tables.{Tables}
use Rattle.hippo_tables.specs.KeptTables.{KeptTable, table_at, empty_table, after_insert, after_delete}
use Rattle.hippo_tables.specs.declared.table.Before.{Before}
use Rattle.hippo_tables.specs.Before.{before_of, renewed_table, restored_table}

-- a table as a history leaves it
abbrev pub kept_table : History → Name → Option KeptTable
kept_table history name = option_map (table_at history) (schema_at history name)

abbrev pub held_table : Tables → Name → Option KeptTable
held_table tables name = get bytes_eq tables.tables name

-- each name has the table that the history gives it
pub record TablesStandFor (tables : Tables) (history : History) : Type 0 where
  pub kept : (name : Name) → held_table tables name ≡ kept_table history name

-- a table before a change
abbrev pub table_before : Change → Name → Option KeptTable → Option KeptTable
table_before Nothing name kept = kept
table_before (Made table) name kept = if bytes_eq table name then None else kept
table_before (Inserted table key) name kept =
    if bytes_eq table name then option_map (after_delete key) kept else kept
table_before (Updated table before) name kept =
    if bytes_eq table name then option_map (restored_table before) kept else kept

-- tables remember what they were before their last entry
pub record RemembersTables (tables : Tables) (history : History) : Type 0 where
  pub before : (name : Name) → table_before tables.last name (held_table tables name)
      ≡ kept_table history name

-- the facts that hold of an act that may follow a valid history
abbrev pub IsNextAct : History → Act → Type 0
IsNextAct history (Create schema) =
    (create_fits history schema ≡ true) × (keys_named schema history ≡ [])
IsNextAct history (Insert table row) = is_table_version history table (Insert table row) ≡ true
IsNextAct history (Update table row) = is_table_version history table (Update table row) ≡ true
IsNextAct history (Delete table key) = is_table_version history table (Delete table key) ≡ true
IsNextAct history act = Unit {0}

abbrev pub is_delete : Act → Bool
is_delete (Delete table key) = true
is_delete act = false

-- whether an act changes no row and creates no table
abbrev pub leaves_tables : Act → Bool
leaves_tables (Create schema) = false
leaves_tables (Insert table row) = false
leaves_tables (Update table row) = false
leaves_tables (Delete table key) = false
leaves_tables act = true

-- an entry was applied to the tables
pub record TablesAdd (old new : Tables) (entry : Entry) : Type 0 where
  pub stands : (history : History) → IsNextAct history entry.act → TablesStandFor old history
      → TablesStandFor new (history ++ entry ∷ [])
  pub remembers : is_delete entry.act ≡ false → (history : History) → IsNextAct history entry.act
      → TablesStandFor old history
      → RemembersTables new history

-- tables are the same as before
pub record TablesAreAsBefore (old new : Tables) : Type 0 where
  pub kept : (name : Name) → held_table new name ≡ held_table old name
  pub same_last : new.last ≡ old.last

-- tables, one of which is changed
abbrev pub with_change : Name → (KeptTable → KeptTable) → (Name → Option KeptTable) → Name
    → Option KeptTable
with_change name change tables other =
    if bytes_eq name other then option_map change (tables other) else tables other

-- a table is created
pub record Makes (old new : Tables) (schema : Schema) : Type 0 where
  pub kept : (other : Name) → held_table new other
      ≡ (if bytes_eq schema.name other then Some (empty_table schema) else held_table old other)
  pub remembered : new.last ≡ Made schema.name

-- a row is inserted
pub record InsertsIntoTable (old new : Tables) (table : Name) (kept : BornRow) (number : ℕ)
    : Type 0 where
  pub tables : (other : Name) → held_table new other
      ≡ with_change table (after_insert kept number) (held_table old) other
  pub remembered : (before : KeptTable) → held_table old table ≡ Some before
      → new.last ≡ Inserted table (key_in before.rows.key kept)

-- a row is updated
pub record Updates (old new : Tables) (table : Name) (row : Row) (number : ℕ) : Type 0 where
  pub tables : (other : Name) → held_table new other
      ≡ with_change table (renewed_table row number) (held_table old) other
  pub remembered : (kept : KeptTable) (before : Before) → held_table old table ≡ Some kept
      → before_of (key_of kept.rows.key row) kept ≡ Some before → new.last ≡ Updated table before

-- a row is deleted
pub record Deletes (old new : Tables) (table : Name) (key : Key) : Type 0 where
  pub tables : (other : Name) → held_table new other
      ≡ with_change table (after_delete key) (held_table old) other

-- the schemas of created tables, in the order of the given names
abbrev pub schemas_at : History → List Name → List Schema
schemas_at history names = filter_map (schema_at history) names

-- whether each of some tables is created
abbrev pub are_created : History → List Name → Bool
are_created history names = list_all (λ name. is_some (schema_at history name)) names

-- tables with these names exist: they are created in some history that the tables represent
pub record AreKeptTables (tables : Tables) (names : List Name) : Type 0 where
  pub history : History
  pub stands : TablesStandFor tables history
  pub created : are_created history names ≡ true
