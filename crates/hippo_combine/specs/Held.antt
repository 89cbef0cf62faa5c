-- The rows of the tables that an examiner holds, all moved forward over the same history.
use Rattle.std.specs.Prelude.{◌≡◌, ℕ, ◌≤◌, Bool, false, not, ◌&&◌, List, map, find, count_by, length, nat_lt, nat_le, Option, Some, option_map, bytes_eq}
use Rattle.std.specs.List.{AllByRecursion, IsDistinct, list_any, list_all, sum_by}
use Rattle.std.specs.Option.{option_map_or}
use Rattle.hippo_values.specs.declared.names.Name.{Name}
use Rattle.hippo_model.specs.declared.entry.Entry.{Entry}
use Rattle.hippo_model.specs.declared.schema.Schema.{Schema}
use Rattle.hippo_model.specs.Terms.{History}
use Rattle.hippo_tables_keyed.specs.RowSets.{KeyedRows}
use Rattle.hippo_model.specs.Versions.{is_version}
use Rattle.hippo_backlog.specs.Backlogs.{is_version_of}
use Rattle.hippo_intervals.specs.Living.{HeldLives, taken_by, LivesFit}

-- the held table of this name: its schema, its rows, and the number of entries after which they are
-- so
abbrev pub lives_of : List HeldLives → Name → Option HeldLives
lives_of tables table = find (λ lives. bytes_eq lives.schema.name table) tables

abbrev pub schema_held : List HeldLives → Name → Option Schema
schema_held tables table = option_map (λ lives. lives.schema) (lives_of tables table)

abbrev pub rows_held : List HeldLives → Name → Option KeyedRows
rows_held tables table = option_map (λ lives. lives.versions.rows) (lives_of tables table)

abbrev pub place_held : List HeldLives → Name → Option ℕ
place_held tables table = option_map (λ lives. lives.versions.place) (lives_of tables table)

-- whether there are rows, and at least one
abbrev pub has_some : Option KeyedRows → Bool
has_some found = option_map_or (λ set. nat_lt 0 (length set.rows)) found false

-- whether each of these tables is held and has rows
abbrev pub are_held : List HeldLives → List Name → Bool
are_held tables names = list_all (λ table. has_some (rows_held tables table)) names

-- the rows of these tables are held as they were after `number` entries
abbrev pub AreHeldAt : ℕ → List Name → List HeldLives → Type 0
AreHeldAt number names tables =
    AllByRecursion (λ table. place_held tables table ≡ Some number) names

-- no table is at a place above a number
abbrev pub AreHeldUpTo : ℕ → List HeldLives → Type 0
AreHeldUpTo number tables = AllByRecursion (λ lives. lives.versions.place ≤ number) tables

-- how many versions were handed over for all tables
abbrev pub all_taken : List HeldLives → ℕ
all_taken tables = sum_by taken_by tables

-- whether an entry is a version of a held table that has been read up to its number
abbrev pub is_reached : List HeldLives → Entry → Bool
is_reached tables entry =
    list_any (λ lives. is_version_of lives.schema.name entry
    && nat_le entry.seq lives.versions.ahead.reached) tables

-- the number of versions that no held table has reached
abbrev pub unread_count : List HeldLives → History → ℕ
unread_count tables history =
    count_by (λ entry. is_version entry.act && not (is_reached tables entry)) history

-- no table is held twice, and each is that of the history
pub record TablesFit (tables : List HeldLives) (history : History) : Type 0 where
  pub apart : IsDistinct bytes_eq (map (λ lives. lives.schema.name) tables)
  pub each : AllByRecursion (λ lives. LivesFit lives history) tables
