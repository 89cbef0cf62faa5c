-- The tables of a query, lent as they were before it.
use Rattle.std.specs.Prelude.{◌≡◌, false, List, map, length, Option, None, Some}
use Rattle.hippo_values.specs.declared.names.Name.{Name}
use Rattle.hippo_model.specs.Histories.{schema_at}
use Rattle.hippo_model.specs.Terms.{History}
use Rattle.hippo_tables_keyed.specs.RowSets.{kept_at}
use Rattle.hippo_tables.specs.declared.tables.Tables.{Tables}
use Rattle.hippo_tables.specs.Standing.{TablesStandFor, are_created}
use Rattle.hippo_history_uses.specs.declared.lending.LentTables.{LentTables}

-- schemas and rows are those of the named tables in a history
pub record AreThoseOf (history : History) (names : List Name) (lent : LentTables) : Type 0 where
  pub schemas : map (schema_at history) names ≡ map Some lent.schemas
  pub sets : lent.sets ≡ map (λ schema. kept_at schema history) lent.schemas

-- as many schemas as rows, one for each of the first tables
pub record LendsEach (tables : Tables) (names : List Name) (lent : LentTables) : Type 0 where
  pub schemas_many : length lent.schemas ≡ length names
  pub sets_many : length lent.sets ≡ length names
  pub are_those : (history : History) → TablesStandFor tables history
      → AreThoseOf history names lent

-- the named tables are lent; nothing is lent if one of them does not exist
abbrev pub LendsTables : Tables → List Name → Option LentTables → Type 0
LendsTables tables names (Some lent) = LendsEach tables names lent
LendsTables tables names None =
    (history : History) → TablesStandFor tables history → are_created history names ≡ false
