-- The schemas and the rows so far, and those of the remaining tables.
use Rattle.std.proofs.Common.{◌≡◌, ◌++◌, drop, length, map}
use Rattle.hippo_model.specs.Terms.{History}
use Rattle.hippo_tables_keyed.specs.RowSets.{kept_at}
use Rattle.hippo_tables.specs.Standing.{TablesStandFor, are_created, schemas_at}
use Rattle.hippo_history_uses.proofs.lending.lent_tables.Given as goal

abbrev pub invariant-loop-name : goal.invariant-loop-name
invariant-loop-name l = record {
  schemas_each : length l.schemas ≡ l.name-index;
  sets_each : length l.sets ≡ l.name-index;
  schemas : (history : History) → TablesStandFor l.tables history
      → l.schemas ++ schemas_at history (drop l.name-index l.names) ≡ schemas_at history l.names;
  sets : (history : History) → TablesStandFor l.tables history
      → l.sets ++ map (λ schema. kept_at schema history) (schemas_at history (drop l.name-index l.names))
      ≡ map (λ schema. kept_at schema history) (schemas_at history l.names);
  created : (history : History) → TablesStandFor l.tables history
      → are_created history l.names ≡ are_created history (drop l.name-index l.names);
}
