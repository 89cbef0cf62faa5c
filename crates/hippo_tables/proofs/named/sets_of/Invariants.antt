-- The rows so far, and those of the remaining tables.
use Rattle.std.proofs.Common.{◌≡◌, ◌++◌, drop, length, map}
use Rattle.hippo_model.specs.Terms.{History}
use Rattle.hippo_tables_keyed.specs.RowSets.{kept_at}
use Rattle.hippo_tables.specs.Standing.{TablesStandFor, schemas_at}
use Rattle.hippo_tables.proofs.named.sets_of.Given as goal

abbrev pub invariant-loop-name : goal.invariant-loop-name
invariant-loop-name l = record {
  each : length l.sets ≡ l.name-index;
  rows : (history : History) → TablesStandFor l.tables history
      → l.sets ++ map (λ schema. kept_at schema history) (schemas_at history (drop l.name-index l.names))
      ≡ map (λ schema. kept_at schema history) (schemas_at history l.names);
}
