-- The schemas so far, and those of the remaining tables.
use Rattle.std.proofs.Common.{◌≡◌, ◌++◌, drop}
use Rattle.hippo_model.specs.Terms.{History}
use Rattle.hippo_tables.specs.Standing.{TablesStandFor, schemas_at}
use Rattle.hippo_tables.proofs.named.schemas_of.Given as goal

abbrev pub invariant-loop-name : goal.invariant-loop-name
invariant-loop-name l =
    (history : History) → TablesStandFor l.tables history
    → l.schemas ++ schemas_at history (drop l.name-index l.names) ≡ schemas_at history l.names
