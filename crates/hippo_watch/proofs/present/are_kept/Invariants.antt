-- Whether the remaining tables exist.
use Rattle.std.proofs.Common.{◌≡◌, drop}
use Rattle.hippo_model.specs.Terms.{History}
use Rattle.hippo_tables.specs.Standing.{TablesStandFor, are_created}
use Rattle.hippo_watch.proofs.present.are_kept.Given as goal

abbrev pub invariant-loop-name : goal.invariant-loop-name
invariant-loop-name l =
    (history : History) → TablesStandFor l.tables history
    → are_created history l.names ≡ are_created history (drop l.name-index l.names)
