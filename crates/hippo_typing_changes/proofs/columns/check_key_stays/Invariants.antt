use Rattle.std.proofs.Common.{◌≡◌, drop}
use Rattle.hippo_typing_catalog.specs.ChangesRefused.{key_changed}
use Rattle.hippo_typing_changes.proofs.columns.check_key_stays.Given as goal

abbrev pub invariant-loop-name : goal.invariant-loop-name
invariant-loop-name l = key_changed l.table l.names ≡ key_changed l.table (drop l.name-index l.names)
