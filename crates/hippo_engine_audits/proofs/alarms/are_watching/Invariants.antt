-- Whether there is a watch among the remaining ones.
use Rattle.std.proofs.Common.{◌≡◌, drop}
use Rattle.std.specs.Prelude.{is_some}
use Rattle.std.specs.List.{list_any}
use Rattle.hippo_engine_audits.proofs.alarms.are_watching.Given as goal

abbrev pub invariant-loop-held : goal.invariant-loop-held
invariant-loop-held l = list_any is_some l.watches ≡ list_any is_some (drop l.held-index l.watches)
