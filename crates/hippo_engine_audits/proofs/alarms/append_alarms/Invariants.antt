-- The alarms so far, and those of the remaining watches.
use Rattle.std.proofs.Common.{◌≡◌}
use Rattle.hippo_engine_audits.proofs.AlarmLemmas.{SoFar}
use Rattle.hippo_engine_audits.proofs.alarms.append_alarms.Given as goal

abbrev pub invariant-loop-held : goal.invariant-loop-held
invariant-loop-held l =
    (l.number ≡ l.held-index) × SoFar l.asked l.watches l.held-index l.initial.out l.out
