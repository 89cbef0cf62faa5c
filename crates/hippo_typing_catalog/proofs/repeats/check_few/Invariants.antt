use Rattle.std.proofs.Common.{◌≡◌, take, drop}
use Rattle.hippo_typing_catalog.specs.Refusals.{repeated_names, repeated_after}
use Rattle.hippo_typing_catalog.proofs.repeats.check_few.Given as goal

abbrev pub invariant-loop-place : goal.invariant-loop-place
invariant-loop-place l = repeated_names l.names ≡ repeated_after (take l.place l.names) (drop l.place l.names)
