use Rattle.std.proofs.Common.{◌≡◌, length, drop}
use Rattle.std.specs.List.{zip}
use Rattle.hippo_typing_catalog.specs.ChangesRefused.{assigned_refused}
use Rattle.hippo_typing_changes.proofs.values.check_assigned.Given as goal

abbrev pub invariant-loop-name : goal.invariant-loop-name
invariant-loop-name g l =
    let refusals = g.C.ValueCheck.refusals in
    let n = length l.yielded in
    assigned_refused refusals l.table (zip l.names l.values) ≡ assigned_refused refusals l.table (zip (drop n l.names) (drop n l.values))
