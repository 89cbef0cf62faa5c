use Rattle.std.proofs.Common.{◌≡◌, length, drop}
use Rattle.hippo_typing_catalog.specs.ChangesRefused.{row_refused}
use Rattle.hippo_typing_changes.proofs.values.check_row.Given as goal

abbrev pub invariant-loop-column : goal.invariant-loop-column
invariant-loop-column g l =
    let refusals = g.C.ValueCheck.refusals in
    let n = length l.yielded in
    row_refused refusals l.columns l.values ≡ row_refused refusals (drop n l.columns) (drop n l.values)
