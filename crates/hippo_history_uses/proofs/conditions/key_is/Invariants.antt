-- The parts so far.
use Rattle.std.proofs.Common.{◌≡◌, take, map}
use Rattle.hippo_model.specs.Rows.{cell_at}
use Rattle.hippo_history_uses.specs.Conditions.{column_is}
use Rattle.hippo_history_uses.proofs.conditions.key_is.Given as goal

abbrev pub invariant-loop-place : goal.invariant-loop-place
invariant-loop-place l =
    l.parts ≡ map (λ place. column_is place (cell_at l.row place)) (take l.place-index l.schema.key)
