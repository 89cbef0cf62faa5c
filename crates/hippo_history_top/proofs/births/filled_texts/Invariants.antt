-- The places so far are those of the filled texts so far.
use Rattle.std.proofs.Common.{◌≡◌, filter}
use Rattle.std.specs.List.{range_with_len}
use Rattle.hippo_model.specs.Rows.{cell_at}
use Rattle.hippo_history_statements.specs.Telling.{is_set}
use Rattle.hippo_history_top.specs.CarryingOn.{is_filled_text}
use Rattle.hippo_history_top.proofs.births.filled_texts.Given as goal

abbrev pub invariant-loop-place : goal.invariant-loop-place
invariant-loop-place l = l.places ≡ filter (λ place. is_filled_text (cell_at l.row place)) (filter (is_set l.key) (range_with_len 0 l.place))
