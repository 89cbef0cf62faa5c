-- The places so far are those of the columns so far.
use Rattle.std.proofs.Common.{◌≡◌, filter}
use Rattle.std.specs.List.{range_with_len}
use Rattle.hippo_history_statements.specs.Telling.{is_set}
use Rattle.hippo_history_statements.proofs.rows.set_places.Given as goal

abbrev pub invariant-loop-place : goal.invariant-loop-place
invariant-loop-place l = l.places ≡ filter (is_set l.key) (range_with_len 0 l.place)
