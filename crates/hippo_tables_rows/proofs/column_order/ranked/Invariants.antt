-- The places so far are those below the next one.
use Rattle.std.proofs.Common.{◌≡◌, map}
use Rattle.std.specs.List.{range_with_len}
use Rattle.hippo_tables_rows.proofs.column_order.ranked.Given as goal

abbrev pub invariant-loop-place : goal.invariant-loop-place
invariant-loop-place l = map (λ pair. pair.1) l.ranked.items ≡ range_with_len 0 l.place
