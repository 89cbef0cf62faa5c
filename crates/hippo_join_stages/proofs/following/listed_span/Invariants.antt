-- The places so far are those before the next one.
use Rattle.std.proofs.Common.{◌≡◌, ◌-◌, ◌≤◌}
use Rattle.std.specs.List.{range_with_len}
use Rattle.hippo_join_stages.proofs.following.listed_span.Given as goal

abbrev pub invariant-loop-place : goal.invariant-loop-place
invariant-loop-place l =
    (l.fn.span.start ≤ l.place) × (l.place - l.fn.span.start ≤ l.fn.span.end - l.fn.span.start)
    × (l.places.items ≡ range_with_len l.fn.span.start (l.place - l.fn.span.start))
