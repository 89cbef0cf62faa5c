-- The tables do not change.
use Rattle.std.proofs.Common.{◌≡◌}
use Rattle.hippo_combine.proofs.ordering.order_for_parts.Given as goal

abbrev pub invariant-loop-part : goal.invariant-loop-part
invariant-loop-part l = l.tables.items ≡ l.initial.tables.items
