-- No value so far is below the one before it.
use Rattle.std.proofs.Common.{◌≡◌, ℕ, false, ◌+◌, ◌<◌, get_or}
use Rattle.std.specs.Ordering.{is_lt}
use Rattle.hippo_values.specs.declared.values.Value.{Value}
use Rattle.hippo_values.specs.Order.{value_cmp}
use Rattle.hippo_join_lookups.proofs.lookups.rises.Given as goal

abbrev pub invariant-loop-index : goal.invariant-loop-index
invariant-loop-index l = (k : ℕ) (d : Value) → k + 1 < l.index → is_lt (value_cmp (get_or l.values (k + 1) d) (get_or l.values k d)) ≡ false
