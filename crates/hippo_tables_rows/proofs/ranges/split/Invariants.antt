-- The rows before the first end are low; those from the second one on are not.
use Rattle.std.proofs.Common.{◌≡◌, ℕ, ◌-◌, ◌<◌, ◌≤◌, true, false, length}
use Rattle.hippo_tables_rows.specs.Ranges.{stands_low}
use Rattle.hippo_tables_rows.proofs.ranges.split.Given as goal

abbrev pub invariant-loop-low : goal.invariant-loop-low
invariant-loop-low l = record {
  ends : l.low ≤ l.high;
  within : l.high ≤ length l.set.rows;
  below : (k : ℕ) → k < l.low → stands_low l.set l.front l.past k ≡ true;
  above : (k : ℕ) → l.high ≤ k → k < length l.set.rows → stands_low l.set l.front l.past k ≡ false;
}

abbrev pub decreases-loop-low : goal.decreases-loop-low
decreases-loop-low l = l.high - l.low
