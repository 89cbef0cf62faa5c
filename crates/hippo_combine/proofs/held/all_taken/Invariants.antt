-- The sum so far plus the remaining terms, cut off at the largest number of 64 bits.
use Rattle.std.proofs.Common.{◌≡◌, ◌+◌, ◌≤◌, drop}
use Rattle.hippo_audit_job.specs.Examining.{shown_count}
use Rattle.hippo_combine.specs.Held.{all_taken}
use Rattle.hippo_combine.proofs.held.all_taken.Given as goal

abbrev pub invariant-loop-lives : goal.invariant-loop-lives
invariant-loop-lives l = record {
  within : l.sum ≤ 18446744073709551615;
  left : shown_count (l.sum + all_taken (drop l.lives-index l.tables)) ≡ shown_count (all_taken l.tables);
}
