-- Those so far and those among the remaining moments make up the whole number.
use Rattle.std.proofs.Common.{◌≡◌, ◌+◌, ◌≤◌, drop}
use Rattle.hippo_history_top.specs.declared.asking.Bound.TheVariants.{At}
use Rattle.hippo_history_top.specs.Dating.{count_to}
use Rattle.hippo_history_top.proofs.moments.count_at.Given as goal

abbrev pub invariant-loop-set : goal.invariant-loop-set
invariant-loop-set l = record {
  sum : l.count + count_to (At l.moment) (drop l.set-index l.moments) ≡ count_to (At l.moment) l.moments;
  within : l.count ≤ l.set-index;
}
