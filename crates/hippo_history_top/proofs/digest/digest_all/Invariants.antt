-- The first part of the stored list is read; each piece brings more entries.
use Rattle.std.proofs.Common.{◌-◌}
use Rattle.hippo_history_top.specs.Digesting.{IsDigesting}
use Rattle.hippo_history_top.proofs.digest.digest_all.Given as goal

abbrev pub invariant-loop-chain : goal.invariant-loop-chain
invariant-loop-chain g l = IsDigesting l.last (g.P.Keeper.state l.initial.keeper) (g.P.Keeper.state l.keeper) l.chain l.initial.steps l.steps

abbrev pub decreases-loop-chain : goal.decreases-loop-chain
decreases-loop-chain g l = l.last - l.chain.count
