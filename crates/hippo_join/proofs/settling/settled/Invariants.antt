-- The rows chosen so far are in every qualifying combination.
use Rattle.std.proofs.Common.{None, length, replicate}
use Rattle.hippo_join.specs.Settling.{Settles}
use Rattle.hippo_join.proofs.settling.settled.Given as goal

abbrev pub invariant-loop-pass : goal.invariant-loop-pass
invariant-loop-pass g l = Settles (g.C.ChoiceView.choices l.side.choices.now) l.side.query.now l.side.sets.now (replicate (length l.side.sets.now) None) l.slots.items
