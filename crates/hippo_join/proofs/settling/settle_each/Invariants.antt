-- The rows chosen so far are in every qualifying combination.
use Rattle.hippo_join.specs.Settling.{Settles}
use Rattle.hippo_join.proofs.settling.settle_each.Given as goal

abbrev pub invariant-loop-table : goal.invariant-loop-table
invariant-loop-table g l = Settles (g.C.ChoiceView.choices l.side.choices.now) l.side.query.now l.side.sets.now l.initial.slots l.slots
