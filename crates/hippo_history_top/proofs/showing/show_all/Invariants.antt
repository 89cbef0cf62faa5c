-- The first part of the stored list is read and shown; each piece brings a higher number.
use Rattle.std.proofs.Common.{◌-◌, ◌^◌}
use Rattle.hippo_history_top.specs.Progress.{IsShowing}
use Rattle.hippo_history_top.proofs.showing.show_all.Given as goal

abbrev pub invariant-loop-ending : goal.invariant-loop-ending
invariant-loop-ending g l =
    IsShowing l.guide.catalog.now.names l.guide.excerpt.now (g.P.Keeper.state l.initial.keeper) (g.P.Keeper.state l.keeper)
    l.progress.number l.progress.clock (g.K.Sink.written l.initial.sink) (g.K.Sink.written l.sink) (g.K.Sink.faults l.initial.sink) (g.K.Sink.faults l.sink) l.initial.steps l.steps

abbrev pub decreases-loop-ending : goal.decreases-loop-ending
decreases-loop-ending g l = 2 ^ 64 - l.progress.number
