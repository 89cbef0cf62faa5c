-- Piece by piece, until nothing is left or something is wrong.
use Rattle.std.proofs.Common.{◌∙◌, ap, Ok}
use Rattle.hippo_replay.proofs.ReadingLemmas.{IsReading-first, IsReading-on, ReadsAllKept-end, ReadsAllKept-fault}
use Rattle.hippo_replay.proofs.loading.read_all.Goals as goal

pub loop-fault-init : goal.loop-fault-init
loop-fault-init g c = IsReading-first (g.P.Keeper.state c.args.keeper.now) c.args.state.now c.args.steps.now c.requires.ready c.requires.empty

pub loop-fault-preserved : goal.loop-fault-preserved
loop-fault-preserved g c =
    IsReading-on (g.P.Keeper.state c.args.keeper.now) (g.P.Keeper.state c.loop-fault.keeper) (g.P.Keeper.state c.read_on.new.keeper) c.loop-fault.state c.read_on.new.state c.args.steps.now c.loop-fault.steps c.read_on.new.steps c.loop-fault.invariant c.requires.order c.read_on.result c.read_on.ensures.reads (c.in-Ok-true.is ∙ ap Ok c.in-Ok-true.field-0-test) c.in-Ok-true.ensures.sound

pub returns-in-Ok-false : goal.returns-in-Ok-false
returns-in-Ok-false g c =
    record { reads = ReadsAllKept-end (g.P.Keeper.state c.args.keeper.now) (g.P.Keeper.state c.loop-fault.keeper) (g.P.Keeper.state c.read_on.new.keeper) c.loop-fault.state c.read_on.new.state c.args.steps.now c.loop-fault.steps c.read_on.new.steps c.loop-fault.invariant c.requires.order c.read_on.result c.read_on.ensures.reads (c.in-Ok-false.is ∙ ap Ok c.in-Ok-false.field-0-test) }

pub returns-in-Err : goal.returns-in-Err
returns-in-Err g c =
    record { reads = ReadsAllKept-fault (g.P.Keeper.state c.args.keeper.now) (g.P.Keeper.state c.loop-fault.keeper) (g.P.Keeper.state c.read_on.new.keeper) c.loop-fault.state c.read_on.new.state c.args.steps.now c.loop-fault.steps c.read_on.new.steps c.loop-fault.invariant c.requires.order c.read_on.result c.read_on.ensures.reads c.in-Err.fault c.in-Err.is }
