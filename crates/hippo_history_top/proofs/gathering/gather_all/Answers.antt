-- Piece by piece, until nothing is left to be read, a call fails or memory runs out.
use Rattle.std.proofs.Common.{◌∙◌, ◌<◌, ◌^◌, ap, Ok, arith}
use Rattle.hippo_history_top.proofs.GatherLemmas.{IsGathering-first, gathering_ready, IsGathering-on, GathersAll-end, GathersAll-fault}
use Rattle.hippo_history_top.proofs.gathering.gather_all.Goals as goal

pub loop-fault-init : goal.loop-fault-init
loop-fault-init g c = IsGathering-first (g.G.Gather.Covers c.args.gathered.now c.args.asked.now) (g.P.Keeper.state c.args.keeper.now) c.args.steps.now c.requires.readable.ready

pub gather_next-requires : goal.gather_next-requires
gather_next-requires g c = record {
  ready = gathering_ready (g.G.Gather.Covers c.args.gathered.now c.args.asked.now) (g.G.Gather.Covers c.loop-fault.gathered c.args.asked.now) (g.P.Keeper.state c.args.keeper.now) (g.P.Keeper.state c.loop-fault.keeper) c.loop-fault.number c.args.steps.now c.loop-fault.steps c.loop-fault.invariant;
}

pub loop-fault-preserved : goal.loop-fault-preserved
loop-fault-preserved g c =
    IsGathering-on (g.G.Gather.Covers c.args.gathered.now c.args.asked.now) (g.G.Gather.Covers c.loop-fault.gathered c.args.asked.now) (g.P.Keeper.state c.args.keeper.now) (g.P.Keeper.state c.loop-fault.keeper) c.loop-fault.number c.args.steps.now c.loop-fault.steps c.loop-fault.invariant
    c.requires.readable.order (g.G.Gather.Covers c.gather_next.new.gathered c.args.asked.now) (g.P.Keeper.state c.gather_next.new.keeper) c.gather_next.new.number c.gather_next.new.steps c.gather_next.result c.gather_next.ensures.gathers (c.in-Ok-true.is ∙ ap Ok c.in-Ok-true.field-0-test)

pub loop-fault-smaller : goal.loop-fault-smaller
loop-fault-smaller g c =
    let both = c.gather_next.ensures.gathers.more (c.in-Ok-true.is ∙ ap Ok c.in-Ok-true.field-0-test) in
    let more : c.loop-fault.number < c.gather_next.new.number = both.0 in
    let room : c.loop-fault.number < 2 ^ 64 = both.1 in
    omega (arith, more, room)

pub returns-in-Ok-false : goal.returns-in-Ok-false
returns-in-Ok-false g c = record {
  gathers = GathersAll-end (g.G.Gather.Covers c.args.gathered.now c.args.asked.now) (g.G.Gather.Covers c.loop-fault.gathered c.args.asked.now) (g.P.Keeper.state c.args.keeper.now) (g.P.Keeper.state c.loop-fault.keeper) c.loop-fault.number c.args.steps.now c.loop-fault.steps c.loop-fault.invariant
      c.requires.readable.order (g.G.Gather.Covers c.gather_next.new.gathered c.args.asked.now) (g.P.Keeper.state c.gather_next.new.keeper) c.gather_next.new.number c.gather_next.new.steps c.gather_next.result c.gather_next.ensures.gathers (c.in-Ok-false.is ∙ ap Ok c.in-Ok-false.field-0-test);
}

pub returns-in-Err : goal.returns-in-Err
returns-in-Err g c = record {
  gathers = GathersAll-fault (g.G.Gather.Covers c.args.gathered.now c.args.asked.now) (g.G.Gather.Covers c.loop-fault.gathered c.args.asked.now) (g.P.Keeper.state c.args.keeper.now) (g.P.Keeper.state c.loop-fault.keeper) c.loop-fault.number c.args.steps.now c.loop-fault.steps c.loop-fault.invariant
      c.requires.readable.order (g.G.Gather.Covers c.gather_next.new.gathered c.args.asked.now) (g.P.Keeper.state c.gather_next.new.keeper) c.gather_next.new.number c.gather_next.new.steps c.gather_next.result c.gather_next.ensures.gathers c.in-Err.fault c.in-Err.is;
}
