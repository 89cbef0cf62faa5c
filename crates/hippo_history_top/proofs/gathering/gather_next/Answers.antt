-- A piece was read and covered, memory ran out at it, or a call on the keeper failed.
use Rattle.std.proofs.Common.{arith}
use Rattle.hippo_history_top.proofs.GatherLemmas.{GathersNext-read, GathersNext-fault}
use Rattle.hippo_history_top.proofs.gathering.gather_next.Goals as goal

pub returns-in-Ok : goal.returns-in-Ok
returns-in-Ok g c = record {
  gathers = rw c.reading_of.ensures (GathersNext-read (g.G.Gather.Covers c.args.gathered.now c.args.asked.now) (g.G.Gather.Covers c.cover_piece-covered.new.gathered c.args.asked.now) 1000 c.args.number.now c.cover_piece-covered.new.number (g.P.Keeper.state c.args.keeper.now) (g.P.Keeper.state c.read_all.new.self)
      c.args.steps.now c.read_all.new.steps c.in-Ok.piece (omega arith) (omega arith) c.in-Ok.ensures.reads c.in-Ok.ensures.steps c.cover_piece-covered.result c.is_empty-any.result c.is_empty-any.ensures
      (rw c.as_slice.ensures at c.cover_piece-covered.ensures.gathers) (rw c.as_slice.ensures at c.cover_piece-covered.ensures.last));
}

pub returns-in-Err : goal.returns-in-Err
returns-in-Err g c = record {
  gathers = GathersNext-fault (g.G.Gather.Covers c.args.gathered.now c.args.asked.now) (g.G.Gather.Covers c.args.gathered.now c.args.asked.now) 1000 c.args.number.now c.args.number.now (g.P.Keeper.state c.args.keeper.now) (g.P.Keeper.state c.read_all.new.self)
      c.args.steps.now c.read_all.new.steps c.in-Err.fault c.in-Err.ensures.reads c.in-Err.ensures.steps;
}
