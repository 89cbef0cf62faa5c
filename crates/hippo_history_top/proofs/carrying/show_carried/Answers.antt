-- The lines were written down, or the entries could not be read.
use Rattle.std.proofs.Common.{◌≡◌, filter}
use Rattle.hippo_history_carry.specs.Carrying.{is_carriable}
use Rattle.hippo_history_top.proofs.CarryLemmas.{loaded_carry}
use Rattle.hippo_history_top.proofs.GatheredLemmas.{gathered_nothing}
use Rattle.hippo_history_top.specs.declared.asking.View.TheVariants.{Carry}
use Rattle.hippo_history_top.proofs.carrying.show_carried.Goals as goal

pub returns-in-Ok : goal.returns-in-Ok
returns-in-Ok g c = record {
  shows = rw c.served_or.ensures (loaded_carry c.args.state (g.P.Keeper.state c.args.keeper.now) (g.P.Keeper.state c.gather_all.new.keeper) c.args.steps.now c.gather_all.new.steps
      (g.K.Sink.written c.args.sink.now) (g.K.Sink.written c.write_carried-cut.new.sink) (g.K.Sink.faults c.args.sink.now) (g.K.Sink.faults c.write_carried-cut.new.sink) c.write_carried-cut.result
      c.gather_all.new.gathered.list c.new-carriable.result.list c.new-carriable.ensures c.in-Ok.ensures.gathers (rw c.as_slice.ensures at c.write_carried-cut.ensures.writes));
}

pub returns : goal.returns
returns g c = record {
  shows = rw c.ending_of.ensures (gathered_nothing (λ read. c.new-carriable.result.list ≡ filter is_carriable read) (λ read. c.gather_all.new.gathered.list ≡ filter is_carriable read) c.args.state (g.P.Keeper.state c.args.keeper.now) (g.P.Keeper.state c.gather_all.new.keeper) c.args.steps.now c.gather_all.new.steps
      Carry (g.K.Sink.written c.args.sink.now) (g.K.Sink.faults c.args.sink.now) c.in-Err.fault c.in-Err.ensures.gathers);
}
