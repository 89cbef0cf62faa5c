-- The rules were written down, or the moments of their entries could not be read.
use Rattle.std.proofs.Common.{◌≡◌}
use Rattle.hippo_history_top.proofs.GatheredLemmas.{loaded_rules, gathered_nothing}
use Rattle.hippo_history_top.specs.declared.asking.View.TheVariants.{Rules}
use Rattle.hippo_history_top.specs.Dating.{moments_of}
use Rattle.hippo_history_top.proofs.top.show_rules.Goals as goal

pub returns-in-Ok : goal.returns-in-Ok
returns-in-Ok g c = record {
  shows = rw c.served_or.ensures (loaded_rules c.args.state (g.P.Keeper.state c.args.keeper.now) (g.P.Keeper.state c.gather_all.new.keeper) c.args.steps.now c.gather_all.new.steps
      (g.K.Sink.written c.args.sink.now) (g.K.Sink.written c.write_rules-cut.new.sink) (g.K.Sink.faults c.args.sink.now) (g.K.Sink.faults c.write_rules-cut.new.sink) c.write_rules-cut.result
      c.args.page.now c.gather_all.new.gathered.list c.new-moments.result.list c.new-moments.ensures c.in-Ok.ensures.gathers (rw c.as_slice.ensures at c.write_rules-cut.ensures.writes));
}

pub returns : goal.returns
returns g c = record {
  shows = rw c.ending_of.ensures (gathered_nothing (λ read. c.new-moments.result.list ≡ moments_of read) (λ read. c.gather_all.new.gathered.list ≡ moments_of read) c.args.state (g.P.Keeper.state c.args.keeper.now) (g.P.Keeper.state c.gather_all.new.keeper) c.args.steps.now c.gather_all.new.steps
      (Rules c.args.page.now) (g.K.Sink.written c.args.sink.now) (g.K.Sink.faults c.args.sink.now) c.in-Err.fault c.in-Err.ensures.gathers);
}
