-- The authorizations were written down, or the entries that gave them could not be read.
use Rattle.std.proofs.Common.{◌≡◌}
use Rattle.hippo_history_top.proofs.GatheredLemmas.{loaded_users, gathered_nothing}
use Rattle.hippo_history_top.specs.declared.asking.View.TheVariants.{Users}
use Rattle.hippo_history_top.specs.Dating.{entries_to}
use Rattle.hippo_history_top.specs.Granting.{grants_of}
use Rattle.hippo_history_top.proofs.top.show_users.Goals as goal

pub returns-in-Ok : goal.returns-in-Ok
returns-in-Ok g c = record {
  shows = λ state. rw c.served_or.ensures (loaded_users state (g.P.Keeper.state c.args.keeper.now) (g.P.Keeper.state c.gather_all.new.keeper) c.args.steps.now c.gather_all.new.steps
      (g.K.Sink.written c.args.sink.now) (g.K.Sink.written c.write_grants.new.sink) (g.K.Sink.faults c.args.sink.now) (g.K.Sink.faults c.write_grants.new.sink) c.write_grants.result
      c.args.roster.now c.gather_all.new.gathered.list.items c.new-grants.result.list.items c.new-grants.ensures c.in-Ok.ensures.gathers (rw c.as_slice.ensures at c.write_grants.ensures.writes));
}

pub returns : goal.returns
returns g c = record {
  shows = λ state. rw c.ending_of.ensures (gathered_nothing (λ read. c.new-grants.result.list.items ≡ grants_of (entries_to c.args.roster.now.last read)) (λ read. c.gather_all.new.gathered.list.items ≡ grants_of (entries_to c.args.roster.now.last read)) state (g.P.Keeper.state c.args.keeper.now) (g.P.Keeper.state c.gather_all.new.keeper) c.args.steps.now c.gather_all.new.steps
      (Users c.args.roster.now) (g.K.Sink.written c.args.sink.now) (g.K.Sink.faults c.args.sink.now) c.in-Err.fault c.in-Err.ensures.gathers);
}
