-- The job that looked at all queries has the flags.
use Rattle.std.proofs.Common.{Ok, Err}
use Rattle.hippo_engine_audits.proofs.AuditingLemmas.{finds_flags}
use Rattle.hippo_engine_audits.proofs.auditing.looked_over.Goals as goal

pub returns-in-Ok : goal.returns-in-Ok
returns-in-Ok g c = record {
  finds = finds_flags c.args.audit c.args.state.now _ c.new.result (Ok c.in-Ok.field-0) c.step.new.self (g.P.Keeper.state c.args.keeper.now) (g.P.Keeper.state c.step.new.keeper) c.args.steps.now c.step.new.steps
      c.new.ensures (λ history stands. record { valid = stands.valid; names = stands.names; book = stands.book; count = stands.count })
      (rw c.begin-job.ensures at c.in-Ok.ensures.stepped);
}

pub returns-in-Err : goal.returns-in-Err
returns-in-Err g c = record {
  finds = finds_flags c.args.audit c.args.state.now _ c.new.result (Err c.in-Err.fault) c.step.new.self (g.P.Keeper.state c.args.keeper.now) (g.P.Keeper.state c.step.new.keeper) c.args.steps.now c.step.new.steps
      c.new.ensures (λ history stands. record { valid = stands.valid; names = stands.names; book = stands.book; count = stands.count })
      (rw c.begin-job.ensures at c.in-Err.ensures.stepped);
}
