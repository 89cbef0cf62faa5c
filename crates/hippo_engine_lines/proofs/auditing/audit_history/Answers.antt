-- The flags are in the reply to the console.
use Rattle.std.proofs.Common.{refl}
use Rattle.hippo_engine_lines.proofs.AuditingLemmas.{Carries-does}
use Rattle.hippo_engine_lines.proofs.auditing.audit_history.Goals as goal

pub returns-clause-carries : goal.returns-clause-carries
returns-clause-carries g c = λ command does.
    Carries-does command c.args.audit c.args.engine.now
    (record { state = c.args.engine.now.state; world = c.args.engine.now.world; reply = c.tell_flags.new.reply })
    (g.P.Keeper.state c.args.keeper.now) (g.P.Keeper.state c.tell_flags.new.keeper) c.args.steps.now c.tell_flags.new.steps
    c.tell_flags.result c.requires.at_work does refl refl (rw c.into_inner.ensures at c.tell_flags.ensures.tells)
