-- A statement of a session that asks nothing is refused.
use Rattle.std.proofs.Common.{refl}
use Rattle.hippo_report.specs.declared.speaker.Speaker.TheVariants.{Session}
use Rattle.hippo_engine_checks.proofs.FindingLemmas.{console_only}
use Rattle.hippo_engine_checks.proofs.statements.statement_of_session.Goals as goal

pub returns-in-None : goal.returns-in-None
returns-in-None g c = console_only (Session c.args.session) c.args.statement.now c.args.text.now c.args.state.now (g.W.WorldView.seen c.args.world.now) refl c.in-None.ensures
