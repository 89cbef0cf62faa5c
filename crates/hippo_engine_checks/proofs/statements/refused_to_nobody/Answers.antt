-- If nobody speaks, a question is refused as to the console, and any other statement as to a
-- session.
use Rattle.std.proofs.Common.{refl}
use Rattle.hippo_report.specs.declared.speaker.Speaker.TheVariants.{Nobody}
use Rattle.hippo_engine_checks.proofs.FindingLemmas.{console_only, sessions_only}
use Rattle.hippo_engine_checks.proofs.statements.refused_to_nobody.Goals as goal

pub returns-in-Some : goal.returns-in-Some
returns-in-Some c = λ text state world. sessions_only Nobody c.args.statement.now c.in-Some.field-0 text state world refl c.in-Some.ensures

pub returns-in-None : goal.returns-in-None
returns-in-None c = λ text state world. console_only Nobody c.args.statement.now text state world refl c.in-None.ensures
