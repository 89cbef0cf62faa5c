use Rattle.std.proofs.Common.{arith}
use Rattle.hippo_report.specs.declared.speaker.Speaker.TheVariants.{Session}
use Rattle.hippo_engine_checks.proofs.LengthLemmas.{no_session_fits}
use Rattle.hippo_engine_checks.proofs.session_checks.open_session.Goals as goal

pub returns-in-None-clause-fits : goal.returns-in-None-clause-fits
returns-in-None-clause-fits g c = no_session_fits (Session c.args.number) (omega (arith, c.ranges.number.fits))
