use Rattle.std.proofs.Common.{◌<◌, ◌^◌, arith}
use Rattle.hippo_report.specs.declared.speaker.Speaker.TheVariants.{Session}
use Rattle.hippo_engine_checks.proofs.LengthLemmas.{no_cursor_fits}
use Rattle.hippo_engine_checks.proofs.session_checks.held_cursor.Goals as goal

pub returns-in-None-clause-fits : goal.returns-in-None-clause-fits
returns-in-None-clause-fits c =
    let small : c.from-in-None.result < 2 ^ 64 = omega (arith, c.from-in-None.ensures, c.ranges.cursor.fits) in
    no_cursor_fits (Session c.args.number) c.from-in-None.result (omega (arith, c.ranges.number.fits)) small
