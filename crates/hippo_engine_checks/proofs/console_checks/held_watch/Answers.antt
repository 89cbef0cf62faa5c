-- The watch exists, or the refusal is short.
use Rattle.std.proofs.Common.{◌≡◌, ◌<◌, ◌∙◌, ◌^◌, Err, arith, sym, subst, ℕ}
use Rattle.hippo_report.specs.declared.refusal.Refusal.TheVariants.{NoWatch}
use Rattle.hippo_report.specs.declared.speaker.Speaker.TheVariants.{Console}
use Rattle.hippo_engine_checks.specs.Checks.{held_watch}
use Rattle.hippo_engine_checks.proofs.FindingLemmas.{watch_there, no_watch}
use Rattle.hippo_engine_checks.proofs.LengthLemmas.{no_watch_fits}
use Rattle.hippo_engine_checks.proofs.console_checks.held_watch.Goals as goal

pub returns-then-has_watch-clause-found : goal.returns-then-has_watch-clause-found
returns-then-has_watch-clause-found g c = sym (watch_there (g.W.WorldView.seen c.args.world.now) c.args.number (sym c.has_watch.ensures ∙ c.if-has_watch.true))

pub returns-else-has_watch-clause-found : goal.returns-else-has_watch-clause-found
returns-else-has_watch-clause-found g c =
    sym (subst (λ (n : ℕ). held_watch (g.W.WorldView.seen c.args.world.now) c.args.number ≡ Err (NoWatch n)) (sym c.from.ensures)
    (no_watch (g.W.WorldView.seen c.args.world.now) c.args.number (sym c.has_watch.ensures ∙ c.if-has_watch.false)))

pub returns-else-has_watch-clause-fits : goal.returns-else-has_watch-clause-fits
returns-else-has_watch-clause-fits g c =
    let small : c.from.result < 2 ^ 64 = omega (arith, c.from.ensures, c.ranges.number.fits) in
    no_watch_fits Console c.from.result tt small
