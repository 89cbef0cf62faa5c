-- The job exists, or the refusal is short.
use Rattle.std.proofs.Common.{◌≡◌, ◌<◌, ◌∙◌, ◌^◌, Err, arith, sym, subst, ℕ}
use Rattle.hippo_report.specs.declared.refusal.Refusal.TheVariants.{NoJob}
use Rattle.hippo_report.specs.declared.speaker.Speaker.TheVariants.{Console}
use Rattle.hippo_engine_checks.specs.Checks.{job_at}
use Rattle.hippo_engine_checks.proofs.FindingLemmas.{job_there, no_job}
use Rattle.hippo_engine_checks.proofs.LengthLemmas.{no_job_fits}
use Rattle.hippo_engine_checks.proofs.console_checks.check_job.Goals as goal

pub returns-then-has_job-clause-found : goal.returns-then-has_job-clause-found
returns-then-has_job-clause-found g c = job_there (g.W.WorldView.seen c.args.world.now) c.args.number (sym c.has_job.ensures ∙ c.if-has_job.true)

pub returns-else-has_job-clause-found : goal.returns-else-has_job-clause-found
returns-else-has_job-clause-found g c =
    subst (λ (n : ℕ). job_at (g.W.WorldView.seen c.args.world.now) c.args.number ≡ Err (NoJob n)) (sym c.from.ensures)
    (no_job (g.W.WorldView.seen c.args.world.now) c.args.number (sym c.has_job.ensures ∙ c.if-has_job.false))

pub returns-else-has_job-clause-fits : goal.returns-else-has_job-clause-fits
returns-else-has_job-clause-fits g c =
    let small : c.from.result < 2 ^ 64 = omega (arith, c.from.ensures, c.ranges.number.fits) in
    no_job_fits Console c.from.result tt small
