-- A moment before the clock is refused, with a short refusal.
use Rattle.std.proofs.Common.{Ok, sym, subst, ap, ◌∙◌}
use Rattle.std.specs.Prelude.{Bool}
use Rattle.hippo_values.specs.Results.{◌>>=◌}
use Rattle.hippo_values.specs.declared.moments.Moment.{Moment}
use Rattle.hippo_report.specs.declared.refusal.Refusal.TheVariants.{MomentBack}
use Rattle.hippo_stmt_lines.specs.Commands as commands
use Rattle.hippo_engine_checks.specs.Checks.{refused_if}
use Rattle.hippo_engine_checks.specs.Deeds as deeds
use Rattle.hippo_engine_checks.specs.Findings.{IsRefused}
use Rattle.hippo_engine_checks.proofs.FindingLemmas.{refused_so}
use Rattle.hippo_engine_checks.proofs.LengthLemmas.{moment_back_fits}
use Rattle.hippo_report.specs.declared.speaker.Speaker.TheVariants.{Nobody}
use Rattle.hippo_engine_checks.proofs.requests.judge_clock.Goals as goal

pub returns-then-is_earlier : goal.returns-then-is_earlier
returns-then-is_earlier g c = λ state.
    let world = g.W.WorldView.seen c.args.world.now in
    let earlier = rw c.clock-clock.ensures at c.is_earlier.ensures in
    subst (λ (clock : Moment). IsRefused (commands.set_clock c.args.moment) (MomentBack clock) state world) (sym c.clock-clock.ensures)
    (refused_so (commands.set_clock c.args.moment) (MomentBack world.clock) state world
    (λ history stands. ap (λ (b : Bool). refused_if b (MomentBack world.clock) >>= λ _. Ok (deeds.set_clock c.args.moment)) (sym earlier ∙ c.if-is_earlier.true))
    (moment_back_fits Nobody world.clock tt))
