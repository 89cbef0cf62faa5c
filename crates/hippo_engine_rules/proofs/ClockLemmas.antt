-- The clock never goes back.
use Rattle.std.proofs.Common.{◌≡◌, ◌∙◌, inl, inr, refl, sym, ap, subst, arith, ℕ, ℤ, Bool, true, false, Option, Some, None, Ok, Err, if◌then◌else◌}
use Rattle.std.specs.Prelude.{int_le, int_lt, nat_lt, length, ok_or}
use Rattle.std.proofs.lemmas.Int.{ints}
use Rattle.hippo_values.specs.declared.moments.Moment.{Moment}
use Rattle.hippo_values.specs.Texts.{Txt}
use Rattle.hippo_values.specs.Results.{◌>>=◌}
use Rattle.hippo_model.specs.Terms.{History}
use Rattle.hippo_audit_job.specs.Jobs.{OpenAudit}
use Rattle.hippo_report.specs.declared.speaker.Speaker.{Speaker}
use Rattle.hippo_report.specs.declared.speaker.Speaker.TheVariants.{Nobody}
use Rattle.hippo_report.specs.declared.refusal.Refusal.TheVariants.{NoJob, MomentBack, Memory}
use Rattle.hippo_report.specs.Refusals.{refusal_line}
use Rattle.hippo_engine_sessions.specs.Worlds.{World, at_number}
use Rattle.hippo_stmt_lines.specs.Forms.{steps}
use Rattle.hippo_stmt_lines.specs.Commands.{Command, make_request, who_commands}
use Rattle.hippo_stmt_lines.specs.Commands as commands
use Rattle.hippo_engine_checks.specs.Checks.{Checked, refused_if, by_console}
use Rattle.hippo_engine_checks.specs.Deeds.{Deed}
use Rattle.hippo_engine_checks.specs.Deeds as deeds
use Rattle.hippo_engine_checks.specs.Judging.{judged}
use Rattle.hippo_engine_rules.specs.Effects.{Effect, row_limit, question_rows, deed_effect, judgement_effect, effect_of, IsOutOfMemory, IsEffect}
use Rattle.hippo_engine_rules.proofs.ShortLemmas.{IsPlain, plain}

pub int_le-refl : (moment : ℤ) → int_le moment moment ≡ true
int_le-refl moment = grind (arith, ints)

-- if the clock is not before `last`, a moment that is not before the clock is not before `last`
-- either
later : (last clock moment : ℤ) → int_le last clock ≡ true → int_lt moment clock ≡ false → int_le last moment ≡ true
later last clock moment timely not_before = grind (arith, ints)

pub either_clock : (test : Bool) (world other : World) → other.clock ≡ world.clock → (if test then world else other).clock ≡ world.clock
either_clock true world other same = refl
either_clock false world other same = same

-- what is done leaves the clock unchanged, unless it sets it
done_clock : (history : History) (world : World) (deed : Deed) → IsPlain (Ok deed) → (deed_effect history world deed).world.clock ≡ world.clock
done_clock history world (deeds.set_clock moment) none = absurd none
done_clock history world (deeds.step_job number job count) none = absurd none
done_clock history world (deeds.open_cursor session number question) none =
    either_clock (nat_lt row_limit (length (question_rows history world question))) world _ refl
done_clock history world deed none = refl

carried_clock : (history : History) (world : World) (who : Speaker) (judgement : Checked Deed) → IsPlain judgement → (judgement_effect history world who judgement).world.clock ≡ world.clock
carried_clock history world who (Ok deed) none = done_clock history world deed none
carried_clock history world who (Err refusal) none = refl

stepped_clock : (history : History) (world : World) (who : Speaker) (number count : ℕ) (console : Checked (Unit {0})) (held : Option OpenAudit)
    → (judgement_effect history world who (console >>= λ console. ok_or held (NoJob number) >>= λ job. Ok (deeds.step_job number job count))).world.clock ≡ world.clock
stepped_clock history world who number count (Err refusal) held = refl
stepped_clock history world who number count (Ok console) None = refl
stepped_clock history world who number count (Ok console) (Some job) = refl

set_forward : (history : History) (world : World) (last moment : Moment) (before : Bool) → int_lt moment world.clock ≡ before → int_le last world.clock ≡ true
    → int_le last (judgement_effect history world Nobody (refused_if before (MomentBack world.clock) >>= λ later. Ok (deeds.set_clock moment))).world.clock ≡ true
set_forward history world last moment true is timely = timely
set_forward history world last moment false is timely = later last world.clock moment timely is

by_rules : (history : History) (world : World) (command : Command) (last : Moment) → int_le last world.clock ≡ true
    → int_le last (effect_of history world command).world.clock ≡ true
by_rules history world (commands.set_clock moment) last timely = set_forward history world last moment (int_lt moment world.clock) refl timely
by_rules history world (make_request who (steps number count)) last timely =
    ap (λ (moment : Moment). int_le last moment) (stepped_clock history world who number count (by_console who) (at_number world.jobs number)) ∙ timely
by_rules history world command last timely =
    ap (λ (moment : Moment). int_le last moment) (carried_clock history world (who_commands command) (judged history world command) (plain history world command refl)) ∙ timely

short_clock : (history : History) (world : World) (reply : Txt) (judgement : Checked Deed) (effect : Effect) → IsOutOfMemory history world reply judgement effect → effect.world.clock ≡ world.clock
short_clock history world reply (Ok (deeds.answer_question question)) effect is = ap (λ (w : World). w.clock) is.same
short_clock history world reply (Ok (deeds.open_cursor session number question)) effect is = ap (λ (w : World). w.clock) is.same
short_clock history world reply (Ok (deeds.extract question)) effect is = ap (λ (w : World). w.clock) is.same
short_clock history world reply (Ok (deeds.step_job number job count)) effect is = ap (λ (e : Effect). e.world.clock) is.is
short_clock history world reply judgement effect is = ap (λ (e : Effect). e.world.clock) is

-- if the clock is not before a moment, a command keeps it so
pub clock_rises : (history : History) (world : World) (command : Command) (effect : Effect) (last : Moment) → IsEffect history world command effect → int_le last world.clock ≡ true
    → int_le last effect.world.clock ≡ true
clock_rises history world command effect last (inl is) timely =
    subst (λ (e : Effect). int_le last e.world.clock ≡ true) (sym is) (by_rules history world command last timely)
clock_rises history world command effect last (inr (takes, is)) timely =
    ap (λ (moment : Moment). int_le last moment) (short_clock history world (refusal_line (who_commands command) Memory) (judged history world command) effect is) ∙ timely
