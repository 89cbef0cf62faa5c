-- A deed that adds nothing to the history is done, or is refused because memory ran out.
use Rattle.std.proofs.Common.{◌≡◌, ◌∙◌, sym, ap, subst, inl, Ok, true}
use Rattle.hippo_model.specs.Terms.{History}
use Rattle.hippo_report.specs.declared.speaker.Speaker.{Speaker}
use Rattle.hippo_report.specs.declared.refusal.Refusal.TheVariants.{Memory}
use Rattle.hippo_report.specs.Refusals.{refusal_line}
use Rattle.hippo_engine_world.specs.declared.worlds.World.{World as HeldWorld}
use Rattle.hippo_engine_world.specs.Holding.{world_of, KeepsAudits}
use Rattle.hippo_stmt_lines.specs.Commands.{Command, who_commands}
use Rattle.hippo_engine_checks.specs.Deeds as deeds
use Rattle.hippo_engine_checks.specs.Findings.{IsJudged, may_do_nothing}
use Rattle.hippo_engine.specs.declared.engine.Engine.{Engine}
use Rattle.hippo_engine.specs.Carrying.{shown_effect, IsQuiet}
use Rattle.hippo_engine_rules.specs.Effects.{Effect, only_reply, deed_effect, IsEffect}
use Rattle.hippo_engine_rules.proofs.ShortLemmas.{short, done_for}

-- a deed that leaves state, jobs and watches unchanged is done
pub quiet_done : (command : Command) (deed : deeds.Deed) (old new : Engine) → IsJudged command old.state (world_of old.world) (Ok deed) → new.state ≡ old.state → KeepsAudits old.world new.world
    → ((history : History) → shown_effect new ≡ deed_effect history (world_of old.world) deed) → IsQuiet command old new
quiet_done command deed old new does same audits shows = record {
  same = same;
  effect = λ history stands. inl (shows history ∙ sym (done_for history (world_of old.world) command deed (does history stands)));
  audits = audits;
}

-- or memory ran out, and the reply says so
pub quiet_short : (command : Command) (who : Speaker) (old new : Engine) → who_commands command ≡ who → may_do_nothing command ≡ true → new.state ≡ old.state → new.world ≡ old.world
    → new.reply ≡ refusal_line who Memory → IsQuiet command old new
quiet_short command who old new of_who takes same world_is said = record {
  same = same;
  effect = λ history stands. subst (λ (effect : Effect). IsEffect history (world_of old.world) command effect) shown_is (short history (world_of old.world) command takes);
  audits = record { jobs = ap (λ (held : HeldWorld). held.jobs) world_is; watches = ap (λ (held : HeldWorld). held.watches) world_is };
}
  where
    line_is : refusal_line (who_commands command) Memory ≡ new.reply
    line_is = ap (λ (one : Speaker). refusal_line one Memory) of_who ∙ sym said

    shown_is : only_reply (world_of old.world) (refusal_line (who_commands command) Memory) ≡ shown_effect new
    shown_is = λ i. only_reply (world_of (sym world_is i)) (line_is i)
