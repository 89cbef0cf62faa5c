-- A command that is refused adds nothing.
use Rattle.std.proofs.Common.{◌≡◌, ◌⊎◌, ◌∙◌, ◌≤◌, inl, inr, refl, sym, ap, subst, Bool, length, true, false}
use Rattle.hippo_values.specs.Texts.{Txt}
use Rattle.hippo_model.specs.Terms.{History}
use Rattle.hippo_replay.specs.Standing.{Represents}
use Rattle.hippo_report.specs.declared.speaker.Speaker.{Speaker}
use Rattle.hippo_report.specs.declared.refusal.Refusal.{Refusal}
use Rattle.hippo_report.specs.declared.refusal.Refusal.TheVariants as refusals
use Rattle.hippo_report.specs.Refusals.{refusal_line}
use Rattle.hippo_engine_world.specs.declared.worlds.World.{World as HeldWorld}
use Rattle.hippo_engine_sessions.specs.Worlds.{World}
use Rattle.hippo_engine_world.specs.Holding.{world_of}
use Rattle.hippo_stmt_lines.specs.Commands.{Command, who_commands}
use Rattle.hippo_engine.specs.declared.engine.Engine.{Engine}
use Rattle.hippo_engine.specs.Carrying.{IsQuiet}
use Rattle.hippo_engine_lines.specs.Performing.{SaysRefusal}
use Rattle.hippo_engine_checks.specs.Findings.{IsRefused, may_do_nothing}
use Rattle.hippo_engine_checks.specs.Checks.{Refuses, reply_room}
use Rattle.hippo_engine_rules.specs.Effects.{only_reply, IsEffect}
use Rattle.hippo_engine_checks.specs.Judging.{judged}
use Rattle.hippo_engine_rules.proofs.ShortLemmas.{short, refused}

-- a command that is refused adds nothing
pub quiet_refusal : (command : Command) (who : Speaker) (refusal : Refusal) (old new : Engine) → who ≡ who_commands command → IsRefused command refusal old.state (world_of old.world)
    → new.state ≡ old.state → new.world ≡ old.world → SaysRefusal who refusal new.reply → IsQuiet command old new
quiet_refusal command who refusal old new who_is is state_is world_is says = record {
  same = state_is;
  effect = λ history stands.
      subst (λ (w : World). IsEffect history (world_of old.world) command (only_reply w new.reply)) (ap world_of (sym world_is))
      (by_memory (may_do_nothing command) refl history stands);
  audits = record { jobs = ap (λ (held : HeldWorld). held.jobs) world_is; watches = ap (λ (held : HeldWorld). held.watches) world_is };
}
  where
    as_said : (history : History) (other : Refusal) → new.reply ≡ refusal_line who other
        → IsEffect history (world_of old.world) command (only_reply (world_of old.world) (refusal_line (who_commands command) other))
        → IsEffect history (world_of old.world) command (only_reply (world_of old.world) new.reply)
    as_said history other told effect =
        subst (λ (reply : Txt). IsEffect history (world_of old.world) command (only_reply (world_of old.world) reply))
        (ap (λ (one : Speaker). refusal_line one other) (sym who_is) ∙ sym told) effect

    replied : (history : History) → may_do_nothing command ≡ true → Refuses (judged history (world_of old.world) command) refusal
        → (new.reply ≡ refusal_line who refusal) ⊎ (new.reply ≡ refusal_line who refusals.Memory)
        → IsEffect history (world_of old.world) command (only_reply (world_of old.world) new.reply)
    replied history takes (inl so) (inl told) = as_said history refusal told (refused history (world_of old.world) command refusal so)
    replied history takes (inr memory) (inl told) =
        as_said history refusals.Memory (told ∙ ap (refusal_line who) memory)
        (short history (world_of old.world) command takes)
    replied history takes why (inr told) = as_said history refusals.Memory told (short history (world_of old.world) command takes)

    by_memory : (takes : Bool) → may_do_nothing command ≡ takes → (history : History) → Represents old.state history
        → IsEffect history (world_of old.world) command (only_reply (world_of old.world) new.reply)
    by_memory true takes history stands = replied history takes (is.refuses history stands) says.0
    by_memory false none history stands =
        as_said history refusal (says.1 (subst (λ (one : Speaker). length (refusal_line one refusal) ≤ reply_room) (sym who_is) (is.short none)))
        (refused history (world_of old.world) command refusal (is.exact none history stands))
