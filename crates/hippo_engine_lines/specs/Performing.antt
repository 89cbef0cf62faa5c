-- The effect of performing the deed that was judged for a command.
use Rattle.std.specs.Prelude.{◌≡◌, ◌≢◌, ◌⊎◌, ◌≤◌, ℕ, length, Some, Result, Ok, Err, OnOk}
use Rattle.hippo_values.specs.Texts.{Txt}
use Rattle.hippo_model.specs.declared.entry.Entry.{Entry}
use Rattle.hippo_keeper.specs.Keeping.{KeeperState}
use Rattle.hippo_audit_explain.specs.declared.faults.DenialsFault.TheVariants.{Read}
use Rattle.hippo_report.specs.declared.speaker.Speaker.{Speaker}
use Rattle.hippo_report.specs.declared.speaker.Speaker.TheVariants.{Console}
use Rattle.hippo_report.specs.declared.refusal.Refusal.{Refusal}
use Rattle.hippo_report.specs.declared.refusal.Refusal.TheVariants as refusals
use Rattle.hippo_report.specs.Refusals.{refusal_line}
use Rattle.hippo_stmt_lines.specs.Commands.{Command}
use Rattle.hippo_engine_checks.specs.declared.deeds.Deed.{Deed}
use Rattle.hippo_engine_checks.specs.declared.deeds.Deed.TheVariants as kinds
use Rattle.hippo_engine_checks.specs.declared.deeds.Unjudged.{Unjudged}
use Rattle.hippo_engine_checks.specs.declared.deeds.Unjudged.TheVariants.{Refused, NoQuestion, Unread}
use Rattle.hippo_engine_checks.specs.Checks.{reply_room}
use Rattle.hippo_engine_world.specs.Holding.{world_of}
use Rattle.hippo_engine_checks.specs.Findings.{Does}
use Rattle.hippo_engine.specs.declared.engine.Engine.{Engine}
use Rattle.hippo_engine_rules.specs.declared.faults.EngineFault.{EngineFault}
use Rattle.hippo_engine_rules.specs.declared.faults.EngineFault.TheVariants.{Write}
use Rattle.hippo_engine.specs.Carrying.{Carries}
use Rattle.hippo_engine_audits.specs.Explaining.{explaining_end, TellsEntry}

-- there is a command that asks for the deed
abbrev pub MayDo : Deed → Engine → Type 0
MayDo deed engine = (command : Command) × Does command deed engine.state (world_of engine.world)

-- what a deed requires: a command that asks for it; EXPLAIN requires nothing
abbrev pub Needs : Deed → Engine → Type 0
Needs (kinds.Explain entry) engine = Unit {0}
Needs deed engine = MayDo deed engine

-- the denied cells of an entry are in the reply, and nothing else changes
pub record Explained (entry : Entry) (result : Result (Unit {0}) EngineFault) (old new : Engine)
    (before after : KeeperState) (steps steps' : ℕ) : Type 0 where
  pub state : new.state ≡ old.state
  pub world : new.world ≡ old.world
  pub tells : TellsEntry entry old.state result new.reply before after steps steps'

-- the deed is done
abbrev pub Performs :
    Deed → Result (Unit {0}) EngineFault → Engine → Engine → KeeperState → KeeperState → ℕ → ℕ
    → Type 0
Performs (kinds.Explain entry) result old new before after steps steps' =
    Explained entry result old new before after steps steps'
Performs deed result old new before after steps steps' =
    (command : Command) → Does command deed old.state (world_of old.world)
    → Carries command result old new before after steps steps'

-- the reply is a refusal, or the out-of-memory refusal; a refusal of at most `reply_room` bytes is
-- never replaced
abbrev pub SaysRefusal : Speaker → Refusal → Txt → Type 0
SaysRefusal who refusal reply =
    ((reply ≡ refusal_line who refusal) ⊎ (reply ≡ refusal_line who refusals.Memory))
    × (length (refusal_line who refusal) ≤ reply_room → reply ≡ refusal_line who refusal)

-- the reply and the result of a command that is not carried out
abbrev pub SaysReason : Speaker → Unjudged → Result (Unit {0}) EngineFault → Txt → Type 0
SaysReason who (Refused refusal) result reply = (result ≡ Ok tt) × SaysRefusal who refusal reply
SaysReason who (NoQuestion number) result reply =
    (result ≡ Ok tt) × SaysRefusal Console (refusals.NoSuchQuery number) reply
SaysReason who (Unread fault) result reply =
    (result ≡ explaining_end (Err (Some (Read fault))))
    × OnOk result (reply ≡ refusal_line Console refusals.Memory)

-- and nothing else changes
pub record SaysUnjudged (who : Speaker) (unjudged : Unjudged)
    (result : Result (Unit {0}) EngineFault)
    (old new : Engine) : Type 0 where
  pub state : new.state ≡ old.state
  pub world : new.world ≡ old.world
  pub says : SaysReason who unjudged result new.reply

-- a command is carried out, and its reply is not written to the output yet
pub record CarriesUnwritten (command : Command) (result : Result (Unit {0}) EngineFault)
    (old new : Engine)
    (before after : KeeperState) (steps steps' : ℕ) : Type 0 where
  pub carries : Carries command result old new before after steps steps'
  pub unwritten : result ≢ Err Write
