-- An audit of all queries that were asked so far: what it finds, and its reply.
use Rattle.std.specs.Prelude.{◌≡◌, ◌≢◌, ◌⊎◌, ◌≤◌, ℕ, ◌+◌, true, false, List, map, length, Result, Ok, Err, IfOk, OnOk}
use Rattle.hippo_values.specs.Texts.{Txt}
use Rattle.hippo_model.specs.declared.audit.Audit.{Audit}
use Rattle.hippo_model.specs.declared.audit.Flag.{Flag}
use Rattle.hippo_model.specs.Audits.{flags_between}
use Rattle.hippo_model.specs.StoredForms.{stored}
use Rattle.hippo_model.specs.Terms.{History}
use Rattle.hippo_model.specs.Versions.{versions}
use Rattle.hippo_keeper.specs.Keeping.{KeeperState, IsAfterCall, KeepsSame}
use Rattle.hippo_typing.specs.Meanings.{meaning}
use Rattle.hippo_backlog.specs.Calls.{reading_as_call}
use Rattle.hippo_backlog.specs.declared.faults.ReadFault.{ReadFault}
use Rattle.hippo_backlog.specs.declared.faults.ReadFault.TheVariants.{Keeper, Damaged, Memory}
use Rattle.hippo_audit_job.specs.Examining.{IsAuditOf}
use Rattle.hippo_replay.specs.declared.state.State.{State}
use Rattle.hippo_replay.specs.Standing.{Represents}
use Rattle.hippo_report.specs.declared.speaker.Speaker.TheVariants.{Console}
use Rattle.hippo_report.specs.declared.format.Format.{Format}
use Rattle.hippo_report.specs.declared.refusal.Refusal.TheVariants as refusals
use Rattle.hippo_report_flags.specs.Flags.{flag_line}
use Rattle.hippo_report.specs.Refusals.{refusal_line}
use Rattle.hippo_engine_rules.specs.declared.faults.EngineFault.{EngineFault}
use Rattle.hippo_engine_rules.specs.declared.faults.EngineFault.TheVariants as engine
use Rattle.hippo_engine_rules.specs.Effects.{lines_and_count}

-- the result is the flags of an audit over a history, or memory ran out, or the keeper failed; it
-- takes at most one step for each version
pub record HasFlags (history : History) (audit : Audit) (result : Result (List Flag) ReadFault)
    (steps steps' : ℕ)
    : Type 0 where
  pub flags_are : IfOk result (λ flags. flags
      ≡ flags_between meaning history audit 0 (length history))
  pub few : steps' ≤ steps + versions history
  pub undamaged : (number : ℕ) → result ≢ Err (Damaged number)

-- the effect of finding the flags of an audit
pub record FindsFlags (audit : Audit) (state : State) (result : Result (List Flag) ReadFault)
    (before after : KeeperState) (steps steps' : ℕ) : Type 0 where
  pub call : IsAfterCall true false (reading_as_call result) before after
  pub stays : after.tells → KeepsSame before after
  pub told : after.tells → (history : History) → map stored history ≡ before.kept
      → Represents state history
      → IsAuditOf history audit → HasFlags history audit result steps steps'

-- the result of a line whose reading failed: it was carried out when out of memory; otherwise the
-- keeper failed, or returned data that it did not keep
abbrev pub unread_end : ReadFault → Result (Unit {0}) EngineFault
unread_end Keeper = Err engine.Keeper
unread_end (Damaged number) = Err (engine.Damaged number)
unread_end Memory = Ok tt

abbrev pub reading_end : {A : Type 0} → Result A ReadFault → Result (Unit {0}) EngineFault
reading_end (Ok found) = Ok tt
reading_end (Err fault) = unread_end fault

-- the reply with the flags, if no fault of the keeper ended the reading
abbrev pub told_flags : Format → Result (List Flag) ReadFault → Txt
told_flags format (Ok flags) = lines_and_count 0 (flag_line format) flags
told_flags format (Err fault) = refusal_line Console refusals.Memory

-- the flags of an audit are found and listed in the reply, or memory ran out
pub record TellsFlags (format : Format) (audit : Audit) (state : State)
    (result : Result (Unit {0}) EngineFault)
    (reply : Txt) (before after : KeeperState) (steps steps' : ℕ) : Type 0 where
  pub found : Result (List Flag) ReadFault
  pub finds : FindsFlags audit state found before after steps steps'
  pub ended_so : result ≡ reading_end found
  pub said : OnOk result ((reply ≡ told_flags format found)
      ⊎ (reply ≡ refusal_line Console refusals.Memory))
