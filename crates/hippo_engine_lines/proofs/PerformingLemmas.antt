-- From the judgement on a command, and from performing or refusing it, to what carrying it out
-- does.
use Rattle.std.proofs.Common.{◌≡◌, ◌∙◌, ℕ, refl, sym, subst, Option, Some, Result, Ok, Err, true, false}
use Rattle.hippo_model.specs.declared.entry.Entry.{Entry}
use Rattle.hippo_keeper.specs.Answering.{has_failed}
use Rattle.hippo_keeper.specs.Keeping.{KeeperState, IsAfterCall, KeepsSame}
use Rattle.hippo_keeper.proofs.CallLemmas.{IsReady-after}
use Rattle.hippo_backlog.specs.Calls as reads
use Rattle.hippo_backlog.specs.declared.faults.ReadFault.{ReadFault}
use Rattle.hippo_report.specs.declared.speaker.Speaker.{Speaker}
use Rattle.hippo_engine_world.specs.Holding.{world_of}
use Rattle.hippo_stmt_lines.specs.Commands.{Command, who_commands}
use Rattle.hippo_engine_checks.specs.declared.deeds.Deed.{Deed}
use Rattle.hippo_engine_checks.specs.declared.deeds.Deed.TheVariants as kinds
use Rattle.hippo_engine_checks.specs.declared.deeds.Unjudged.{Unjudged}
use Rattle.hippo_engine_checks.specs.declared.deeds.Unjudged.TheVariants.{Refused, NoQuestion, Unread}
use Rattle.hippo_engine_checks.specs.Findings.{Judges, reads_nothing}
use Rattle.hippo_engine.specs.declared.engine.Engine.{Engine}
use Rattle.hippo_engine_rules.specs.declared.faults.EngineFault.{EngineFault}
use Rattle.hippo_engine.specs.Carrying.{AtWork, Carries}
use Rattle.hippo_engine_lines.specs.Performing.{Needs, Performs, SaysUnjudged}
use Rattle.hippo_engine.proofs.CarryingLemmas.{Carries-quiet}
use Rattle.hippo_engine_lines.proofs.RefusalLemmas.{quiet_refusal}
use Rattle.hippo_engine_lines.proofs.ExplainingLemmas.{Carries-told, Carries-unasked, Carries-unread}

module _ (command : Command) (old new : Engine) (before between after : KeeperState) (start steps steps' : ℕ) (at_work : AtWork old before) where
  -- nothing was read for the deed that was performed
  still_carries : (result : Result (Unit {0}) EngineFault) → between ≡ before → steps ≡ start → Carries command result old new between after steps steps' → Carries command result old new before after start steps'
  still_carries result same idle carries =
      subst (λ (k : KeeperState). Carries command result old new k after start steps') same
      (subst (λ (n : ℕ). Carries command result old new between after n steps') idle carries)

  -- a command is judged, and its deed is performed
  pub Carries-performed : (deed : Deed) (result : Result (Unit {0}) EngineFault) → Judges command (Ok deed) old.state (world_of old.world) before between start steps
      → (reads_nothing (Ok deed) ≡ true → between ≡ before) → (reads_nothing (Ok deed) ≡ true → steps ≡ start) → Performs deed result old new between after steps steps'
      → Carries command result old new before after start steps'
  Carries-performed (kinds.Explain entry) result (number, looks) same idle performs = Carries-told command number entry result old new before between after start steps steps' at_work looks performs
  Carries-performed deed result does same idle performs = still_carries result (same refl) (idle refl) (performs command does)

-- or the reason for not doing it is in the reply
pub Carries-refused : (command : Command) (who : Speaker) (unjudged : Unjudged) (result : Result (Unit {0}) EngineFault) (old new : Engine) (before after : KeeperState) (steps steps' : ℕ)
    → who ≡ who_commands command → AtWork old before → Judges command (Err unjudged) old.state (world_of old.world) before after steps steps'
    → (reads_nothing (Err unjudged) ≡ true → after ≡ before) → (reads_nothing (Err unjudged) ≡ true → steps' ≡ steps) → SaysUnjudged who unjudged result old new
    → Carries command result old new before after steps steps'
Carries-refused command who (Refused refusal) result old new before after steps steps' who_is at_work refuses same idle says =
    subst (λ (r : Result (Unit {0}) EngineFault). Carries command r old new before after steps steps') (sym says.says.0)
    (subst (λ (k : KeeperState). Carries {A = Unit {0}} command (Ok tt) old new before k steps steps') (sym (same refl))
    (subst (λ (n : ℕ). Carries {A = Unit {0}} command (Ok tt) old new before before steps n) (sym (idle refl))
    (Carries-quiet command old new before steps at_work (quiet_refusal command who refusal old new who_is refuses says.state says.world says.says.1))))
Carries-refused command who (NoQuestion number) result old new before after steps steps' who_is at_work looks same idle says =
    subst (λ (r : Result (Unit {0}) EngineFault). Carries command r old new before after steps steps') (sym says.says.0)
    (Carries-unasked command number old new before after steps steps' at_work looks says.state says.world says.says.1.0)
Carries-refused command who (Unread fault) result old new before after steps steps' who_is at_work (number, looks) same idle says =
    Carries-unread command number fault result old new before after steps steps' at_work looks says.state says.world says.says.0 says.says.1

-- looking up keeps an engine ready for a command
AtWork-looked : (engine : Engine) (result : Result (Option Entry) ReadFault) (before after : KeeperState) → AtWork engine before → has_failed (reads.reading_as_call result) ≡ false
    → IsAfterCall true false (reads.reading_as_call result) before after → (after.tells → KeepsSame before after) → AtWork engine after
AtWork-looked engine result before after at_work fine call stays = record {
  sound = at_work.sound;
  timely = at_work.timely;
  ready = IsReady-after (reads.reading_as_call result) before after fine call;
  told = λ tells.
      let holds = at_work.told (call.told tells) in
      (holds.0, record { forms = holds.1.forms ∙ sym (stays tells).same; stands = holds.1.stands; jobs = holds.1.jobs; watches = holds.1.watches });
}

-- a judged deed can be performed
pub AtWork-judged : (command : Command) (deed : Deed) (engine : Engine) (before after : KeeperState) (steps steps' : ℕ) → AtWork engine before
    → Judges command (Ok deed) engine.state (world_of engine.world) before after steps steps' → (reads_nothing (Ok deed) ≡ true → after ≡ before) → AtWork engine after
AtWork-judged command (kinds.Explain entry) engine before after steps steps' at_work (number, looks) same = AtWork-looked engine (Ok (Some entry)) before after at_work refl looks.looks.call looks.looks.stays
AtWork-judged command deed engine before after steps steps' at_work does same = subst (λ (k : KeeperState). AtWork engine k) (sym (same refl)) at_work

pub Needs-judged : (command : Command) (deed : Deed) (engine : Engine) (before after : KeeperState) (steps steps' : ℕ)
    → Judges command (Ok deed) engine.state (world_of engine.world) before after steps steps' → Needs deed engine
Needs-judged command (kinds.Explain entry) engine before after steps steps' looks = tt
Needs-judged command deed engine before after steps steps' does = (command, does)
