-- From the meaning of an audit expression, and the flags of all queries that were asked, to what
-- DURING does.
use Rattle.std.proofs.Common.{◌≡◌, ◌≢◌, ◌∙◌, ◌⊎◌, ℕ, refl, sym, ap, subst, inl, inr, true, false, List, [], length, Result, Ok, Err}
use Rattle.std.specs.Prelude.{OnOk, IfOk}
use Rattle.std.proofs.lemmas.Bool.{false≢true}
use Rattle.hippo_values.specs.Texts.{Txt}
use Rattle.hippo_model.specs.declared.audit.Audit.{Audit}
use Rattle.hippo_model.specs.declared.audit.Flag.{Flag}
use Rattle.hippo_stmt_ast.specs.declared.statement.RawAudit.{RawAudit}
use Rattle.hippo_stmt_ast.specs.declared.statement.Stmt.TheVariants as stmt
use Rattle.hippo_model.specs.Audits.{flags_between}
use Rattle.hippo_model.specs.Terms.{History}
use Rattle.hippo_keeper.specs.Answering.{has_failed}
use Rattle.hippo_keeper.specs.Keeping.{KeeperState}
use Rattle.hippo_typing.specs.Meanings.{meaning}
use Rattle.hippo_stmt_lines.specs.Commands.{Command, make_statement, who_commands}
use Rattle.hippo_backlog.specs.Calls as reads
use Rattle.hippo_backlog.specs.declared.faults.ReadFault.{ReadFault}
use Rattle.hippo_backlog.specs.declared.faults.ReadFault.TheVariants.{Keeper, Damaged, Memory}
use Rattle.hippo_keeper.proofs.CallLemmas.{IsAfterCall-as}
use Rattle.hippo_audit_job.specs.Examining.{IsAuditOf}
use Rattle.hippo_replay.specs.Standing.{Represents}
use Rattle.hippo_report.specs.declared.speaker.Speaker.{Speaker}
use Rattle.hippo_report.specs.declared.speaker.Speaker.TheVariants.{Console}
use Rattle.hippo_report.specs.declared.format.Format.{Format}
use Rattle.hippo_report.specs.declared.refusal.Refusal.{Refusal}
use Rattle.hippo_report.specs.declared.refusal.Refusal.TheVariants as refusals
use Rattle.hippo_report_flags.specs.Flags.{flag_line}
use Rattle.hippo_report.specs.Refusals.{refusal_line}
use Rattle.hippo_engine_world.specs.declared.worlds.World.{World as HeldWorld}
use Rattle.hippo_engine_sessions.specs.Worlds.{World}
use Rattle.hippo_engine_world.specs.Holding.{world_of, JobsFit, WatchesFit, tallies_of}
use Rattle.hippo_engine.specs.declared.engine.Engine.{Engine}
use Rattle.hippo_engine_rules.specs.declared.faults.EngineFault.{EngineFault}
use Rattle.hippo_engine_rules.specs.declared.faults.EngineFault.TheVariants as engine
use Rattle.hippo_engine_audits.specs.Auditing.{reading_end, told_flags, TellsFlags}
use Rattle.hippo_engine.specs.Carrying.{AtWork, line_as_call, is_carried, Carries}
use Rattle.hippo_engine_checks.specs.Findings.{IsJudged, Does, may_do_nothing}
use Rattle.hippo_engine_checks.specs.declared.deeds.Deed.TheVariants as kinds
use Rattle.hippo_engine_checks.specs.Checks.{Checked}
use Rattle.hippo_engine_checks.specs.Deeds.{Deed}
use Rattle.hippo_engine_checks.specs.Deeds as deeds
use Rattle.hippo_engine_rules.specs.Effects.{Effect, only_reply, effect_of, audit_effect, lines_and_count, IsEffect}
use Rattle.hippo_engine_checks.specs.Judging.{judged}
use Rattle.hippo_engine_rules.specs.Ledgers.{at_once}
use Rattle.hippo_engine_lines.proofs.LookingLemmas.{Carries-looked}
use Rattle.hippo_engine_rules.proofs.ShortLemmas.{short, done_for}

-- the line fails exactly when its keeper's calls did
pub ended_same : {A : Type 0} (found : Result A ReadFault) → has_failed (line_as_call (reading_end found)) ≡ has_failed (reads.reading_as_call found)
ended_same (Ok flags) = refl
ended_same (Err Keeper) = refl
ended_same (Err (Damaged number)) = refl
ended_same (Err Memory) = refl

module _ (history : History) (world : World) (command : Command) (audit : Audit) (takes : may_do_nothing command ≡ true) (who : who_commands command ≡ Console)
    (judged_is : judged history world command ≡ Ok (deeds.audit audit)) where
  done_so : effect_of history world command ≡ audit_effect history world audit
  done_so = done_for history world command (deeds.audit audit) judged_is

  short_of_memory : IsEffect history world command (only_reply world (refusal_line Console refusals.Memory))
  short_of_memory = subst (λ (one : Speaker). IsEffect history world command (only_reply world (refusal_line one refusals.Memory))) who (short history world command takes)

  -- what was found has its effect
  effect_found : (found : Result (List Flag) ReadFault) (reply : Txt) → IfOk found (λ flags. flags ≡ flags_between meaning history audit 0 (length history))
      → is_carried (reading_end found) ≡ true → reply ≡ told_flags world.format found → IsEffect history world command (only_reply world reply)
  effect_found (Ok flags) reply flags_are fine said =
      inl (ap (only_reply world) (said ∙ ap (lines_and_count 0 (flag_line world.format)) flags_are) ∙ sym done_so)
  effect_found (Err Keeper) reply flags_are fine said = absurd (false≢true fine)
  effect_found (Err (Damaged number)) reply flags_are fine said = absurd (false≢true fine)
  effect_found (Err Memory) reply flags_are fine said = subst (λ (r : Txt). IsEffect history world command (only_reply world r)) (sym said) short_of_memory

  adds_none : (effect_of history world command).added ≡ []
  adds_none = ap (λ (e : Effect). e.added) done_so

  unrefused : (refusal : Refusal) → judged history world command ≡ Err refusal → ⊥
  unrefused refusal refuses = let both : ◌≡◌ {A = Checked Deed} (Ok (deeds.audit audit)) (Err refusal) = sym judged_is ∙ refuses in absurd cc

pub undamaged_end : {A : Type 0} (found : Result A ReadFault) (number : ℕ) → ((other : ℕ) → found ≢ Err (Damaged other)) → reading_end found ≢ Err (engine.Damaged number)
undamaged_end (Ok flags) number fine e = absurd cc
undamaged_end (Err Keeper) number fine e = absurd cc
undamaged_end (Err (Damaged other)) number fine e = fine other refl
undamaged_end (Err Memory) number fine e = absurd cc

carried_said : (found : Result (List Flag) ReadFault) (said : Type 0) → is_carried (reading_end found) ≡ true → OnOk (reading_end found) said → said
carried_said (Ok flags) said fine is = is
carried_said (Err Keeper) said fine is = absurd (false≢true fine)
carried_said (Err (Damaged number)) said fine is = absurd (false≢true fine)
carried_said (Err Memory) said fine is = is

abbrev IsSaid : Format → Result (List Flag) ReadFault → Txt → Type 0
IsSaid format found reply = (reply ≡ told_flags format found) ⊎ (reply ≡ refusal_line Console refusals.Memory)

-- DURING at the console
module _ (text : Txt) (written : RawAudit) (audit : Audit) (old new : Engine) (before after : KeeperState) (steps steps' : ℕ) where
  abbrev audits : Command
  audits = make_statement Console (stmt.Audit written) text

  pub Carries-audit_effect : (result : Result (Unit {0}) EngineFault) → AtWork old before → IsJudged audits old.state (world_of old.world) (Ok (deeds.audit audit))
      → ((history : History) → Represents old.state history → IsAuditOf history audit)
      → new.state ≡ old.state → new.world ≡ old.world → TellsFlags old.world.format audit old.state result new.reply before after steps steps'
      → Carries audits result old new before after steps steps'
  Carries-audit_effect result at_work does audit_is same_state same_world tells =
      subst (λ (r : Result (Unit {0}) EngineFault). Carries audits r old new before after steps steps') (sym tells.ended_so)
      (Carries-looked audits (reading_end tells.found) old new before after steps steps' refl at_work same_state (ap (λ (held : HeldWorld). held.clock) same_world)
      (IsAfterCall-as true false (reads.reading_as_call tells.found) (line_as_call (reading_end tells.found)) before after (ended_same tells.found) tells.finds.call)
      tells.finds.stays
      (λ told history holds.
      let world : World = world_of old.world in
      let is : judged history world audits ≡ Ok (deeds.audit audit) = does history holds.stands in
      let done = tells.finds.told told history holds.forms holds.stands (audit_is history holds.stands) in
      record {
        effect = λ fine.
            subst (λ (w : World). IsEffect history world audits (only_reply w new.reply)) (ap world_of (sym same_world))
            (either history is done.flags_are fine (carried_said tells.found (IsSaid old.world.format tells.found new.reply) fine
            (subst (λ (r : Result (Unit {0}) EngineFault). OnOk r (IsSaid old.world.format tells.found new.reply)) tells.ended_so tells.said)));
        jobs = subst (JobsFit history) (sym same_world) holds.jobs;
        watches = subst (WatchesFit history) (sym same_world) holds.watches;
        counts = λ fine. at_once refl done.few (ap tallies_of same_world);
        refused = λ refusal refuses others. absurd (unrefused history world audits audit refl refl is refusal refuses);
        adds = adds_none history world audits audit refl refl is;
        undamaged = λ number e. undamaged_end tells.found number done.undamaged e;
      }))
    where
      either : (history : History) → judged history (world_of old.world) audits ≡ Ok (deeds.audit audit) → IfOk tells.found (λ flags. flags ≡ flags_between meaning history audit 0 (length history))
          → is_carried (reading_end tells.found) ≡ true → (new.reply ≡ told_flags old.world.format tells.found) ⊎ (new.reply ≡ refusal_line Console refusals.Memory)
          → IsEffect history (world_of old.world) audits (only_reply (world_of old.world) new.reply)
      either history is flags fine (inl said) = effect_found history (world_of old.world) audits audit refl refl is tells.found new.reply flags fine said
      either history is flags fine (inr said) =
          subst (λ (r : Txt). IsEffect history (world_of old.world) audits (only_reply (world_of old.world) r)) (sym said) (short_of_memory history (world_of old.world) audits audit refl refl is)

pub Carries-does : (command : Command) (audit : Audit) (old new : Engine) (before after : KeeperState) (steps steps' : ℕ) (result : Result (Unit {0}) EngineFault) → AtWork old before
    → Does command (kinds.Audit audit) old.state (world_of old.world) → new.state ≡ old.state → new.world ≡ old.world → TellsFlags old.world.format audit old.state result new.reply before after steps steps'
    → Carries command result old new before after steps steps'
Carries-does command audit old new before after steps steps' result at_work ((written, text, is), means, does) same_state same_world tells =
    subst (λ (c : Command). Carries c result old new before after steps steps') (sym is)
    (Carries-audit_effect text written audit old new before after steps steps' result at_work
    (subst (λ (c : Command). IsJudged c old.state (world_of old.world) (Ok (deeds.audit audit))) is does) means.fits same_state same_world tells)
