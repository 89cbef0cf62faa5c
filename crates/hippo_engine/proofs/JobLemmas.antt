-- From the changes of the audit jobs that a run holds to the effect of the lines that begin and
-- drop them.
use Rattle.std.proofs.Common.{◌≡◌, ◌∙◌, ℕ, refl, sym, ap, subst, inl, true, List, length, Option, Some, None, Ok}
use Rattle.std.specs.Prelude.{codes, ok_or, option_map}
use Rattle.hippo_values.specs.Results.{◌>>=◌}
use Rattle.hippo_model.specs.declared.audit.Audit.{Audit}
use Rattle.hippo_model.specs.Terms.{History}
use Rattle.hippo_stmt_lines.specs.Forms as requests
use Rattle.hippo_stmt_lines.specs.Commands.{Command, make_request}
use Rattle.hippo_typing_laws.proofs.RefusalLemmas.{mapped}
use Rattle.hippo_audit_job.specs.Examining.{IsAuditOf}
use Rattle.hippo_audit_job.specs.Jobs.{OpenAudit, open_audit}
use Rattle.hippo_replay.specs.Standing.{Represents}
use Rattle.hippo_report.specs.declared.speaker.Speaker.TheVariants.{Console}
use Rattle.hippo_report.specs.declared.refusal.Refusal.TheVariants as refusals
use Rattle.hippo_report.specs.Notices.{done_line, number_line}
use Rattle.hippo_engine_world.specs.declared.worlds.World.{World as HeldWorld}
use Rattle.hippo_engine_sessions.specs.Tallies.{JobTally}
use Rattle.hippo_engine_world.specs.Auditing.{HeldJob, HasBegun, IsLooking, AreLooking, job_tally, job_tallies}
use Rattle.hippo_engine_world.specs.Holding.{world_of, WatchesFit, tallies_of}
use Rattle.hippo_engine_sessions.specs.Worlds.{at_number, with_at, free_number}
use Rattle.hippo_engine_sessions.proofs.HeldLemmas.{seen-at, seen-with, seen-free}
use Rattle.hippo_engine_world.proofs.AuditLemmas.{all_with, IsLooking-begun, tally-begun}
use Rattle.hippo_engine.specs.declared.engine.Engine.{Engine}
use Rattle.hippo_engine_checks.specs.Checks.{HasJob}
use Rattle.hippo_engine.specs.Carrying.{shown_effect, AddsNothing}
use Rattle.hippo_engine_checks.specs.Deeds as deeds
use Rattle.hippo_engine_rules.specs.Effects.{only_reply, with_job, new_open_audit}
use Rattle.hippo_engine.specs.Jobs.{BeginsAt}
use Rattle.hippo_engine_checks.specs.Judging.{judged}
use Rattle.hippo_engine_rules.specs.Ledgers.{begins_job, job_begun, job_dropped}
use Rattle.hippo_engine_checks.specs.Findings.{IsJudged, Does}
use Rattle.hippo_engine_checks.specs.declared.deeds.Deed.TheVariants as kinds
use Rattle.hippo_engine_rules.proofs.ShortLemmas.{done_for}

-- the world with another job at a number, as the definitions see it
pub world_with : (held : HeldWorld) (number : ℕ) (job : Option HeldJob) (jobs : List (Option HeldJob)) → jobs ≡ with_at held.jobs number job
    → world_of (record held { jobs = jobs }) ≡ with_job (world_of held) number (option_map open_audit job)
world_with held number job jobs is =
    ap (λ (list : List (Option HeldJob)). world_of (record held { jobs = list })) is
    ∙ ap (λ (list : List (Option OpenAudit)). record (world_of held) { jobs = list }) (seen-with open_audit held.jobs number job)

-- the tally of the job at a number, and the tallies after another job is put there
pub tally_there : (jobs : List (Option HeldJob)) (number : ℕ) (job : HeldJob) → at_number jobs number ≡ Some job → at_number (job_tallies jobs) number ≡ Some (job_tally job)
tally_there jobs number job is = seen-at job_tally jobs number ∙ ap (option_map job_tally) is

pub tallies_put : (jobs : List (Option HeldJob)) (number : ℕ) (job : Option HeldJob) (jobs' : List (Option HeldJob)) → jobs' ≡ with_at jobs number job
    → job_tallies jobs' ≡ with_at (job_tallies jobs) number (option_map job_tally job)
tallies_put jobs number job jobs' is = ap job_tallies is ∙ seen-with job_tally jobs number job

-- ---- a job begins
module _ (command : Command) (number : ℕ) (audit : Audit) (old new : Engine) (begins : begins_job command ≡ true)
    (does : IsJudged command old.state (world_of old.world) (Ok (deeds.begin_audit number audit)))
    (audit_is : (history : History) → Represents old.state history → IsAuditOf history audit) where
  pub AddsNothing-begun : free_number old.world.jobs ≡ Some number → BeginsAt number audit old new → AddsNothing command old new
  AddsNothing-begun is begun = record {
    same = begun.state;
    effect = λ history stands. inl (effect_is history stands ∙ sym (done_for history (world_of old.world) command (deeds.begin_audit number audit) (does history stands)));
    jobs = λ history stands fit.
        subst (AreLooking history) (sym jobs_are)
        (all_with (IsLooking history) old.world.jobs number (Some begun.job) fit (IsLooking-begun history audit begun.job stands.valid (audit_is history stands) (begun_over history stands)));
    watches = λ history stands stand. subst (WatchesFit history) (sym begun.world) stand;
    counts = λ versions steps. job_begun number begins refl (seen-free job_tally old.world.jobs ∙ is)
        (tallies_put old.world.jobs number (Some begun.job) new.world.jobs jobs_are
        ∙ ap (λ (tally : JobTally). with_at (tallies_of old.world) number (Some tally)) (tally-begun audit old.state.count begun.job begun.begun));
  }
    where
      jobs_are : new.world.jobs ≡ with_at old.world.jobs number (Some begun.job)
      jobs_are = ap (λ (held : HeldWorld). held.jobs) begun.world

      begun_over : (history : History) → Represents old.state history → HasBegun audit (length history) begun.job
      begun_over history stands = subst (λ (count : ℕ). HasBegun audit count begun.job) stands.count begun.begun

      job_is : (history : History) → Represents old.state history → open_audit begun.job ≡ new_open_audit history audit
      job_is history stands = ap (λ (job : HeldJob). open_audit job) (begun_over history stands).is

      effect_is : (history : History) → Represents old.state history
          → shown_effect new ≡ only_reply (with_job (world_of old.world) number (Some (new_open_audit history audit))) (number_line 0 (codes "job") number)
      effect_is history stands =
          let worlds : world_of new.world ≡ with_job (world_of old.world) number (Some (new_open_audit history audit)) =
          ap world_of begun.world ∙ world_with old.world number (Some begun.job) (with_at old.world.jobs number (Some begun.job)) refl
          ∙ ap (λ (job : OpenAudit). with_job (world_of old.world) number (Some job)) (job_is history stands) in
          λ i. only_reply (worlds i) (begun.reply i)

-- ---- a job is dropped
module _ (number : ℕ) (old new : Engine) where
  abbrev drops : Command
  drops = make_request Console (requests.drops number)

  judged_dropped : (history : History) (found : Option HeldJob) → at_number old.world.jobs number ≡ found
      → judged history (world_of old.world) drops ≡ (ok_or (option_map open_audit found) (refusals.NoJob number) >>= λ job. Ok (deeds.drop_job number))
  judged_dropped history found is =
      ap (λ (one : Option OpenAudit). ok_or one (refusals.NoJob number) >>= λ job. Ok (deeds.drop_job number)) (seen-at open_audit old.world.jobs number ∙ ap (option_map open_audit) is)

  pub AddsNothing-dropped : (job : HeldJob) → at_number old.world.jobs number ≡ Some job → new.state ≡ old.state → new.world ≡ record (old.world) { jobs = with_at old.world.jobs number None }
      → new.reply ≡ done_line Console → AddsNothing drops old new
  AddsNothing-dropped job is same_state world_is said = record {
    same = same_state;
    effect = λ history stands. inl (effect_is ∙ sym (done_for history (world_of old.world) drops (deeds.drop_job number) (judged_dropped history (Some job) is)));
    jobs = λ history stands fit. subst (AreLooking history) (sym jobs_are) (all_with (IsLooking history) old.world.jobs number None fit tt);
    watches = λ history stands stand. subst (WatchesFit history) (sym world_is) stand;
    counts = λ versions steps. job_dropped number (job_tally job) refl refl (tally_there old.world.jobs number job is)
        (tallies_put old.world.jobs number None new.world.jobs jobs_are);
  }
    where
      jobs_are : new.world.jobs ≡ with_at old.world.jobs number None
      jobs_are = ap (λ (held : HeldWorld). held.jobs) world_is

      effect_is : shown_effect new ≡ only_reply (with_job (world_of old.world) number None) (done_line Console)
      effect_is =
          let worlds : world_of new.world ≡ with_job (world_of old.world) number None = ap world_of world_is ∙ world_with old.world number None (with_at old.world.jobs number None) refl in
          λ i. only_reply (worlds i) (said i)

-- a job that the world shows at a number is held there
pub job_held : (held : HeldWorld) (number : ℕ) → HasJob (world_of held) number → (job : HeldJob) × (at_number held.jobs number ≡ Some job)
job_held held number there =
    let seen = mapped open_audit (at_number held.jobs number) there.0 (sym (seen-at open_audit held.jobs number) ∙ there.1) in
    (seen.from, seen.is)

-- BEGIN AUDIT at the console
pub AddsNothing-does : (command : Command) (number : ℕ) (audit : Audit) (old new : Engine) → Does command (kinds.BeginAudit number audit) old.state (world_of old.world) → BeginsAt number audit old new → AddsNothing command old new
AddsNothing-does command number audit old new ((written, text, is), means, free, does) begun =
    AddsNothing-begun command number audit old new (ap begins_job is) does means.fits (sym (seen-free open_audit old.world.jobs) ∙ free) begun
