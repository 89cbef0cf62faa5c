-- From stepping an audit job that a run holds to what the line does that steps it.
use Rattle.std.proofs.Common.{◌≡◌, ◌∙◌, ◌⊎◌, ◌≤◌, ℕ, ◌+◌, refl, sym, ap, subst, inl, inr, arith, Bool, true, false, List, [], ◌++◌, length, Option, Some, None, Result, Ok, Err}
use Rattle.std.specs.Prelude.{◌==◌, ◌&&◌, nat_lt, codes, flat_map, if◌then◌else◌, ok_or, option_map, is_ok, OnOk}
use Rattle.std.proofs.lemmas.Bool.{false≢true}
use Rattle.hippo_values.specs.Texts.{Txt}
use Rattle.hippo_values.specs.Results.{◌>>=◌}
use Rattle.hippo_model.specs.Audits.{flags_between}
use Rattle.hippo_model.specs.Terms.{History}
use Rattle.hippo_model.specs.Versions.{versions}
use Rattle.hippo_keeper.specs.Keeping.{KeeperState}
use Rattle.hippo_typing.specs.Meanings.{meaning}
use Rattle.hippo_stmt_lines.specs.Forms as requests
use Rattle.hippo_stmt_lines.specs.Commands.{Command, make_request}
use Rattle.hippo_backlog.specs.Calls as reads
use Rattle.hippo_backlog.specs.declared.faults.ReadFault.{ReadFault}
use Rattle.hippo_backlog.specs.declared.faults.ReadFault.TheVariants as faults
use Rattle.hippo_keeper.proofs.CallLemmas.{IsAfterCall-as}
use Rattle.hippo_audit_job.specs.declared.past.Past.{Past}
use Rattle.hippo_audit_job.specs.Examining.{IsPastOf}
use Rattle.hippo_audit_job.specs.Jobs.{OpenAudit, open_audit, step_end, LooksOver, HasStepped}
use Rattle.hippo_audit_job.proofs.JobLemmas.{taken_within}
use Rattle.hippo_audit_job.proofs.LoopLemmas.{and_done, and_failed}
use Rattle.hippo_combine.specs.Combining.{combine_terms}
use Rattle.hippo_replay.specs.Standing.{Represents}
use Rattle.hippo_report.specs.declared.speaker.Speaker.TheVariants.{Console}
use Rattle.hippo_report.specs.declared.format.Format.{Format}
use Rattle.hippo_report.specs.declared.refusal.Refusal.{Refusal}
use Rattle.hippo_report.specs.declared.refusal.Refusal.TheVariants as refusals
use Rattle.hippo_report_flags.specs.Flags.{flag_line}
use Rattle.hippo_report.specs.Notices.{number_line}
use Rattle.hippo_report.specs.Refusals.{refusal_line}
use Rattle.hippo_engine_world.specs.declared.worlds.World.{World as HeldWorld}
use Rattle.hippo_engine_sessions.specs.Tallies.{JobTally}
use Rattle.hippo_engine_world.specs.Auditing.{HeldJob, taken_by_job, IsLooking, AreLooking, job_tally}
use Rattle.hippo_engine_world.specs.Holding.{world_of, WatchesFit}
use Rattle.hippo_engine_sessions.specs.Worlds.{World, at_number, with_at}
use Rattle.hippo_engine_sessions.proofs.NumberLemmas.{put_back}
use Rattle.hippo_engine_sessions.proofs.HeldLemmas.{seen-at, StandsAt, held_stands}
use Rattle.hippo_engine_world.proofs.AuditLemmas.{all_with, one_has, IsLooking-written}
use Rattle.hippo_engine.specs.declared.engine.Engine.{Engine}
use Rattle.hippo_engine_rules.specs.declared.faults.EngineFault.{EngineFault}
use Rattle.hippo_engine_audits.specs.Auditing.{reading_end}
use Rattle.hippo_engine_checks.specs.Checks.{Checked}
use Rattle.hippo_engine.specs.Carrying.{AtWork, line_as_call, is_carried, shown_effect, Carries}
use Rattle.hippo_engine_checks.specs.Deeds.{Deed}
use Rattle.hippo_engine_checks.specs.Deeds as deeds
use Rattle.hippo_engine_rules.specs.Effects.{Effect, only_reply, effect_of, job_step_effect as stepped, step_flags, step_line, job_up_to, with_job, IsOutOfMemory, IsShortStep, IsEffect}
use Rattle.hippo_engine_audits.specs.Stepping.{progress_line, step_text, TellsStep}
use Rattle.hippo_engine_checks.specs.Judging.{judged}
use Rattle.hippo_engine_rules.specs.Ledgers.{job_stepped}
use Rattle.hippo_engine_lines.proofs.AuditingLemmas.{ended_same, undamaged_end}
use Rattle.hippo_engine_lines.proofs.LookingLemmas.{Carries-looked}
use Rattle.hippo_engine_rules.proofs.ShortLemmas.{done_for}
use Rattle.hippo_engine.proofs.JobLemmas.{world_with, tally_there, tallies_put}

-- the progress of a job, by its place or by whether it is at its end
progress : (place upto found : ℕ) (count : ℕ → ℕ) → place ≤ upto → found ≡ count place
    → (if place == upto then number_line 0 (codes "end") found else number_line 0 (codes "part") place)
    ≡ (if nat_lt place upto then number_line 0 (codes "part") place else number_line 0 (codes "end") (count upto))
progress place upto found count within is =
    elim (place == upto) as (λ (same : Bool). (place == upto) ≡ same
    → (if same then number_line 0 (codes "end") found else number_line 0 (codes "part") place)
    ≡ (if nat_lt place upto then number_line 0 (codes "part") place else number_line 0 (codes "end") (count upto))) [
      | true ↦ λ e.
          let at : place ≡ upto = grind (arith, e) in
          let none : nat_lt place upto ≡ false = grind (arith, e) in
          ap (λ (n : ℕ). number_line 0 (codes "end") n) (is ∙ ap count at)
          ∙ sym (ap (λ (test : Bool). if test then number_line 0 (codes "part") place else number_line 0 (codes "end") (count upto)) none)
      | false ↦ λ e.
          let more : nat_lt place upto ≡ true = grind (arith, e, within) in
          sym (ap (λ (test : Bool). if test then number_line 0 (codes "part") place else number_line 0 (codes "end") (count upto)) more)
    ] refl

-- after the reply, a job is the same, except that its flags may be written
left_so : (looked : Result (Unit {0}) ReadFault) (format : Format) (job told : HeldJob) (reply : Txt) → TellsStep looked format job told reply
    → (told ≡ record job { waiting = [] }) ⊎ (told ≡ job)
left_so (Ok all) format job told reply (inl so) = inl so.0
left_so (Ok all) format job told reply (inr short) = inr short.0
left_so (Err faults.Memory) format job told reply so = inr so.0
left_so (Err faults.Keeper) format job told reply so = inr so
left_so (Err (faults.Damaged number)) format job told reply so = inr so

-- a line that steps a job at a number: the job was stepped, and the reply was written
pub record StepsHeld (number count : ℕ) (past : Past) (looked : Result (Unit {0}) ReadFault) (old new : Engine) (before after : KeeperState) (steps steps' : ℕ) : Type 0 where
  pub job : HeldJob
  pub mid : HeldJob
  pub told : HeldJob
  pub there : at_number old.world.jobs number ≡ Some job
  pub stepped : HasStepped combine_terms count past looked job mid before after steps steps'
  pub tells : TellsStep looked old.world.format mid told new.reply
  pub same : new.state ≡ old.state
  pub world : new.world ≡ record (old.world) { jobs = with_at (with_at old.world.jobs number None) number (Some told) }

module _ (number count : ℕ) (past : Past) (looked : Result (Unit {0}) ReadFault) (old new : Engine) (before after : KeeperState) (steps steps' : ℕ)
    (held : StepsHeld number count past looked old new before after steps steps') where
  abbrev steps_it : Command
  steps_it = make_request Console (requests.steps number count)

  abbrev world : World
  world = world_of old.world

  abbrev job : OpenAudit
  job = open_audit held.job

  abbrev upto : ℕ
  upto = step_end job count

  judged_is : (history : History) → judged history world steps_it ≡ Ok (deeds.step_job number job count)
  judged_is history =
      ap (λ (one : Option OpenAudit). ok_or one (refusals.NoJob number) >>= λ found. Ok (deeds.step_job number found count))
      (seen-at open_audit old.world.jobs number ∙ ap (option_map open_audit) held.there)

  done_so : (history : History) → effect_of history world steps_it ≡ stepped history world number job count
  done_so history = done_for history world steps_it (deeds.step_job number job count) (judged_is history)

  jobs_are : new.world.jobs ≡ with_at old.world.jobs number (Some held.told)
  jobs_are = ap (λ (w : HeldWorld). w.jobs) held.world ∙ put_back old.world.jobs number None (Some held.told)

  world_is : world_of new.world ≡ with_job world number (Some (open_audit held.told))
  world_is = ap world_of held.world ∙ world_with old.world number (Some held.told) _ (put_back old.world.jobs number None (Some held.told))

  place_there : StandsAt old.world.jobs number (Some held.job)
  place_there = held_stands old.world.jobs number held.job held.there

  same_tally : job_tally held.told ≡ job_tally held.mid
  same_tally = elim (left_so looked old.world.format held.mid held.told new.reply held.tells) [
    | inl is ↦ ap job_tally is
    | inr is ↦ ap job_tally is
  ]

  -- it is unbroken if it was, unless memory ran out
  still_unbroken : is_carried (reading_end looked) ≡ true → (held.told.unbroken ≡ held.job.unbroken) ⊎ ((new.reply ≡ refusal_line Console refusals.Memory) × (held.told.unbroken ≡ false))
  still_unbroken = by looked held.tells held.stepped.unbroken_is
    where
      same : held.told.unbroken ≡ held.mid.unbroken
      same = ap (λ (tally : JobTally). tally.unbroken) same_tally

      by : (answer : Result (Unit {0}) ReadFault) → TellsStep answer old.world.format held.mid held.told new.reply → held.mid.unbroken ≡ (held.job.unbroken && is_ok answer)
          → is_carried (reading_end answer) ≡ true → (held.told.unbroken ≡ held.job.unbroken) ⊎ ((new.reply ≡ refusal_line Console refusals.Memory) × (held.told.unbroken ≡ false))
      by (Ok all) so is fine = inl (same ∙ is ∙ sym (and_done held.job.unbroken))
      by (Err faults.Memory) so is fine = inr (so.1, same ∙ is ∙ sym (and_failed held.job.unbroken))
      by (Err faults.Keeper) so is fine = absurd (false≢true fine)
      by (Err (faults.Damaged other)) so is fine = absurd (false≢true fine)

  module _ (history : History) (over : LooksOver combine_terms history looked held.job held.mid) where
    told_looks : IsLooking history held.told
    told_looks =
        let mid_looks : IsLooking history held.mid = record { sound = held.stepped.looks.is_sound; fits = over.fits_still } in
        elim (left_so looked old.world.format held.mid held.told new.reply held.tells) [
          | inl is ↦ subst (IsLooking history) (sym is) (IsLooking-written history held.mid mid_looks)
          | inr is ↦ subst (IsLooking history) (sym is) mid_looks
        ]

    -- memory ran out, and the job is within the step
    short_step : held.told ≡ held.mid → new.reply ≡ refusal_line Console refusals.Memory → IsEffect history world steps_it (shown_effect new)
    short_step same said =
        let line : Txt = refusal_line Console refusals.Memory in
        let job_is : open_audit held.told ≡ job_up_to job held.mid.place (step_flags history job held.mid.place) =
        ap (λ (one : HeldJob). open_audit one) same ∙ (λ i. record { audit = held.stepped.looks.same_audit i; length = held.stepped.looks.same_length i; place = held.mid.place; waiting = over.flags i }) in
        let worlds : world_of new.world ≡ with_job world number (Some (job_up_to job held.mid.place (step_flags history job held.mid.place))) =
        world_is ∙ ap (λ (one : OpenAudit). with_job world number (Some one)) job_is in
        let so : IsShortStep history world line number job count (shown_effect new) = record {
          upto = held.mid.place;
          from = held.stepped.looks.forward;
          to = held.stepped.looks.limit;
          is = λ i. only_reply (worlds i) (said i);
        } in
        inr (refl, subst (λ (judgement : Checked Deed). IsOutOfMemory history world line judgement (shown_effect new)) (sym (judged_is history)) so)

    -- what was found is in the reply
    whole_step : held.mid.place ≡ upto → held.told ≡ record (held.mid) { waiting = [] } → new.reply ≡ step_text old.world.format held.mid → IsEffect history world steps_it (shown_effect new)
    whole_step place written said =
        let looks = held.stepped.looks in
        let job_is : open_audit held.told ≡ job_up_to job upto [] =
        ap (λ (one : HeldJob). open_audit one) written ∙ (λ i. record { audit = looks.same_audit i; length = looks.same_length i; place = place i; waiting = [] }) in
        let worlds : world_of new.world ≡ with_job world number (Some (job_up_to job upto [])) =
        world_is ∙ ap (λ (one : OpenAudit). with_job world number (Some one)) job_is in
        let flags : held.mid.waiting ≡ step_flags history job upto =
        over.flags ∙ ap (λ (to : ℕ). held.job.waiting ++ flags_between meaning history held.job.audit held.job.place to) place in
        let far : progress_line held.mid ≡ step_line history job upto =
        progress held.mid.place held.mid.length held.mid.found (λ to. length (flags_between meaning history held.mid.audit 0 to)) looks.is_sound.within over.fits_still.flags
        ∙ (λ i. if nat_lt (place i) (looks.same_length i) then number_line 0 (codes "part") (place i)
        else number_line 0 (codes "end") (length (flags_between meaning history (looks.same_audit i) 0 (looks.same_length i)))) in
        let reply : new.reply ≡ flat_map (flag_line old.world.format) (step_flags history job upto) ++ step_line history job upto =
        said ∙ (λ i. flat_map (flag_line old.world.format) (flags i) ++ far i) in
        inl ((λ i. only_reply (worlds i) (reply i)) ∙ sym (done_so history))

    step_effect : is_carried (reading_end looked) ≡ true → IsEffect history world steps_it (shown_effect new)
    step_effect = by looked held.tells held.stepped.place_is
      where
        by : (answer : Result (Unit {0}) ReadFault) → TellsStep answer old.world.format held.mid held.told new.reply → OnOk answer (held.mid.place ≡ upto)
            → is_carried (reading_end answer) ≡ true → IsEffect history world steps_it (shown_effect new)
        by (Ok all) (inl so) place fine = whole_step place so.0 so.1
        by (Ok all) (inr short) place fine = short_step short.0 short.1
        by (Err faults.Memory) so place fine = short_step so.0 so.1
        by (Err faults.Keeper) so place fine = absurd (false≢true fine)
        by (Err (faults.Damaged other)) so place fine = absurd (false≢true fine)

  unrefused : (history : History) (refusal : Refusal) → judged history world steps_it ≡ Err refusal → ⊥
  unrefused history refusal refuses = let both : ◌≡◌ {A = Checked Deed} (Ok (deeds.step_job number job count)) (Err refusal) = sym (judged_is history) ∙ refuses in absurd cc

  -- `step` at the console
  pub Carries-job_step_effect : (result : Result (Unit {0}) EngineFault) → result ≡ reading_end looked → AtWork old before → ((history : History) → Represents old.state history → IsPastOf past history)
      → Carries steps_it result old new before after steps steps'
  Carries-job_step_effect result ends at_work is_past =
      subst (λ (r : Result (Unit {0}) EngineFault). Carries steps_it r old new before after steps steps') (sym ends)
      (Carries-looked steps_it (reading_end looked) old new before after steps steps' refl at_work held.same (ap (λ (w : HeldWorld). w.clock) held.world)
      (IsAfterCall-as true false (reads.reading_as_call looked) (line_as_call (reading_end looked)) before after (ended_same looked) held.stepped.looks.moves.is_after)
      held.stepped.looks.moves.stays
      (λ told history holds.
      let looks : IsLooking history held.job = one_has (IsLooking history) old.world.jobs number (Some held.job) place_there holds.jobs in
      let over : LooksOver combine_terms history looked held.job held.mid = held.stepped.looks.told told history holds.forms (is_past history holds.stands) looks.fits in
      let same_taken : taken_by_job held.told ≡ taken_by_job held.mid = ap (λ (tally : JobTally). tally.taken) same_tally in
      let few : taken_by_job held.mid ≤ versions history = taken_within combine_terms held.mid history (taken_by_job held.mid) over.fits_still refl in
      let takes : steps' + taken_by_job held.job ≡ steps + taken_by_job held.told = omega (arith, held.stepped.looks.moves.ledger, same_taken) in
      let within : taken_by_job held.told ≤ versions history = omega (arith, few, same_taken) in
      record {
        effect = step_effect history over;
        jobs = subst (AreLooking history) (sym jobs_are) (all_with (IsLooking history) old.world.jobs number (Some held.told) holds.jobs (told_looks history over));
        watches = subst (WatchesFit history) (sym held.world) holds.watches;
        counts = λ fine. job_stepped number (job_tally held.job) (job_tally held.told) refl refl
            (tally_there old.world.jobs number held.job held.there) (tallies_put old.world.jobs number (Some held.told) new.world.jobs jobs_are)
            (record { takes = takes; few = within; unbroken = still_unbroken fine });
        refused = λ refusal refuses others. absurd (unrefused history refusal refuses);
        adds = ap (λ (effect : Effect). effect.added) (done_so history);
        undamaged = λ other e. undamaged_end looked other over.undamaged e;
      }))

-- a job that is held at a number is in the world
pub held_there : (jobs : List (Option HeldJob)) (number : ℕ) (job : HeldJob) → at_number jobs number ≡ Some job → ◌≡◌ {A = Option HeldJob} None (at_number jobs number) → ⊥
held_there jobs number job there none = let both : ◌≡◌ {A = Option HeldJob} None (Some job) = none ∙ there in absurd cc
