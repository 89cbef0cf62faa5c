-- From the job that looks at all queries that were asked to the flags of an audit.
use Rattle.std.proofs.Common.{◌≡◌, ◌≢◌, ◌∙◌, ◌≤◌, ◌+◌, ℕ, refl, sym, ap, subst, arith, true, false, List, length, Result, Ok, Err}
use Rattle.std.specs.Prelude.{min, OnOk, IfOk}
use Rattle.std.specs.Result.{result_map_both}
use Rattle.hippo_model.specs.declared.audit.Audit.{Audit}
use Rattle.hippo_model.specs.declared.audit.Flag.{Flag}
use Rattle.hippo_model.specs.Audits.{flags_between}
use Rattle.hippo_model.specs.Terms.{History}
use Rattle.hippo_model.specs.Versions.{versions}
use Rattle.hippo_keeper.specs.Answering.{has_failed}
use Rattle.hippo_keeper.specs.Keeping.{KeeperState}
use Rattle.hippo_typing.specs.Meanings.{meaning}
use Rattle.hippo_backlog.specs.Calls as reads
use Rattle.hippo_backlog.specs.declared.faults.ReadFault.{ReadFault}
use Rattle.hippo_backlog.specs.declared.faults.ReadFault.TheVariants.{Keeper, Damaged, Memory}
use Rattle.hippo_keeper.proofs.CallLemmas.{IsAfterCall-as}
use Rattle.hippo_audit_job.specs.declared.jobs.Job.{Job}
use Rattle.hippo_audit_job.specs.declared.past.Past.{Past}
use Rattle.hippo_audit_job.specs.Examining.{IsPastOf, IsNew}
use Rattle.hippo_audit_job.specs.Jobs.{new_job, JobFits, LooksOver, HasStepped}
use Rattle.hippo_audit_job.proofs.JobLemmas.{JobFits-new, taken_within}
use Rattle.hippo_combine.specs.declared.combine.Combine.{Combine}
use Rattle.hippo_combine.specs.Combining.{combine_terms}
use Rattle.hippo_combine.specs.Held.{all_taken}
use Rattle.hippo_replay.specs.declared.state.State.{State}
use Rattle.hippo_replay.specs.Standing.{Represents}
use Rattle.hippo_engine_rules.specs.declared.faults.EngineFault.{EngineFault}
use Rattle.hippo_engine_audits.specs.Auditing.{FindsFlags, reading_end}

-- what a job found, if it looked at all
abbrev pub found_by : Result (Unit {0}) ReadFault → Job Combine → Result (List Flag) ReadFault
found_by (Ok all) job = Ok job.waiting
found_by (Err fault) job = Err fault

same_call : (result : Result (Unit {0}) ReadFault) (job : Job Combine) → has_failed (reads.reading_as_call (found_by result job)) ≡ has_failed (reads.reading_as_call result)
same_call (Ok all) job = refl
same_call (Err Keeper) job = refl
same_call (Err (Damaged number)) job = refl
same_call (Err Memory) job = refl

min_same : (count : ℕ) → min (0 + count) count ≡ count
min_same count = grind arith

-- a job that looked at all queries has the flags of the history
pub finds_flags : (audit : Audit) (held : State) (past : Past) (combine : Combine) (result : Result (Unit {0}) ReadFault) (job : Job Combine) (before after : KeeperState) (steps steps' : ℕ)
    → IsNew combine_terms combine → ((history : History) → Represents held history → IsPastOf past history)
    → HasStepped combine_terms held.count past result (new_job audit held.count combine) job before after steps steps'
    → FindsFlags audit held (found_by result job) before after steps steps'
finds_flags audit held past combine result job before after steps steps' new is_past stepped = record {
  call = IsAfterCall-as true false (reads.reading_as_call result) (reads.reading_as_call (found_by result job)) before after (same_call result job) stepped.looks.moves.is_after;
  stays = stepped.looks.moves.stays;
  told = λ tells history forms stands audit_is.
      let begun : JobFits combine_terms (new_job audit held.count combine) history =
      subst (λ (count : ℕ). JobFits combine_terms (new_job audit count combine) history) (sym stands.count) (JobFits-new combine_terms history audit combine stands.valid audit_is new) in
      let over : LooksOver combine_terms history result (new_job audit held.count combine) job = stepped.looks.told tells history forms (is_past history stands) begun in
      record {
        flags_are = by result history stands over stepped.place_is;
        few =
            let none : all_taken combine.tables.items ≡ 0 = new.none_handed (all_taken combine.tables.items) refl in
            let most : all_taken job.examiner.tables.items ≤ versions history = taken_within combine_terms job history (all_taken job.examiner.tables.items) over.fits_still refl in
            omega (arith, none, most, stepped.looks.moves.ledger);
        undamaged = undamaged result over.undamaged;
      };
}
  where
    by : (answer : Result (Unit {0}) ReadFault) (history : History) → Represents held history → LooksOver combine_terms history answer (new_job audit held.count combine) job
        → OnOk answer (job.place ≡ min (0 + held.count) held.count) → IfOk (found_by answer job) (λ flags. flags ≡ flags_between meaning history audit 0 (length history))
    by (Ok all) history stands over place =
        over.flags ∙ ap (λ (upto : ℕ). flags_between meaning history audit 0 upto) (place ∙ min_same held.count ∙ stands.count)
    by (Err fault) history stands over place = tt

    undamaged : (answer : Result (Unit {0}) ReadFault) → ((number : ℕ) → answer ≢ Err (Damaged number)) → (number : ℕ) → found_by answer job ≢ Err (Damaged number)
    undamaged (Ok all) fine number e = absurd cc
    undamaged (Err fault) fine number e = fine number (ap (λ (r : Result (List Flag) ReadFault). fault_of r) e)
      where
        fault_of : Result (List Flag) ReadFault → Result (Unit {0}) ReadFault
        fault_of (Ok flags) = Ok tt
        fault_of (Err other) = Err other

-- the result of the line, by the job or by what it found
pub ended_view : (result : Result (Unit {0}) EngineFault) (found : Result (Job Combine) ReadFault) → result ≡ reading_end found → result ≡ reading_end (result_map_both (λ (job : Job Combine). job.waiting) (λ fault. fault) found)
ended_view result (Ok job) is = is
ended_view result (Err Keeper) is = is
ended_view result (Err (Damaged number)) is = is
ended_view result (Err Memory) is = is
