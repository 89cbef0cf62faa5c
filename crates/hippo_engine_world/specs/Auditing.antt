-- The audit jobs and watches that a run holds, and how they fit a history.
use Rattle.std.specs.Prelude.{◌≡◌, ℕ, List, map, Option, IfSome, option_map}
use Rattle.std.specs.List.{All, AllByRecursion}
use Rattle.hippo_model.specs.declared.audit.Audit.{Audit}
use Rattle.hippo_model.specs.declared.entry.Act.{Act}
use Rattle.hippo_model.specs.declared.entry.Entry.{Entry}
use Rattle.hippo_model.specs.Terms.{History}
use Rattle.hippo_tables.specs.declared.tables.Tables.{Tables}
use Rattle.hippo_watch_counts.specs.declared.counts.AuditHits.{AuditHits}
use Rattle.hippo_watch.specs.Watches.{IsWatchOf, WasWatchOf, ComesOn, IsWatchBefore, IsWatchAfter}
use Rattle.hippo_audit_job.specs.declared.jobs.Job.{Job}
use Rattle.hippo_audit_job.specs.Examining.{IsAuditOf, IsNew}
use Rattle.hippo_audit_job.specs.Jobs.{IsSoundJob, JobFits, new_job}
use Rattle.hippo_engine_sessions.specs.Tallies.{JobTally}
use Rattle.hippo_engine_world.specs.declared.watches.Way.{Way}
use Rattle.hippo_engine_world.specs.declared.watches.Way.TheVariants.{In, Back}
use Rattle.hippo_combine.specs.declared.combine.Combine.{Combine}
use Rattle.hippo_combine.specs.Combining.{combine_terms}
use Rattle.hippo_combine.specs.Held.{all_taken}

-- a job that examines questions over rows that are brought forward from one question to the next
abbrev pub HeldJob : Type 0
HeldJob = Job Combine

-- the number of versions that a job was given
abbrev pub taken_by_job : HeldJob → ℕ
taken_by_job job = all_taken job.examiner.tables.items

-- a job at its beginning, over this many entries
pub record HasBegun (audit : Audit) (length : ℕ) (job : HeldJob) : Type 0 where
  pub is : job ≡ new_job audit length job.examiner
  pub unasked : IsNew combine_terms job.examiner

-- a job is sound, and fits a history
pub record IsLooking (history : History) (job : HeldJob) : Type 0 where
  pub sound : IsSoundJob combine_terms job
  pub fits : JobFits combine_terms job history

-- each job that is held fits a history
abbrev pub AreLooking : History → List (Option HeldJob) → Type 0
AreLooking history jobs = AllByRecursion (λ held. IfSome held (IsLooking history)) jobs

-- the audit of a watch
abbrev pub watched : AuditHits → Audit
watched watch = watch.audit

-- each watch that is held fits a history
abbrev pub AreWatching : History → List (Option AuditHits) → Type 0
AreWatching history watches = AllByRecursion (λ held. IfSome held (IsWatchOf history)) watches

-- each audit that is held fits a history
abbrev pub AreAudits : History → List (Option Audit) → Type 0
AreAudits history audits = AllByRecursion (λ held. IfSome held (IsAuditOf history)) audits

-- what holds of a watch before and after an act that is added, or removed again
abbrev pub IsBefore : Way → History → Entry → AuditHits → Type 0
IsBefore In = IsWatchBefore
IsBefore Back = WasWatchOf

abbrev pub IsAfter : Way → History → Entry → AuditHits → Type 0
IsAfter In = IsWatchAfter
IsAfter Back = IsWatchBefore

-- the change by the act of the next entry of a watch, of the slot at a number, and of all slots
abbrev pub WatchChanges : Way → Tables → Act → AuditHits → AuditHits → Type 0
WatchChanges way tables act old new = ComesOn tables act (IsBefore way) (IsAfter way) old new

abbrev pub OneChanges : Way → Tables → Act → Option AuditHits → Option AuditHits → Type 0
OneChanges way tables act old new =
    ComesOn tables act (λ history entry held. IfSome held (IsBefore way history entry))
    (λ history entry held. IfSome held (IsAfter way history entry)) old new

abbrev pub EachChanges : Way → Tables → Act → List (Option AuditHits) → List (Option AuditHits)
    → Type 0
EachChanges way tables act old new =
    ComesOn tables act
    (λ history entry watches. All (λ held. IfSome held (IsBefore way history entry)) watches)
    (λ history entry watches. All (λ held. IfSome held (IsAfter way history entry)) watches)
    old new

-- the tally of a job
abbrev pub job_tally : HeldJob → JobTally
job_tally job = record { taken = taken_by_job job; unbroken = job.unbroken }

-- the tally of each job, by its number
abbrev pub job_tallies : List (Option HeldJob) → List (Option JobTally)
job_tallies jobs = map (option_map job_tally) jobs
