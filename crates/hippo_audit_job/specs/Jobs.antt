-- Audit jobs, which examine the logged queries of a history in steps.
use Rattle.std.specs.Prelude.{◌≡◌, ◌≢◌, ◌≤◌, ℕ, ◌+◌, min, true, ◌&&◌, List, [], ◌++◌, map, length, bytes_eq, Result, Err, is_ok, OnOk, Option, option_to_list}
use Rattle.std.specs.List.{IsDistinct}
use Rattle.hippo_model.specs.declared.audit.Audit.{Audit}
use Rattle.hippo_model.specs.declared.audit.Flag.{Flag}
use Rattle.hippo_model.specs.Terms.{History}
use Rattle.hippo_model.specs.StoredForms.{stored}
use Rattle.hippo_model.specs.Versions.{versions}
use Rattle.hippo_model.specs.Audits.{flags_between}
use Rattle.hippo_keeper.specs.Keeping.{KeeperState, IsReady, RisesAbove, last_number}
use Rattle.hippo_typing.specs.Meanings.{meaning}
use Rattle.hippo_backlog.specs.declared.faults.ReadFault.{ReadFault}
use Rattle.hippo_backlog.specs.declared.faults.ReadFault.TheVariants.{Damaged}
use Rattle.hippo_backlog.specs.ReadingAhead.{nothing_read, without_first, IsAhead}
use Rattle.hippo_audit_job.specs.declared.past.Past.{Past}
use Rattle.hippo_audit_job.specs.declared.jobs.Job.{Job}
use Rattle.hippo_audit_job.specs.Looking.{is_question_in_period}
use Rattle.hippo_audit_job.specs.Examining.{Examination, MovesOn, AreWithin, IsPastOf, IsAuditOf}

-- an audit job in a `World`: its audit, the history's length when it began, the last number it
-- looked at, and the flags not written
pub record OpenAudit : Type 0 where
  pub audit : Audit
  pub length : ℕ
  pub place : ℕ
  pub waiting : List Flag

abbrev pub open_audit : {X : Type 0} → Job X → OpenAudit
open_audit job =
    record { audit = job.audit; length = job.length; place = job.place; waiting = job.waiting }

-- the last entry number of a step
abbrev pub step_end : OpenAudit → ℕ → ℕ
step_end job count = min (job.place + count) job.length

-- a new job
abbrev pub new_job : {X : Type 0} → Audit → ℕ → X → Job X
new_job audit length examiner = record {
  audit = audit;
  length = length;
  place = 0;
  waiting = [];
  found = 0;
  unbroken = true;
  questions = nothing_read;
  examiner = examiner;
}

-- the job after the first logged query that was read ahead: it is removed, and its flag, if it has
-- one, waits
abbrev pub with_flag : {X : Type 0} → ℕ → Option Flag → Job X → Job X
with_flag number flag job = record job {
  place = number;
  waiting = job.waiting ++ option_to_list flag;
  found = job.found + length (option_to_list flag);
  questions = without_first job.questions;
}

-- what is true of a job, whatever the store does
pub record IsSoundJob {X : Type 0} (terms : Examination X) (job : Job X) : Type 0 where
  pub tables : IsDistinct bytes_eq job.audit.tables
  pub within : job.place ≤ job.length
  pub counted : job.found ≤ job.place
  pub read : last_number job.place job.questions.waiting ≤ job.questions.reached
  pub ahead : RisesAbove job.place job.questions.waiting
  pub examiner_is : terms.sound job.examiner
  pub asked : terms.upto job.examiner ≤ job.place + 1

-- the job may look at the numbers up to `upto`
pub record MayLook {X : Type 0} (terms : Examination X) (upto : ℕ) (job : Job X)
    (keeper : KeeperState) : Type 0 where
  pub ready : IsReady true keeper
  pub is_sound : IsSoundJob terms job
  pub forward : job.place ≤ upto
  pub within : upto ≤ job.length

-- the job fits a history: the history is at least as long as when the job began, the job found the
-- flags up to its place, the logged queries that it read ahead are those of the history, and its
-- examiner may be asked about the entries after its place
pub record JobFits {X : Type 0} (terms : Examination X) (job : Job X) (history : History)
    : Type 0 where
  pub begun : job.length ≤ length history
  pub audit_is : IsAuditOf history job.audit
  pub flags : job.found ≡ length (flags_between meaning history job.audit 0 job.place)
  pub split : IsAhead (is_question_in_period job.audit) job.place job.questions history
  pub examiner_fits : terms.fits job.examiner history (job.place + 1)
  pub once : AreWithin (terms.handed job.examiner) (terms.unread job.examiner history)
      (versions history)

-- looking on over the history in the store: the job still fits, the flags of the numbers that it
-- looked at are appended to those that wait, and no entry is reported as damaged
pub record LooksOver {A X : Type 0} (terms : Examination X) (history : History)
    (result : Result A ReadFault)
    (old new : Job X) : Type 0 where
  pub fits_still : JobFits terms new history
  pub flags : new.waiting ≡ old.waiting ++ flags_between meaning history old.audit old.place
      new.place
  pub undamaged : (number : ℕ) → result ≢ Err (Damaged number)

-- a job looks at the next numbers, at most up to `upto`
pub record LooksOn {A X : Type 0} (terms : Examination X) (upto : ℕ) (past : Past)
    (result : Result A ReadFault)
    (old new : Job X) (before after : KeeperState) (steps_old steps_new : ℕ) : Type 0 where
  pub moves : MovesOn terms (new.place + 1) result old.examiner new.examiner before after steps_old
      steps_new
  pub is_sound : IsSoundJob terms new
  pub same_audit : new.audit ≡ old.audit
  pub same_length : new.length ≡ old.length
  pub forward : old.place ≤ new.place
  pub limit : new.place ≤ upto
  pub told : after.tells → (history : History) → map stored history ≡ before.kept
      → IsPastOf past history
      → JobFits terms old history → LooksOver terms history result old new

-- nothing more was read, and no step ended
pub record IsAsFar {X : Type 0} (old new : Job X) : Type 0 where
  pub reached_is : new.questions.reached ≡ old.questions.reached
  pub unbroken_is : new.unbroken ≡ old.unbroken

-- a step; if it returns Ok, the job has looked at exactly `count` numbers, or at all that were left
pub record HasStepped {X : Type 0} (terms : Examination X) (count : ℕ) (past : Past)
    (result : Result (Unit {0}) ReadFault) (old new : Job X) (before after : KeeperState)
    (steps_old steps_new : ℕ) : Type 0 where
  pub looks : LooksOn terms (step_end (open_audit old) count) past result old new before after
      steps_old steps_new
  pub place_is : OnOk result (new.place ≡ step_end (open_audit old) count)
  pub unbroken_is : new.unbroken ≡ (old.unbroken && is_ok result)
