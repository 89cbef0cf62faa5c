-- The loops of a step: what their parts require and ensure.
use Rattle.std.proofs.Common.{◌≡◌, ◌∙◌, ap, refl, subst, arith, true, false, Bool, ℕ, ◌<◌, ◌≤◌, [], ◌∷◌, drop, length, slice_get, None, Some, Result, Ok}
use Rattle.std.specs.Prelude.{◌&&◌, ◌+◌, min}
use Rattle.hippo_model.specs.declared.entry.Entry.{Entry}
use Rattle.hippo_model.specs.declared.stored.StoredEntry.{StoredEntry}
use Rattle.hippo_entry.specs.Forms.{IsEntryOf}
use Rattle.hippo_keeper.specs.Keeping.{Store, KeeperState, IsReady}
use Rattle.hippo_backlog.specs.declared.faults.ReadFault.{ReadFault}
use Rattle.hippo_backlog.specs.Calls.{reading_as_call}
use Rattle.hippo_backlog.specs.ReadingAhead.{BeginsAbove}
use Rattle.hippo_keeper.proofs.CallLemmas.{IsReady-after}
use Rattle.hippo_keeper.proofs.Results.{err_of, well}
use Rattle.hippo_audit_job.specs.declared.jobs.Job.{Job}
use Rattle.hippo_audit_job.specs.declared.past.Past.{Past}
use Rattle.hippo_audit_job.specs.Examining.{Examination}
use Rattle.hippo_audit_job.specs.Flagging.{IsFirstWaiting}
use Rattle.hippo_audit_job.specs.Jobs.{open_audit, step_end, IsSoundJob, MayLook, IsAsFar, LooksOn, HasStepped}
use Rattle.hippo_audit_job.proofs.JobLemmas.{IsSoundJob-marked, JobFits-marked}
use Rattle.hippo_audit_job.proofs.StepLemmas.{LooksOn-none, LooksOn-then}
use Rattle.hippo_audit_job.proofs.FlagLemmas.{LooksOn-as, LooksOn-fault, number_above}

-- nothing waits
pub begins_none : (held : Store) (number : ℕ) → slice_get held 0 ≡ None → BeginsAbove number held
begins_none [] number none = tt
begins_none (kept ∷ rest) number none = absurd cc

-- one entry is used
pub fewer_left : (held : Store) (kept : StoredEntry) → slice_get held 0 ≡ Some kept → length (drop 1 held) < length held
fewer_left [] kept first = absurd cc
fewer_left (one ∷ rest) kept first = omega arith

-- an entry has the number of its stored form
pub form_number : (kept : StoredEntry) (entry : Entry) → IsEntryOf kept (Some entry) → entry.seq ≡ kept.seq
form_number kept entry form = ap (λ (k : StoredEntry). k.seq) form.sound.1

pub and_done : (mark : Bool) → mark ≡ (mark && true)
and_done true = refl
and_done false = refl

pub and_failed : (mark : Bool) → false ≡ (mark && false)
and_failed true = refl
and_failed false = refl

module _ {X : Type 0} where
  pub IsAsFar-then : (old mid new : Job X) → IsAsFar old mid → IsAsFar mid new → IsAsFar old new
  IsAsFar-then old mid new first second = record {
    reached_is = second.reached_is ∙ first.reached_is;
    unbroken_is = second.unbroken_is ∙ first.unbroken_is;
  }

module _ {X : Type 0} (terms : Examination X) (upto : ℕ) (past : Past) where
  -- a job that has not looked at anything more yet
  pub LooksOn-start : (job : Job X) (keeper : KeeperState) (steps : ℕ) → MayLook terms upto job keeper → LooksOn terms upto past (well ReadFault) job job keeper keeper steps steps
  LooksOn-start job keeper steps may =
      LooksOn-none terms upto past job keeper steps may.ready may.is_sound may.forward (well ReadFault) (λ e. absurd cc) (λ history kept stands fits number e. absurd cc)

  -- a keeper is ready after a successful look
  pub ready_after : (old new : Job X) (before after : KeeperState) (one two : ℕ) → LooksOn terms upto past (well ReadFault) old new before after one two → IsReady true after
  ready_after old new before after one two looks = IsReady-after (reading_as_call (well ReadFault)) before after refl looks.moves.is_after

  -- and the job may look on, if it could at first
  pub MayLook-after : (old new : Job X) (before after : KeeperState) (one two : ℕ) → MayLook terms upto old before → LooksOn terms upto past (well ReadFault) old new before after one two → MayLook terms upto new after
  MayLook-after old new before after one two may looks = record {
    ready = ready_after old new before after one two looks;
    is_sound = looks.is_sound;
    forward = looks.limit;
    within = rw looks.same_length may.within;
  }

  module _ (old mid new : Job X) (before now after : KeeperState) (one two three : ℕ) (first : LooksOn terms upto past (well ReadFault) old mid before now one two) where
    -- a second look that succeeds, whatever it returned
    pub LooksOn-more : {B : Type 0} (value : B) → LooksOn {A = B} terms upto past (Ok value) mid new now after two three → LooksOn terms upto past (well ReadFault) old new before after one three
    LooksOn-more value second =
        LooksOn-then terms upto past {A = Unit {0}} tt (well ReadFault) old mid new before now after one two three first
        (LooksOn-as terms upto upto past (Ok value) (well ReadFault) mid new now after two three (omega arith) refl (λ number not e. absurd cc) second)

    -- a second look that fails
    pub LooksOn-stop : (B : Type 0) (fault : ReadFault) → LooksOn terms upto past (err_of B fault) mid new now after two three → LooksOn terms upto past (err_of (Unit {0}) fault) old new before after one three
    LooksOn-stop B fault second =
        LooksOn-then terms upto past {A = Unit {0}} tt (err_of (Unit {0}) fault) old mid new before now after one two three first
        (LooksOn-fault terms B (Unit {0}) upto upto past fault mid new now after two three (omega arith) second)

  -- the job with another mark for its steps
  pub LooksOn-marked : {A : Type 0} (mark : Bool) (result : Result A ReadFault) (old new : Job X) (before after : KeeperState) (one two : ℕ) → LooksOn terms upto past result old new before after one two
      → LooksOn terms upto past result old (record new { unbroken = mark }) before after one two
  LooksOn-marked mark result old new before after one two looks = record {
    moves = looks.moves;
    is_sound = IsSoundJob-marked terms new.waiting mark new looks.is_sound;
    same_audit = looks.same_audit;
    same_length = looks.same_length;
    forward = looks.forward;
    limit = looks.limit;
    told = λ tells history forms stands fits.
        let over = looks.told tells history forms stands fits in
        record {
          fits_still = JobFits-marked terms new.waiting mark new history over.fits_still;
          flags = over.flags;
          undamaged = over.undamaged;
        };
  }

-- a job that may look up to a number, and the result of its step
module _ {X : Type 0} (terms : Examination X) where
  -- the first logged query that waits may be looked at
  pub MayLook-first : (upto : ℕ) (job : Job X) (keeper : KeeperState) → MayLook terms upto job keeper → (entry : Entry) → IsFirstWaiting job.questions entry → entry.seq ≤ upto → MayLook terms entry.seq job keeper
  MayLook-first upto job keeper may entry first up =
      let above = number_above terms job may.is_sound entry first in
      let within = may.within in
      record { ready = may.ready; is_sound = may.is_sound; forward = omega (arith, above); within = omega (arith, up, within) }

  pub MayLook-step : (upto : ℕ) (job : Job X) (keeper : KeeperState) (count : ℕ) → IsReady true keeper → IsSoundJob terms job → upto ≡ step_end (open_audit job) count → MayLook terms upto job keeper
  MayLook-step upto job keeper count ready sound end =
      let within = sound.within in
      let last : upto ≡ min (job.place + count) job.length = end in
      record { ready = ready; is_sound = sound; forward = omega (arith, within, last); within = omega (arith, last) }

  module _ (old : Job X) (count upto : ℕ) (end : upto ≡ step_end (open_audit old) count) (past : Past) (new : Job X) (before after : KeeperState) (one two : ℕ) where
    as_step : (result : Result (Unit {0}) ReadFault) → LooksOn terms upto past result old new before after one two → LooksOn terms (step_end (open_audit old) count) past result old new before after one two
    as_step result looks = subst (λ (n : ℕ). LooksOn terms n past result old new before after one two) end looks

    pub HasStepped-done : LooksOn terms upto past (well ReadFault) old new before after one two → new.place ≡ upto → new.unbroken ≡ old.unbroken → HasStepped terms count past (well ReadFault) old new before after one two
    HasStepped-done looks place unbroken = record {
      looks = as_step (well ReadFault) looks;
      place_is = place ∙ end;
      unbroken_is = unbroken ∙ and_done old.unbroken;
    }

    pub HasStepped-failed : (fault : ReadFault) → LooksOn terms upto past (err_of (Unit {0}) fault) old new before after one two → HasStepped terms count past (err_of (Unit {0}) fault) old (record new { unbroken = false }) before after one two
    HasStepped-failed fault looks = record {
      looks = LooksOn-marked terms (step_end (open_audit old) count) past false (err_of (Unit {0}) fault) old new before after one two (as_step (err_of (Unit {0}) fault) looks);
      place_is = tt;
      unbroken_is = and_failed old.unbroken;
    }
