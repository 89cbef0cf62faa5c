-- The first logged query that was read ahead, decoded: the job after looking at it.
use Rattle.std.proofs.Common.{◌≡◌, ◌∙◌, sym, ap, refl, subst, arith, true, false, ℕ, ◌-◌, ◌<◌, ◌≤◌, List, slice_get, Option, Some, Result, Ok, Err}
use Rattle.std.specs.Prelude.{◌≢◌, option_and_then}
use Rattle.std.specs.Result.{result_map_both}
use Rattle.hippo_model.specs.declared.audit.Flag.{Flag}
use Rattle.hippo_model.specs.declared.audit.SharedRow.{SharedRow}
use Rattle.hippo_model.specs.declared.entry.Entry.{Entry}
use Rattle.hippo_model.specs.declared.stored.StoredEntry.{StoredEntry}
use Rattle.hippo_model.specs.StoredForms.{stored}
use Rattle.hippo_model.specs.Audits.{flag_by}
use Rattle.hippo_entry.specs.Forms.{IsEntryOf}
use Rattle.hippo_keeper.specs.declared.faults.KeeperFault.{KeeperFault}
use Rattle.hippo_keeper.specs.Answering.{has_failed}
use Rattle.hippo_keeper.specs.Keeping.{KeeperState, IsReady}
use Rattle.hippo_backlog.specs.declared.faults.ReadFault.{ReadFault}
use Rattle.hippo_backlog.specs.declared.faults.ReadFault.TheVariants.{Keeper, Damaged, Memory}
use Rattle.hippo_backlog.specs.Calls.{reading_as_call}
use Rattle.hippo_backlog.proofs.CallLemmas.{same_Err, reading_as_call-fault}
use Rattle.hippo_keeper.proofs.CallLemmas.{IsAfterCall-as}
use Rattle.hippo_keeper.proofs.Results.{err_of}
use Rattle.hippo_audit_job.specs.declared.jobs.Job.{Job}
use Rattle.hippo_audit_job.specs.declared.past.Past.{Past}
use Rattle.hippo_audit_job.specs.Examining.{Examination}
use Rattle.hippo_audit_job.specs.Looking.{IsDecoded, LooksAt}
use Rattle.hippo_audit_job.specs.Flagging.{IsFirstWaiting, FindsFlag}
use Rattle.hippo_audit_job.specs.Jobs.{with_flag, IsSoundJob, LooksOn}
use Rattle.hippo_audit_job.proofs.StepLemmas.{LooksOn-none}
use Rattle.hippo_audit_job.proofs.FirstLemmas.{above_place, looked_before, has_entry, LooksOn-before, LooksOn-after}

abbrev ok_of : {A : Type 0} → (B : Type 0) → A → Result A B
ok_of B value = Ok value

same_Ok : {A B : Type 0} (x y : A) → ok_of B x ≡ Ok y → x ≡ y
same_Ok x y e = cc

module _ {X : Type 0} (terms : Examination X) where
  -- `LooksOn` for another result, and for a higher number
  pub LooksOn-as : {A B : Type 0} (low high : ℕ) (past : Past) (one : Result A ReadFault) (other : Result B ReadFault) (old new : Job X) (before after : KeeperState) (steps_old steps_new : ℕ) → low ≤ high
      → has_failed (reading_as_call other) ≡ has_failed (reading_as_call one) → ((number : ℕ) → one ≢ Err (Damaged number) → other ≢ Err (Damaged number))
      → LooksOn terms low past one old new before after steps_old steps_new → LooksOn terms high past other old new before after steps_old steps_new
  LooksOn-as low high past one other old new before after steps_old steps_new up same undamaged looks =
      let limit = looks.limit in
      record {
        moves = record {
          is_after = IsAfterCall-as true false (reading_as_call one) (reading_as_call other) before after same looks.moves.is_after;
          stays = looks.moves.stays;
          is_sound = looks.moves.is_sound;
          limit = looks.moves.limit;
          ledger = looks.moves.ledger;
        };
        is_sound = looks.is_sound;
        same_audit = looks.same_audit;
        same_length = looks.same_length;
        forward = looks.forward;
        limit = omega (arith, limit, up);
        told = λ tells history forms stands fits.
            let over = looks.told tells history forms stands fits in
            record { fits_still = over.fits_still; flags = over.flags; undamaged = λ number. undamaged number (over.undamaged number) };
      }

  -- a fault, at any result type
  pub LooksOn-fault : (A B : Type 0) (low high : ℕ) (past : Past) (fault : ReadFault) (old new : Job X) (before after : KeeperState) (steps_old steps_new : ℕ) → low ≤ high
      → LooksOn terms low past (err_of A fault) old new before after steps_old steps_new → LooksOn terms high past (err_of B fault) old new before after steps_old steps_new
  LooksOn-fault A B low high past fault old new before after steps_old steps_new up looks =
      LooksOn-as low high past (err_of A fault) (err_of B fault) old new before after steps_old steps_new up (ap (λ (r : Result (Unit {0}) KeeperFault). has_failed r) (reading_as_call-fault B A fault))
      (λ number not e. not (ap (err_of A) (same_Err fault (Damaged number) e))) looks

  -- if the first stored entry is not decoded, the job stays the same
  pub LooksOn-undecoded : (A : Type 0) (job : Job X) (sound : IsSoundJob terms job) (upto : ℕ) (past : Past) (keeper : KeeperState) (steps : ℕ) → job.place ≤ upto → IsReady true keeper → (kept : StoredEntry) → slice_get job.questions.waiting 0 ≡ Some kept
      → (fault : ReadFault) → IsDecoded kept (err_of Entry fault) → LooksOn terms upto past (err_of A fault) job job keeper keeper steps steps
  LooksOn-undecoded A job sound upto past keeper steps up ready kept first Keeper decoded = absurd decoded
  LooksOn-undecoded A job sound upto past keeper steps up ready kept first (Damaged number) decoded =
      LooksOn-none terms upto past job keeper steps ready sound up (err_of A (Damaged number)) (λ e. absurd cc) (λ history forms stands fits other e. has_entry terms job history stands.valid fits kept first decoded.0)
  LooksOn-undecoded A job sound upto past keeper steps up ready kept first Memory decoded =
      LooksOn-none terms upto past job keeper steps ready sound up (err_of A Memory) (λ e. absurd cc) (λ history forms stands fits other e. absurd cc)

  module _ (job : Job X) (sound : IsSoundJob terms job) (entry : Entry) (first : IsFirstWaiting job.questions entry) where
    is_stored : first.kept ≡ stored entry
    is_stored = sym first.form.sound.1

    at_first : slice_get job.questions.waiting 0 ≡ Some (stored entry)
    at_first = first.stands ∙ ap Some is_stored

    own_form : IsEntryOf (stored entry) (Some entry)
    own_form = subst (λ (k : StoredEntry). IsEntryOf k (Some entry)) is_stored first.form

    -- its number is above the job's place
    pub number_above : job.place < entry.seq
    number_above = above_place job.questions.waiting (stored entry) job.place at_first sound.ahead

    module _ (within : entry.seq ≤ job.length) (past : Past) (new : X) (before after : KeeperState) (steps_old steps_new : ℕ) where
      flagged_so : (shares : Result (Option (List SharedRow)) ReadFault) (flag : Option Flag) → LooksAt terms past job.audit entry shares job.examiner new before after steps_old steps_new → Ok flag ≡ result_map_both (option_and_then (flag_by entry entry.act)) (λ (f : ReadFault). f) shares
          → LooksOn {A = Unit {0}} terms entry.seq past (Ok tt) job (with_flag entry.seq flag (looked_before (entry.seq - 1) new job)) before after steps_old steps_new
      flagged_so (Ok shares) flag looks is =
          subst (λ (f : Option Flag). LooksOn {A = Unit {0}} terms entry.seq past (Ok tt) job (with_flag entry.seq f (looked_before (entry.seq - 1) new job)) before after steps_old steps_new) (sym (same_Ok flag (option_and_then (flag_by entry entry.act) shares) is))
          (LooksOn-after terms job sound (stored entry) at_first within past entry.seq (omega arith) entry own_form new before after steps_old steps_new {A = Unit {0}} shares looks tt)
      flagged_so (Err fault) flag looks is = absurd cc

      -- with a flag or without one, the job is then at the entry's number
      pub LooksOn-flagged : (flag : Option Flag) → FindsFlag terms past job.audit entry (Ok flag) job.examiner new before after steps_old steps_new
          → LooksOn {A = Unit {0}} terms entry.seq past (Ok tt) job (with_flag entry.seq flag (looked_before (entry.seq - 1) new job)) before after steps_old steps_new
      LooksOn-flagged flag finds = flagged_so finds.shares flag finds.looks finds.found

      short_so : (shares : Result (Option (List SharedRow)) ReadFault) (flag : Option Flag) → LooksAt terms past job.audit entry shares job.examiner new before after steps_old steps_new → Ok flag ≡ result_map_both (option_and_then (flag_by entry entry.act)) (λ (f : ReadFault). f) shares
          → LooksOn {A = Unit {0}} terms entry.seq past (Err Memory) job (looked_before (entry.seq - 1) new job) before after steps_old steps_new
      short_so (Ok shares) flag looks is =
          LooksOn-before terms job sound (stored entry) at_first within past entry.seq (omega arith) entry own_form new before after steps_old steps_new {A = Unit {0}} (Ok shares) looks (Err Memory) refl (λ number not e. absurd cc)
      short_so (Err fault) flag looks is = absurd cc

      -- if there is no memory for the flag, the job is at the number before
      pub LooksOn-short : (flag : Option Flag) → FindsFlag terms past job.audit entry (Ok flag) job.examiner new before after steps_old steps_new
          → LooksOn {A = Unit {0}} terms entry.seq past (Err Memory) job (looked_before (entry.seq - 1) new job) before after steps_old steps_new
      LooksOn-short flag finds = short_so finds.shares flag finds.looks finds.found

      failed_so : (shares : Result (Option (List SharedRow)) ReadFault) (fault : ReadFault) → LooksAt terms past job.audit entry shares job.examiner new before after steps_old steps_new → err_of (Option Flag) fault ≡ result_map_both (option_and_then (flag_by entry entry.act)) (λ (f : ReadFault). f) shares
          → LooksOn terms entry.seq past (err_of (Unit {0}) fault) job (looked_before (entry.seq - 1) new job) before after steps_old steps_new
      failed_so (Ok shares) fault looks is = absurd cc
      failed_so (Err other) fault looks is =
          subst (λ (f : ReadFault). LooksOn terms entry.seq past (err_of (Unit {0}) f) job (looked_before (entry.seq - 1) new job) before after steps_old steps_new) (sym (same_Err fault other is))
          (LooksOn-before terms job sound (stored entry) at_first within past entry.seq (omega arith) entry own_form new before after steps_old steps_new {A = Unit {0}} (err_of (Option (List SharedRow)) other) looks (err_of (Unit {0}) other)
          (ap (λ (r : Result (Unit {0}) KeeperFault). has_failed r) (reading_as_call-fault (Unit {0}) (Option (List SharedRow)) other)) (λ number not e. not (ap (err_of (Option (List SharedRow))) (same_Err other (Damaged number) e))))

      -- the same if the shared tuple is not found
      pub LooksOn-failed : (fault : ReadFault) → FindsFlag terms past job.audit entry (err_of (Option Flag) fault) job.examiner new before after steps_old steps_new
          → LooksOn terms entry.seq past (err_of (Unit {0}) fault) job (looked_before (entry.seq - 1) new job) before after steps_old steps_new
      LooksOn-failed fault finds = failed_so finds.shares fault finds.looks finds.found
