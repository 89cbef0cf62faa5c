-- A job whose place moves to a number, with no logged query waiting up to it.
use Rattle.std.proofs.Common.{◌≡◌, ◌∙◌, sym, ap, refl, arith, ℕ, ◌+◌, ◌<◌, ◌≤◌, Bool, true, false, List, [], ◌∷◌, ◌++◌, length, nat_le, slice_get}
use Rattle.std.specs.Prelude.{◌||◌, is_some}
use Rattle.std.proofs.lemmas.Bool.{false≢true}
use Rattle.std.proofs.lemmas.Bool.Decides.{nat_tests}
use Rattle.std.proofs.lemmas.List.{append-nil}
use Rattle.hippo_model.specs.declared.audit.Flag.{Flag}
use Rattle.hippo_model.specs.Audits.{flags_between}
use Rattle.hippo_keeper.specs.Keeping.{Store, KeeperState, IsReady, RisesAbove, last_number}
use Rattle.hippo_typing.specs.Meanings.{meaning}
use Rattle.hippo_backlog.specs.declared.faults.ReadFault.{ReadFault}
use Rattle.hippo_backlog.specs.Calls.{reading_as_call}
use Rattle.hippo_backlog.specs.ReadingAhead.{ReadAhead, BeginsAbove, has_read}
use Rattle.hippo_backlog.proofs.AheadLemmas.{IsAhead-moved}
use Rattle.hippo_keeper.proofs.CallLemmas.{KeepsSame-here, IsAfterCall-none}
use Rattle.hippo_keeper.proofs.Results.{well}
use Rattle.hippo_audit_job.specs.declared.jobs.Job.{Job}
use Rattle.hippo_audit_job.specs.declared.past.Past.{Past}
use Rattle.hippo_audit_job.specs.Examining.{Examination}
use Rattle.hippo_audit_job.specs.Looking.{is_question_in_period}
use Rattle.hippo_audit_job.specs.Jobs.{IsSoundJob, LooksOn}
use Rattle.hippo_audit_job.proofs.CountLemmas.{RisesWith-none}
use Rattle.hippo_audit_job.proofs.StepLemmas.{flags_parted}
use Rattle.hippo_audit_job.proofs.FirstLemmas.{skipped}

rises_above : (held : Store) (low high : ℕ) → BeginsAbove high held → RisesAbove low held → RisesAbove high held
rises_above [] low high begins rises = tt
rises_above (one ∷ rest) low high begins rises = (begins, rises.1)

within_reached : (high reached : ℕ) → (nat_le high reached || false) ≡ true → high ≤ reached
within_reached high reached read =
    (elim (nat_le high reached) as (λ within. nat_le high reached ≡ within → (within || false) ≡ true → high ≤ reached) [
      | true ↦ λ is e. grind (arith, nat_tests)
      | false ↦ λ is e. absurd (false≢true e)
    ]) refl read

last_within : (held : Store) (low high reached : ℕ) → (nat_le high reached || is_some (slice_get held 0)) ≡ true → last_number low held ≤ reached → last_number high held ≤ reached
last_within [] low high reached read within = within_reached high reached read
last_within (one ∷ rest) low high reached read within = within

-- if not all is read, nothing waits
pub none_waiting : (number : ℕ) (ahead : ReadAhead) → has_read number ahead ≡ false → ahead.waiting ≡ []
none_waiting number ahead read = empty_slots ahead.waiting read
  where
    some_read : (within : Bool) → (within || true) ≡ false → ⊥
    some_read true e = absurd cc
    some_read false e = absurd cc

    empty_slots : (held : Store) → (nat_le number ahead.reached || is_some (slice_get held 0)) ≡ false → held ≡ []
    empty_slots [] e = refl
    empty_slots (one ∷ rest) e = absurd (some_read (nat_le number ahead.reached) e)

-- and less than the number is read
pub less_read : (number : ℕ) (ahead : ReadAhead) → has_read number ahead ≡ false → ahead.reached < number
less_read number ahead read = below (is_some (slice_get ahead.waiting 0)) read
  where
    below : (waits : Bool) → (nat_le number ahead.reached || waits) ≡ false → ahead.reached < number
    below waits e =
        (elim (nat_le number ahead.reached) as (λ within. nat_le number ahead.reached ≡ within → (within || waits) ≡ false → ahead.reached < number) [
          | true ↦ λ is e. absurd (false≢true (sym e))
          | false ↦ λ is e. grind (arith, nat_tests)
        ]) refl e

module _ {X : Type 0} (terms : Examination X) where
  pub LooksOn-passed : (upto : ℕ) (past : Past) (job : Job X) (keeper : KeeperState) (steps : ℕ) → IsReady true keeper → IsSoundJob terms job → job.place ≤ upto → upto ≤ job.length → BeginsAbove upto job.questions.waiting → has_read upto job.questions ≡ true
      → LooksOn terms upto past (well ReadFault) job (record job { place = upto }) keeper keeper steps steps
  LooksOn-passed upto past job keeper steps ready sound forward within begins read =
      let counted = sound.counted in
      let order = sound.asked in
      record {
        moves = record {
          is_after = IsAfterCall-none (reading_as_call (well ReadFault)) keeper refl ready;
          stays = λ tells. KeepsSame-here keeper;
          is_sound = sound.examiner_is;
          limit = omega (arith, order, forward);
          ledger = RisesWith-none (terms.handed job.examiner) steps;
        };
        is_sound = record {
          tables = sound.tables;
          within = within;
          counted = omega (arith, counted, forward);
          read = last_within job.questions.waiting job.place upto job.questions.reached read sound.read;
          ahead = rises_above job.questions.waiting job.place upto begins sound.ahead;
          examiner_is = sound.examiner_is;
          asked = omega (arith, order, forward);
        };
        same_audit = refl;
        same_length = refl;
        forward = forward;
        limit = omega arith;
        told = λ tells history kept stands fits.
            let moved = IsAhead-moved (is_question_in_period job.audit) job.place job.questions history fits.split upto forward begins read in
            let nothing : flags_between meaning history job.audit job.place upto ≡ [] = skipped history job.audit job.questions job.place upto stands.valid forward fits.split moved.0 moved.1 in
            let front : List Flag = flags_between meaning history job.audit 0 job.place in
            record {
              fits_still = record {
                begun = fits.begun;
                audit_is = fits.audit_is;
                flags =
                    fits.flags ∙ ap (λ (l : List Flag). length l)
                    (sym (flags_parted history job.audit 0 job.place upto (omega arith) forward ∙ ap (λ (l : List Flag). front ++ l) nothing ∙ append-nil front));
                split = moved.0;
                examiner_fits = terms.onward job.examiner history (job.place + 1) (upto + 1) (omega (arith, forward)) fits.examiner_fits;
                once = fits.once;
              };
              flags = sym (append-nil job.waiting) ∙ ap (λ (l : List Flag). job.waiting ++ l) (sym nothing);
              undamaged = λ number e. absurd cc;
            };
      }
