-- A job that looks at no more numbers, and one that looks at more numbers after others.
use Rattle.std.proofs.Common.{◌≡◌, ◌∙◌, sym, ap, refl, subst, arith, true, false, ℕ, ◌+◌, ◌-◌, ◌≤◌, List, [], ◌++◌, map, take, drop, Result, Ok, Err, append_assoc}
use Rattle.std.specs.Prelude.{◌≢◌, filter_map}
use Rattle.std.proofs.Math.Seq.{take-add, drop-drop}
use Rattle.std.proofs.lemmas.List.{append-nil}
use Rattle.std.proofs.lemmas.List.Elements.{filter_map-append}
use Rattle.hippo_model.specs.declared.audit.Audit.{Audit}
use Rattle.hippo_model.specs.declared.audit.Flag.{Flag}
use Rattle.hippo_model.specs.Terms.{History}
use Rattle.hippo_model.specs.StoredForms.{stored}
use Rattle.hippo_model.specs.Audits.{flag_of, flags_between}
use Rattle.hippo_keeper.specs.Keeping.{Store, KeeperState, IsReady, last_number}
use Rattle.hippo_keeper.proofs.RisingLemmas.{RisesAbove-lower}
use Rattle.hippo_typing.specs.Meanings.{meaning}
use Rattle.hippo_backlog.specs.declared.faults.ReadFault.{ReadFault}
use Rattle.hippo_backlog.specs.declared.faults.ReadFault.TheVariants.{Keeper, Damaged}
use Rattle.hippo_backlog.specs.Calls.{reading_as_call}
use Rattle.hippo_backlog.specs.ReadingAhead.{ReadAhead}
use Rattle.hippo_backlog.proofs.NumberLemmas.{last-higher}
use Rattle.hippo_backlog.proofs.CallLemmas.{reading_as_call-unfailed}
use Rattle.hippo_keeper.proofs.CallLemmas.{KeepsSame-here, KeepsSame-then, IsAfterCall-none, IsAfterCall-then}
use Rattle.hippo_audit_job.specs.declared.jobs.Job.{Job}
use Rattle.hippo_audit_job.specs.declared.past.Past.{Past}
use Rattle.hippo_audit_job.specs.Examining.{IsPastOf, Examination}
use Rattle.hippo_audit_job.specs.Looking.{ReadsAhead}
use Rattle.hippo_audit_job.specs.Jobs.{IsSoundJob, JobFits, LooksOn}
use Rattle.hippo_audit_job.proofs.CountLemmas.{RisesWith-none, RisesWith-then}

-- a range without numbers has no flags
pub flags_none : (history : History) (audit : Audit) (place : ℕ) → flags_between meaning history audit place place ≡ []
flags_none history audit place =
    let none : place - place ≡ 0 = omega arith in
    ap (λ (n : ℕ). filter_map (flag_of meaning history audit) (take n (drop place history))) none

-- the flags of a range are those of its parts
pub flags_parted : (history : History) (audit : Audit) (above cut upto : ℕ) → above ≤ cut → cut ≤ upto → flags_between meaning history audit above upto ≡ flags_between meaning history audit above cut ++ flags_between meaning history audit cut upto
flags_parted history audit above cut upto low high =
    let here : ℕ = cut - above in
    let later : ℕ = upto - cut in
    let whole : upto - above ≡ here + later = omega (arith, low, high) in
    let remaining : above + here ≡ cut = omega (arith, low) in
    let entries : take (upto - above) (drop above history) ≡ take here (drop above history) ++ take later (drop cut history) =
    ap (λ (n : ℕ). take n (drop above history)) whole ∙ take-add here later (drop above history)
    ∙ ap (λ (rest : History). take here (drop above history) ++ take later rest) (drop-drop here above history ∙ ap (λ (n : ℕ). drop n history) remaining) in
    ap (filter_map (flag_of meaning history audit)) entries
    ∙ filter_map-append (flag_of meaning history audit) (take here (drop above history)) (take later (drop cut history))

module _ {X : Type 0} (terms : Examination X) (upto : ℕ) (past : Past) where
  -- looking at no more numbers
  pub LooksOn-none : {A : Type 0} (job : Job X) (keeper : KeeperState) (steps : ℕ) → IsReady true keeper → IsSoundJob terms job → job.place ≤ upto → (result : Result A ReadFault) → result ≢ Err Keeper
      → ((history : History) → map stored history ≡ keeper.kept → IsPastOf past history → JobFits terms job history → (number : ℕ) → result ≢ Err (Damaged number))
      → LooksOn terms upto past result job job keeper keeper steps steps
  LooksOn-none job keeper steps ready sound within result unfailed undamaged = record {
    moves = record {
      is_after = IsAfterCall-none (reading_as_call result) keeper (reading_as_call-unfailed result unfailed) ready;
      stays = λ tells. KeepsSame-here keeper;
      is_sound = sound.examiner_is;
      limit = sound.asked;
      ledger = RisesWith-none (terms.handed job.examiner) steps;
    };
    is_sound = sound;
    same_audit = refl;
    same_length = refl;
    forward = omega arith;
    limit = within;
    told = λ tells history kept stands fits. record {
      fits_still = fits;
      flags = sym (append-nil job.waiting) ∙ ap (λ (l : List Flag). job.waiting ++ l) (sym (flags_none history job.audit job.place));
      undamaged = undamaged history kept stands fits;
    };
  }

  -- looking at some numbers, and then at more
  pub LooksOn-then : {A B : Type 0} (value : A) (result : Result B ReadFault) (old mid new : Job X) (before now after : KeeperState) (one two three : ℕ)
      → LooksOn {A = A} terms upto past (Ok value) old mid before now one two → LooksOn terms upto past result mid new now after two three
      → LooksOn terms upto past result old new before after one three
  LooksOn-then value result old mid new before now after one two three first second =
      let forward = first.forward in
      let further = second.forward in
      record {
        moves = record {
          is_after = IsAfterCall-then false (reading_as_call (Ok value)) (reading_as_call result) before now after refl first.moves.is_after second.moves.is_after;
          stays = λ tells. KeepsSame-then before now after (first.moves.stays (second.moves.is_after.told tells)) (second.moves.stays tells);
          is_sound = second.moves.is_sound;
          limit = second.moves.limit;
          ledger = RisesWith-then (terms.handed old.examiner) (terms.handed mid.examiner) (terms.handed new.examiner) one two three first.moves.ledger second.moves.ledger;
        };
        is_sound = second.is_sound;
        same_audit = second.same_audit ∙ first.same_audit;
        same_length = second.same_length ∙ first.same_length;
        forward = omega (arith, forward, further);
        limit = second.limit;
        told = λ tells history kept stands fits.
            let tells_now = second.moves.is_after.told tells in
            let looked = first.told tells_now history kept stands fits in
            let more = second.told tells history (kept ∙ sym (first.moves.stays tells_now).same) stands looked.fits_still in
            let here : List Flag = flags_between meaning history old.audit old.place mid.place in
            record {
              fits_still = more.fits_still;
              flags =
                  more.flags ∙ ap (λ (l : List Flag). l ++ flags_between meaning history mid.audit mid.place new.place) looked.flags
                  ∙ ap (λ (a : Audit). (old.waiting ++ here) ++ flags_between meaning history a mid.place new.place) first.same_audit
                  ∙ append_assoc old.waiting here (flags_between meaning history old.audit mid.place new.place)
                  ∙ ap (λ (l : List Flag). old.waiting ++ l) (sym (flags_parted history old.audit old.place mid.place new.place forward further));
              undamaged = more.undamaged;
            };
      }

  -- the place stays the same while logged queries of the period are read ahead
  pub LooksOn-read : {A : Type 0} (job : Job X) (result : Result A ReadFault) (questions : ReadAhead) (before after : KeeperState) (steps : ℕ) → IsSoundJob terms job → job.place ≤ upto → job.questions.waiting ≡ []
      → ReadsAhead job.audit job.length result job.questions questions before after → LooksOn terms upto past result job (record job { questions = questions }) before after steps steps
  LooksOn-read job result questions before after steps sound within used reads =
      let here : job.place ≤ job.questions.reached = subst (λ (s : Store). last_number job.place s ≤ job.questions.reached) used sound.read in
      let last = last-higher job.place job.questions.reached questions.waiting here in
      let read = reads.last in
      record {
        moves = record {
          is_after = reads.is_after;
          stays = reads.stays;
          is_sound = sound.examiner_is;
          limit = sound.asked;
          ledger = RisesWith-none (terms.handed job.examiner) steps;
        };
        is_sound = record {
          tables = sound.tables;
          within = sound.within;
          counted = sound.counted;
          read = omega (arith, last, read);
          ahead = RisesAbove-lower job.place job.questions.reached questions.waiting here reads.order;
          examiner_is = sound.examiner_is;
          asked = sound.asked;
        };
        same_audit = refl;
        same_length = refl;
        forward = omega arith;
        limit = within;
        told = λ tells history kept stands fits. record {
          fits_still = record {
            begun = fits.begun;
            audit_is = fits.audit_is;
            flags = fits.flags;
            split = reads.told tells history (record { forms = kept; valid = stands.valid }) fits.begun job.place fits.split;
            examiner_fits = fits.examiner_fits;
            once = fits.once;
          };
          flags = sym (append-nil job.waiting) ∙ ap (λ (l : List Flag). job.waiting ++ l) (sym (flags_none history job.audit job.place));
          undamaged = reads.undamaged;
        };
      }
