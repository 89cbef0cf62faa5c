-- The first logged query that was read ahead: its entry in the history, and the job after looking
-- at it.
use Rattle.std.proofs.Common.{◌≡◌, ◌∙◌, sym, ap, refl, subst, arith, ℕ, zero, suc, ◌+◌, ◌-◌, ◌<◌, ◌≤◌, Bool, true, false, cond, List, [], ◌∷◌, ◌++◌, map, filter, length, take, drop, nat_le, slice_get, Option, None, Some, Result, Ok, Err, length-append}
use Rattle.std.specs.Prelude.{◌≢◌, ◌||◌, filter_map, option_and_then, option_to_list, is_some}
use Rattle.std.specs.List.{AllByRecursion, cons_option}
use Rattle.std.proofs.Math.Seq.{take-add}
use Rattle.std.proofs.lemmas.Bool.{and_parts}
use Rattle.std.proofs.lemmas.List.{append-nil}
use Rattle.std.proofs.lemmas.List.Elements.{filter-append}
use Rattle.std.proofs.Math.Bool.{or-true}
use Rattle.hippo_model.specs.declared.audit.Audit.{Audit}
use Rattle.hippo_model.specs.declared.audit.Flag.{Flag}
use Rattle.hippo_model.specs.declared.audit.SharedRow.{SharedRow}
use Rattle.hippo_model.specs.declared.entry.Entry.{Entry}
use Rattle.hippo_model.specs.declared.stored.StoredEntry.{StoredEntry}
use Rattle.hippo_model.specs.Terms.{History}
use Rattle.hippo_model.specs.Keepable.{is_keepable}
use Rattle.hippo_model.specs.StoredForms.{stored}
use Rattle.hippo_model.specs.Validity.{is_valid}
use Rattle.hippo_model.specs.Versions.{versions}
use Rattle.hippo_model.specs.Audits.{flag_by, flag_of, flags_between, shared_tuple}
use Rattle.hippo_model_laws.proofs.ValidFronts.{entry_has_its_number}
use Rattle.hippo_entry.specs.Forms.{IsEntryOf}
use Rattle.hippo_keeper.specs.Keeping.{Store, KeeperState, RisesAbove, last_number}
use Rattle.hippo_typing.specs.Meanings.{meaning}
use Rattle.hippo_backlog.specs.declared.faults.ReadFault.{ReadFault}
use Rattle.hippo_backlog.specs.declared.faults.ReadFault.TheVariants.{Damaged}
use Rattle.hippo_backlog.specs.Calls.{reading_as_call}
use Rattle.hippo_keeper.specs.Answering.{has_failed}
use Rattle.hippo_keeper.proofs.CallLemmas.{IsAfterCall-as}
use Rattle.hippo_backlog.specs.ReadingAhead.{ReadAhead, without_first, BeginsAbove, has_read, IsAhead}
use Rattle.hippo_backlog.proofs.AheadLemmas.{IsAhead-used, IsAhead-moved}
use Rattle.hippo_backlog.proofs.NumberLemmas.{passed_at}
use Rattle.hippo_backlog.proofs.VersionsTheorem.{StandsAt, stands_at, may_there}
use Rattle.hippo_audit_job.specs.declared.jobs.Job.{Job}
use Rattle.hippo_audit_job.specs.declared.past.Past.{Past}
use Rattle.hippo_audit_job.specs.Examining.{RisesWith, Examination}
use Rattle.hippo_audit_job.specs.Looking.{is_question_in_period, IsQuestionOf, LooksAtKept, LooksAt}
use Rattle.hippo_audit_job.specs.Jobs.{with_flag, IsSoundJob, JobFits, LooksOn}
use Rattle.hippo_audit_job.proofs.CountLemmas.{AreWithin-then}
use Rattle.hippo_audit_job.proofs.StepLemmas.{flags_parted}
use Rattle.hippo_audit_job.proofs.StretchLemmas.{no_questions}

some_is : {A : Type 0} (x y : A) → Some x ≡ Some y → x ≡ y
some_is x y e = cc

none_pass : (test : Entry → Bool) (list : List Entry) → filter test list ≡ [] → AllByRecursion (λ entry. test entry ≡ false) list
none_pass test [] none = tt
none_pass test (entry ∷ rest) none =
    (elim (test entry) as (λ passes. test entry ≡ passes → cond passes (entry ∷ filter test rest) (filter test rest) ≡ [] → (test entry ≡ false) × AllByRecursion (λ e. test e ≡ false) rest) [
      | true ↦ λ is e. absurd cc
      | false ↦ λ is e. (is, none_pass test rest e)
    ]) refl none

nothing_more : (front more : List Entry) → front ++ more ≡ front → more ≡ []
nothing_more [] more same = same
nothing_more (first ∷ front) more same = nothing_more front more (ap (drop 1) same)

-- the flags between two places that have the same logged queries before them
pub skipped : (history : History) (audit : Audit) (ahead : ReadAhead) (low high : ℕ) → is_valid meaning history ≡ true → low ≤ high
    → (split : IsAhead (is_question_in_period audit) low ahead history) (moved : IsAhead (is_question_in_period audit) high ahead history) → moved.used ≡ split.used → flags_between meaning history audit low high ≡ []
skipped history audit ahead low high valid le split moved same =
    let test : Entry → Bool = is_question_in_period audit in
    let more : List Entry = take (high - low) (drop low history) in
    let whole : high ≡ low + (high - low) = omega (arith, le) in
    let one = passed_at meaning history test low split.used (split.waiting ++ split.later) valid split.parts split.used_up_to split.left_above in
    let other = passed_at meaning history test high moved.used (moved.waiting ++ moved.later) valid moved.parts moved.used_up_to moved.left_above in
    let parts : filter test (take high history) ≡ filter test (take low history) ++ filter test more = ap (λ (n : ℕ). filter test (take n history)) whole ∙ ap (filter test) (take-add low (high - low) history) ∙ filter-append test (take low history) more in
    no_questions meaning history audit more (none_pass test more (nothing_more (filter test (take low history)) (filter test more) (sym parts ∙ sym other ∙ same ∙ one)))

at_end : (front remaining : History) (entry : Entry) → slice_get (front ++ entry ∷ remaining) (length front) ≡ Some entry
at_end [] remaining entry = refl
at_end (first ∷ front) remaining entry = at_end front remaining entry

one_there : (history : History) (place : ℕ) (entry : Entry) → slice_get history place ≡ Some entry → take 1 (drop place history) ≡ entry ∷ []
one_there [] place entry is = absurd cc
one_there (first ∷ rest) zero entry is = ap (λ (e : Entry). e ∷ []) (some_is first entry is)
one_there (first ∷ rest) (suc place) entry is = one_there rest place entry is

as_list : (flag : Option Flag) → cons_option flag [] ≡ option_to_list flag
as_list None = refl
as_list (Some flag) = refl

-- the flag of one entry
own_flag : (history : History) (audit : Audit) (place : ℕ) (entry : Entry) → slice_get history place ≡ Some entry → flags_between meaning history audit place (place + 1) ≡ option_to_list (flag_of meaning history audit entry)
own_flag history audit place entry is =
    let one : place + 1 - place ≡ 1 = omega arith in
    ap (λ (n : ℕ). filter_map (flag_of meaning history audit) (take n (drop place history))) one
    ∙ ap (filter_map (flag_of meaning history audit)) (one_there history place entry is) ∙ as_list (flag_of meaning history audit entry)

pub record FirstWaits (waiting : History) (kept : StoredEntry) : Type 0 where
  pub entry : Entry
  pub rest : History
  pub parts : waiting ≡ entry ∷ rest
  pub form : stored entry ≡ kept

pub first_waits : (waiting : History) (held : Store) (kept : StoredEntry) → held ≡ map stored waiting → slice_get held 0 ≡ Some kept → FirstWaits waiting kept
first_waits [] held kept forms first =
    let none = sym (ap (λ (s : Store). slice_get s 0) forms) ∙ first in
    absurd cc
first_waits (entry ∷ rest) held kept forms first = record {
  entry = entry;
  rest = rest;
  parts = refl;
  form = some_is (stored entry) kept (sym (ap (λ (s : Store). slice_get s 0) forms) ∙ first);
}

pub begins_before : (held : Store) (kept : StoredEntry) (place : ℕ) → slice_get held 0 ≡ Some kept → place < kept.seq → BeginsAbove place held
begins_before [] kept place first below = tt
begins_before (one ∷ rest) kept place first below = subst (λ (k : StoredEntry). place < k.seq) (sym (some_is one kept first)) below

reads_so : (number : ℕ) (ahead : ReadAhead) (kept : StoredEntry) → slice_get ahead.waiting 0 ≡ Some kept → has_read number ahead ≡ true
reads_so number ahead kept first = ap (λ (o : Option StoredEntry). nat_le number ahead.reached || is_some o) first ∙ or-true (nat_le number ahead.reached)

pub above_place : (held : Store) (kept : StoredEntry) (place : ℕ) → slice_get held 0 ≡ Some kept → RisesAbove place held → place < kept.seq
above_place [] kept place first rises = absurd cc
above_place (one ∷ rest) kept place first rises = subst (λ (k : StoredEntry). place < k.seq) (some_is one kept first) rises.0

moved_rises : (held : Store) (kept : StoredEntry) (low high : ℕ) → slice_get held 0 ≡ Some kept → high < kept.seq → RisesAbove low held → RisesAbove high held
moved_rises [] kept low high first below rises = tt
moved_rises (one ∷ rest) kept low high first below rises = (subst (λ (k : StoredEntry). high < k.seq) (sym (some_is one kept first)) below, rises.1)

moved_last : (held : Store) (kept : StoredEntry) (low high : ℕ) → slice_get held 0 ≡ Some kept → last_number high held ≡ last_number low held
moved_last [] kept low high first = absurd cc
moved_last (one ∷ rest) kept low high first = refl

rest_rises : (held : Store) (kept : StoredEntry) (low : ℕ) → slice_get held 0 ≡ Some kept → RisesAbove low held → RisesAbove kept.seq (drop 1 held)
rest_rises [] kept low first rises = tt
rest_rises (one ∷ rest) kept low first rises = subst (λ (k : StoredEntry). RisesAbove k.seq rest) (some_is one kept first) rises.1

rest_last : (held : Store) (kept : StoredEntry) (low : ℕ) → slice_get held 0 ≡ Some kept → last_number kept.seq (drop 1 held) ≡ last_number low held
rest_last [] kept low first = absurd cc
rest_last (one ∷ rest) kept low first = ap (λ (k : StoredEntry). last_number k.seq rest) (sym (some_is one kept first))

-- the job after looking up to a place, with its examiner as it is now
abbrev pub looked_before : {X : Type 0} → ℕ → X → Job X → Job X
looked_before place examiner job = record job { place = place; examiner = examiner }

module _ {X : Type 0} (terms : Examination X) where
  module _ (job : Job X) (history : History) (valid : is_valid meaning history ≡ true) (fits : JobFits terms job history) (kept : StoredEntry) (first : slice_get job.questions.waiting 0 ≡ Some kept) where
    abbrev waits : FirstWaits fits.split.waiting kept
    waits = first_waits fits.split.waiting job.questions.waiting kept fits.split.forms first

    there : StandsAt (is_question_in_period job.audit) history fits.split.used waits.entry
    there =
        stands_at (is_question_in_period job.audit) history fits.split.used (waits.rest ++ fits.split.later) waits.entry
        (fits.split.parts ∙ ap (λ (w : History). fits.split.used ++ (w ++ fits.split.later)) waits.parts)

    -- it is a logged query of the history
    pub is_there : IsQuestionOf history job.audit waits.entry
    is_there = record {
      stands = record { valid = valid; place = length there.front; stands = ap (λ (h : History). slice_get h (length there.front)) there.whole ∙ at_end there.front there.remaining waits.entry };
      asked = there.passes;
    }

    is_kept : is_keepable waits.entry ≡ true
    is_kept =
        let may = may_there meaning there.front there.remaining waits.entry (ap (is_valid meaning) (sym there.whole) ∙ valid) in
        (and_parts _ _ (and_parts _ _ (and_parts _ _ may).0).0).0

    -- its stored form decodes
    pub has_entry : IsEntryOf kept None → ⊥
    has_entry none = none_some (none.only waits.entry (is_kept, waits.form))
      where
        none_some : {x : Entry} → None ≡ Some x → ⊥
        none_some e = cc

    pub is_entry : (entry : Entry) → IsEntryOf kept (Some entry) → entry ≡ waits.entry
    is_entry entry found = some_is entry waits.entry (found.only waits.entry (is_kept, waits.form))

    module _ (sound : IsSoundJob terms job) (entry : Entry) (found : IsEntryOf kept (Some entry)) (new : X) where
      below : job.place < kept.seq
      below = above_place job.questions.waiting kept job.place first sound.ahead

      number_is : entry.seq ≡ kept.seq
      number_is = ap (λ (k : StoredEntry). k.seq) found.sound.1

      -- the logged queries before its number are used
      moved : (now : IsAhead (is_question_in_period job.audit) (kept.seq - 1) job.questions history) × (now.used ≡ fits.split.used)
      moved =
          let under = below in
          IsAhead-moved (is_question_in_period job.audit) job.place job.questions history fits.split (kept.seq - 1) (omega (arith, under)) (begins_before job.questions.waiting kept (kept.seq - 1) first (omega (arith, under))) (reads_so (kept.seq - 1) job.questions kept first)

      none_between : flags_between meaning history job.audit job.place (kept.seq - 1) ≡ []
      none_between =
          let under = below in
          skipped history job.audit job.questions job.place (kept.seq - 1) valid (omega (arith, under)) fits.split moved.0 moved.1

      pub fits_at : terms.fits job.examiner history entry.seq
      fits_at =
          let under = below in
          let number = number_is in
          terms.onward job.examiner history (job.place + 1) entry.seq (omega (arith, under, number)) fits.examiner_fits

      -- before the flag is added, the job fits at the number before the entry
      pub JobFits-before : (result : Result (Option (List SharedRow)) ReadFault) (steps_old steps_new : ℕ) → RisesWith (terms.handed job.examiner) (terms.handed new) steps_old steps_new
          → LooksAtKept terms history job.audit entry result job.examiner new steps_old steps_new → JobFits terms (looked_before (kept.seq - 1) new job) history
      JobFits-before result steps_old steps_new ledger looked =
          let under = below in
          let number = number_is in
          let before : ℕ = kept.seq - 1 in
          let next : entry.seq ≡ before + 1 = omega (arith, under, number) in
          record {
            begun = fits.begun;
            audit_is = fits.audit_is;
            flags =
                fits.flags ∙ ap (λ (l : List Flag). length l) (sym (flags_parted history job.audit 0 job.place before (omega arith) (omega (arith, under)) ∙ ap (λ (l : List Flag). flags_between meaning history job.audit 0 job.place ++ l) none_between ∙ append-nil (flags_between meaning history job.audit 0 job.place)));
            split = moved.0;
            examiner_fits = subst (λ (n : ℕ). terms.fits new history n) next looked.fits_still;
            once = AreWithin-then (terms.handed job.examiner) (terms.handed new) (terms.unread job.examiner history) (terms.unread new history) steps_old steps_new (versions history) ledger looked.once fits.once;
          }

      pub flags_before : job.waiting ≡ job.waiting ++ flags_between meaning history job.audit job.place (kept.seq - 1)
      flags_before = sym (append-nil job.waiting) ∙ ap (λ (l : List Flag). job.waiting ++ l) (sym none_between)

      -- the entry's own flag
      own : (shares : Option (List SharedRow)) → shares ≡ shared_tuple meaning history job.audit entry → flags_between meaning history job.audit (kept.seq - 1) kept.seq ≡ option_to_list (option_and_then (flag_by entry entry.act) shares)
      own shares is =
          let under = below in
          let number = number_is in
          let same = is_entry entry found in
          let question = is_there in
          let place_is : waits.entry.seq ≡ question.stands.place + 1 = entry_has_its_number meaning history valid question.stands.place waits.entry question.stands.stands in
          let seq_same : entry.seq ≡ waits.entry.seq = ap (λ (e : Entry). e.seq) same in
          let place_at : question.stands.place ≡ kept.seq - 1 = omega (arith, place_is, seq_same, number) in
          let next : kept.seq ≡ kept.seq - 1 + 1 = omega (arith, under) in
          let stands : slice_get history (kept.seq - 1) ≡ Some entry = ap (slice_get history) (sym place_at) ∙ question.stands.stands ∙ ap Some (sym same) in
          ap (λ (n : ℕ). flags_between meaning history job.audit (kept.seq - 1) n) next
          ∙ own_flag history job.audit (kept.seq - 1) entry stands
          ∙ ap (λ (o : Option (List SharedRow)). option_to_list (option_and_then (flag_by entry entry.act) o)) (sym is)

      module _ (shares : Option (List SharedRow)) (is : shares ≡ shared_tuple meaning history job.audit entry) where
        abbrev flag : Option Flag
        flag = option_and_then (flag_by entry entry.act) shares

        both : flags_between meaning history job.audit job.place kept.seq ≡ option_to_list flag
        both =
            let under = below in
            flags_parted history job.audit job.place (kept.seq - 1) kept.seq (omega (arith, under)) (omega arith) ∙ ap (λ (l : List Flag). l ++ flags_between meaning history job.audit (kept.seq - 1) kept.seq) none_between ∙ own shares is

        pub flags_after : job.waiting ++ option_to_list flag ≡ job.waiting ++ flags_between meaning history job.audit job.place kept.seq
        flags_after = ap (λ (l : List Flag). job.waiting ++ l) (sym both)

        -- and afterwards at the number of the entry
        pub JobFits-after : JobFits terms (looked_before (kept.seq - 1) new job) history → JobFits terms (with_flag kept.seq flag (looked_before (kept.seq - 1) new job)) history
        JobFits-after before =
            let under = below in
            let seq : waits.entry.seq ≡ kept.seq = ap (λ (k : StoredEntry). k.seq) waits.form in
            let front : List Flag = flags_between meaning history job.audit 0 job.place in
            let next : kept.seq - 1 + 1 ≡ kept.seq = omega (arith, under) in
            record {
              begun = before.begun;
              audit_is = before.audit_is;
              flags =
                  ap (λ (n : ℕ). n + length (option_to_list flag)) fits.flags ∙ sym (length-append front (option_to_list flag))
                  ∙ ap (λ (l : List Flag). length l) (ap (λ (l : List Flag). front ++ l) (sym both) ∙ sym (flags_parted history job.audit 0 job.place kept.seq (omega arith) (omega (arith, under))));
              split = subst (λ (n : ℕ). IsAhead (is_question_in_period job.audit) n (without_first job.questions) history) seq (IsAhead-used (is_question_in_period job.audit) job.place job.questions history fits.split waits.entry waits.rest waits.parts).0;
              examiner_fits = terms.onward new history (kept.seq - 1 + 1) (kept.seq + 1) (omega (arith, next)) before.examiner_fits;
              once = before.once;
            }

  -- the job at the number before a logged query, whatever was found for it
  module _ (job : Job X) (sound : IsSoundJob terms job) (kept : StoredEntry) (first : slice_get job.questions.waiting 0 ≡ Some kept) (within : kept.seq ≤ job.length) where
    under : job.place < kept.seq
    under = above_place job.questions.waiting kept job.place first sound.ahead

    pub IsSoundJob-before : (new : X) → terms.sound new → terms.upto new ≤ kept.seq → IsSoundJob terms (looked_before (kept.seq - 1) new job)
    IsSoundJob-before new good order =
        let below = under in
        let counted = sound.counted in
        let read = sound.read in
        let last = moved_last job.questions.waiting kept job.place (kept.seq - 1) first in
        record {
          tables = sound.tables;
          within = omega (arith, within);
          counted = omega (arith, counted, below);
          read = omega (arith, last, read);
          ahead = moved_rises job.questions.waiting kept job.place (kept.seq - 1) first (omega (arith, below)) sound.ahead;
          examiner_is = good;
          asked = omega (arith, order, below);
        }

    one_at_most : (flag : Option Flag) → length (option_to_list flag) ≤ 1
    one_at_most None = omega arith
    one_at_most (Some flag) = omega arith

    pub IsSoundJob-after : (new : X) (flag : Option Flag) → terms.sound new → terms.upto new ≤ kept.seq → IsSoundJob terms (with_flag kept.seq flag (looked_before (kept.seq - 1) new job))
    IsSoundJob-after new flag good order =
        let below = under in
        let counted = sound.counted in
        let read = sound.read in
        let one = one_at_most flag in
        let last = rest_last job.questions.waiting kept job.place first in
        record {
          tables = sound.tables;
          within = within;
          counted = omega (arith, counted, below, one);
          read = omega (arith, last, read);
          ahead = rest_rises job.questions.waiting kept job.place first sound.ahead;
          examiner_is = good;
          asked = omega (arith, order);
        }

    module _ (past : Past) (upto : ℕ) (up : kept.seq ≤ upto) (entry : Entry) (found : IsEntryOf kept (Some entry)) (new : X) (before after : KeeperState) (steps_old steps_new : ℕ) where
      seq_is : entry.seq ≡ kept.seq
      seq_is = ap (λ (k : StoredEntry). k.seq) found.sound.1

      asked_up_to : terms.upto new ≤ entry.seq → terms.upto new ≤ kept.seq
      asked_up_to limit = let number = seq_is in omega (arith, limit, number)

      -- a result other than `Damaged` leaves the job there
      pub LooksOn-before : {A : Type 0} (shares : Result (Option (List SharedRow)) ReadFault) → LooksAt terms past job.audit entry shares job.examiner new before after steps_old steps_new
          → (result : Result A ReadFault) → has_failed (reading_as_call result) ≡ has_failed (reading_as_call shares) → ((number : ℕ) → shares ≢ Err (Damaged number) → result ≢ Err (Damaged number))
          → LooksOn terms upto past result job (looked_before (kept.seq - 1) new job) before after steps_old steps_new
      LooksOn-before shares looks result same undamaged =
          let below = under in
          let order = asked_up_to looks.moves.limit in
          record {
            moves = record {
              is_after = IsAfterCall-as true false (reading_as_call shares) (reading_as_call result) before after same looks.moves.is_after;
              stays = looks.moves.stays;
              is_sound = looks.moves.is_sound;
              limit = omega (arith, order, below);
              ledger = looks.moves.ledger;
            };
            is_sound = IsSoundJob-before new looks.moves.is_sound order;
            same_audit = refl;
            same_length = refl;
            forward = omega (arith, below);
            limit = omega (arith, up);
            told = λ tells history forms stands fits.
                let looked = looks.told tells history forms stands fits.audit_is (fits_at job history stands.valid fits kept first sound entry found new) in
                let question = subst (IsQuestionOf history job.audit) (sym (is_entry job history stands.valid fits kept first entry found)) (is_there job history stands.valid fits kept first) in
                record {
                  fits_still = JobFits-before job history stands.valid fits kept first sound entry found new shares steps_old steps_new looks.moves.ledger looked;
                  flags = flags_before job history stands.valid fits kept first sound entry found new;
                  undamaged = λ number. undamaged number (looked.undamaged question number);
                };
          }

      -- with a flag or without one, the job is then at the number of the logged query
      pub LooksOn-after : {A : Type 0} (shares : Option (List SharedRow)) → LooksAt terms past job.audit entry (Ok shares) job.examiner new before after steps_old steps_new
          → (value : A) → LooksOn {A = A} terms upto past (Ok value) job (with_flag kept.seq (option_and_then (flag_by entry entry.act) shares) (looked_before (kept.seq - 1) new job)) before after steps_old steps_new
      LooksOn-after shares looks value =
          let below = under in
          let order = asked_up_to looks.moves.limit in
          record {
            moves = record {
              is_after = looks.moves.is_after;
              stays = looks.moves.stays;
              is_sound = looks.moves.is_sound;
              limit = omega (arith, order);
              ledger = looks.moves.ledger;
            };
            is_sound = IsSoundJob-after new (option_and_then (flag_by entry entry.act) shares) looks.moves.is_sound order;
            same_audit = refl;
            same_length = refl;
            forward = omega (arith, below);
            limit = up;
            told = λ tells history forms stands fits.
                let looked = looks.told tells history forms stands fits.audit_is (fits_at job history stands.valid fits kept first sound entry found new) in
                let question = subst (IsQuestionOf history job.audit) (sym (is_entry job history stands.valid fits kept first entry found)) (is_there job history stands.valid fits kept first) in
                let is = looked.finds question in
                record {
                  fits_still = JobFits-after job history stands.valid fits kept first sound entry found new shares is (JobFits-before job history stands.valid fits kept first sound entry found new (Ok shares) steps_old steps_new looks.moves.ledger looked);
                  flags = flags_after job history stands.valid fits kept first sound entry found new shares is;
                  undamaged = λ number e. absurd cc;
                };
          }
