-- Stored entries, shown one after another.
use Rattle.std.proofs.Common.{◌≡◌, ◌≢◌, ◌∙◌, ℕ, ◌+◌, ◌<◌, [], ◌∷◌, ◌++◌, map, length, take, drop, get_or, Option, Some, None, refl, sym, ap, subst, append_assoc, arith}
use Rattle.std.specs.List.{list_all}
use Rattle.std.proofs.lemmas.Bool.{and_parts, and_from}
use Rattle.std.proofs.lemmas.List.{take-append-drop}
use Rattle.hippo_values.specs.Texts.{Txt}
use Rattle.hippo_values.specs.declared.moments.Moment.{Moment}
use Rattle.hippo_io.specs.Faults.{HasRisen}
use Rattle.hippo_io.specs.Told.{Appends, AppendsFront}
use Rattle.hippo_model.specs.declared.stored.StoredEntry.{StoredEntry}
use Rattle.hippo_model.specs.Keepable.{is_keepable}
use Rattle.hippo_model.specs.StoredForms.{stored}
use Rattle.hippo_model.specs.Terms.{History}
use Rattle.hippo_typing_catalog.specs.Catalogs.{KnownNames}
use Rattle.hippo_keeper.specs.Keeping.{Store, RisesAbove, last_number}
use Rattle.hippo_keeper.proofs.RisingLemmas.{last_rises}
use Rattle.hippo_replay.proofs.TakingInLemmas.{take_at_entry}
use Rattle.hippo_history_top.specs.declared.asking.Excerpt.{Excerpt}
use Rattle.hippo_program_args.specs.declared.endings.Ending.{Ending}
use Rattle.hippo_program_args.specs.declared.endings.Ending.TheVariants.{NoMemory}
use Rattle.hippo_history_top.specs.ByNames.{entry_shown, clock_after, entries_shown, clock_at_end}
use Rattle.hippo_history_top.specs.Progress.{HasForms, ShowsKept}
use Rattle.hippo_program_args.proofs.WriteLemmas.{front_of_more, whole_and_front, both_whole}
use Rattle.hippo_history_top.proofs.WriteLemmas.{none_written, none_of, CountsWrites-same}

-- entries with these stored forms, before a place and after it
pub record Splits (first second : Store) (entries : History) : Type 0 where
  pub front : History
  pub later : History
  pub parts : entries ≡ front ++ later
  pub first_forms : HasForms first front
  pub second_forms : HasForms second later

pub split : (first second : Store) (entries : History) → HasForms (first ++ second) entries → Splits first second entries
split [] second entries has = record { front = []; later = entries; parts = refl; first_forms = record { forms = refl; keepable = refl }; second_forms = has }
split (kept ∷ first) second [] has = absurd (let no : [] ≡ kept ∷ (first ++ second) = has.forms in cc)
split (kept ∷ first) second (entry ∷ entries) has =
    let can = and_parts (is_keepable entry) (list_all is_keepable entries) has.keepable in
    let rest = split first second entries (record { forms = others has.forms; keepable = can.1 }) in
    record {
      front = entry ∷ rest.front;
      later = rest.later;
      parts = ap (λ (h : History). entry ∷ h) rest.parts;
      first_forms = record { forms = λ i. one has.forms i ∷ rest.first_forms.forms i; keepable = and_from (is_keepable entry) (list_all is_keepable rest.front) can.0 rest.first_forms.keepable };
      second_forms = rest.second_forms;
    }
  where
    one : stored entry ∷ map stored entries ≡ kept ∷ (first ++ second) → stored entry ≡ kept
    one e = cc

    others : stored entry ∷ map stored entries ≡ kept ∷ (first ++ second) → map stored entries ≡ first ++ second
    others e = cc

-- no forms are those of no entries
pub no_entries : (entries : History) → HasForms [] entries → entries ≡ []
no_entries [] forms = refl
no_entries (entry ∷ entries) forms = absurd (let no : stored entry ∷ map stored entries ≡ [] = forms.forms in cc)

module _ (known : KnownNames) (excerpt : Excerpt) where
  -- entries, and others after them
  pub shown-append : (clock : Option Moment) (front later : History) → entries_shown known excerpt clock (front ++ later) ≡ entries_shown known excerpt clock front ++ entries_shown known excerpt (clock_at_end known excerpt clock front) later
  shown-append clock [] later = refl
  shown-append clock (entry ∷ front) later =
      let next = clock_after known excerpt clock entry in
      ap (λ (rest : Txt). entry_shown known excerpt clock entry ++ rest) (shown-append next front later)
      ∙ sym (append_assoc (entry_shown known excerpt clock entry) (entries_shown known excerpt next front) (entries_shown known excerpt (clock_at_end known excerpt next front) later))

  pub clock-append : (clock : Option Moment) (front later : History) → clock_at_end known excerpt clock (front ++ later) ≡ clock_at_end known excerpt (clock_at_end known excerpt clock front) later
  clock-append clock [] later = refl
  clock-append clock (entry ∷ front) later = clock-append (clock_after known excerpt clock entry) front later

  -- nothing is shown of no entries
  pub ShowsKept-none : (clock : Option Moment) (written : Option Txt) (faults : ℕ) → ShowsKept known excerpt [] None clock clock written written faults faults
  ShowsKept-none clock written faults = record {
    ends = refl;
    writes = CountsWrites-same None faults (λ e. cc);
    whole = λ on entries forms. subst (λ (h : History). Appends written written (entries_shown known excerpt clock h)) (sym (no_entries entries forms)) (none_written written);
    moment = λ on entries forms. subst (λ (h : History). clock ≡ clock_at_end known excerpt clock h) (sym (no_entries entries forms)) refl;
    front = λ entries forms. none_of written (entries_shown known excerpt clock entries);
    damaged = λ is. absurd cc;
  }

  -- memory ran out
  pub ShowsKept-unread : (store : Store) (clock : Option Moment) (written : Option Txt) (faults : ℕ) → ShowsKept known excerpt store (Some NoMemory) clock clock written written faults faults
  ShowsKept-unread store clock written faults = record {
    ends = refl;
    writes = CountsWrites-same (Some NoMemory) faults (λ e. cc);
    whole = λ on. absurd cc;
    moment = λ on. absurd cc;
    front = λ entries forms. none_of written (entries_shown known excerpt clock entries);
    damaged = λ is. absurd cc;
  }

  module _ (first second : Store) (result : Option Ending) (start mid end : Option Moment) (old between new : Option Txt) (faults between_faults faults' : ℕ) where
    -- entries are shown, and then others
    pub ShowsKept-then : ShowsKept known excerpt first None start mid old between faults between_faults → ShowsKept known excerpt second result mid end between new between_faults faults'
        → ShowsKept known excerpt (first ++ second) result start end old new faults faults'
    ShowsKept-then one other = record {
      ends = other.ends;
      writes = record {
        cause = λ is. subst (λ (n : ℕ). HasRisen n faults') same (other.writes.cause is);
        unfailed = λ fine. other.writes.unfailed fine ∙ same;
      };
      whole = λ on entries forms.
          let parts = split first second entries forms in
          subst (Appends old new) (sym (text entries parts))
          (both_whole old between new (entries_shown known excerpt start parts.front) (entries_shown known excerpt (clock_at_end known excerpt start parts.front) parts.later)
          (one.whole refl parts.front parts.first_forms)
          (subst (λ (c : Option Moment). Appends between new (entries_shown known excerpt c parts.later)) (one.moment refl parts.front parts.first_forms) (other.whole on parts.later parts.second_forms)));
      moment = λ on entries forms.
          let parts = split first second entries forms in
          other.moment on parts.later parts.second_forms
          ∙ ap (λ (c : Option Moment). clock_at_end known excerpt c parts.later) (one.moment refl parts.front parts.first_forms)
          ∙ sym (clock-append start parts.front parts.later) ∙ ap (clock_at_end known excerpt start) (sym parts.parts);
      front = λ entries forms.
          let parts = split first second entries forms in
          subst (AppendsFront old new) (sym (text entries parts))
          (whole_and_front old between new (entries_shown known excerpt start parts.front) (entries_shown known excerpt (clock_at_end known excerpt start parts.front) parts.later)
          (one.whole refl parts.front parts.first_forms)
          (subst (λ (c : Option Moment). AppendsFront between new (entries_shown known excerpt c parts.later)) (one.moment refl parts.front parts.first_forms) (other.front parts.later parts.second_forms)));
      damaged = λ is entries forms.
          let parts = split first second entries forms in
          other.damaged is parts.later parts.second_forms;
    }
      where
        same : between_faults ≡ faults
        same = one.writes.unfailed (λ e. cc)

        text : (entries : History) (parts : Splits first second entries) → entries_shown known excerpt start entries ≡ entries_shown known excerpt start parts.front ++ entries_shown known excerpt (clock_at_end known excerpt start parts.front) parts.later
        text entries parts = ap (entries_shown known excerpt start) parts.parts ∙ shown-append start parts.front parts.later

  -- a prefix of what is shown of some entries is a prefix of what is shown of more
  pub front_so : (first second : Store) (result : Option Ending) (start end : Option Moment) (old new : Option Txt) (faults faults' : ℕ)
      → ShowsKept known excerpt first result start end old new faults faults'
      → (entries : History) → HasForms (first ++ second) entries → AppendsFront old new (entries_shown known excerpt start entries)
  front_so first second result start end old new faults faults' one entries forms =
      let parts = split first second entries forms in
      subst (AppendsFront old new) (sym (ap (entries_shown known excerpt start) parts.parts ∙ shown-append start parts.front parts.later))
      (front_of_more old new (entries_shown known excerpt start parts.front) (entries_shown known excerpt (clock_at_end known excerpt start parts.front) parts.later)
      (one.front parts.front parts.first_forms))

  -- what ends the program at some entries ends it whatever follows them
  pub ShowsKept-more : (first second : Store) (result : Option Ending) (start end : Option Moment) (old new : Option Txt) (faults faults' : ℕ) → result ≢ None
      → ShowsKept known excerpt first result start end old new faults faults'
      → ShowsKept known excerpt (first ++ second) result start end old new faults faults'
  ShowsKept-more first second result start end old new faults faults' over one = record {
    ends = one.ends;
    writes = one.writes;
    whole = λ on. absurd (over on);
    moment = λ on. absurd (over on);
    front = front_so first second result start end old new faults faults' one;
    damaged = λ is entries forms.
        let parts = split first second entries forms in
        one.damaged is parts.front parts.first_forms;
  }

  -- if no entries have some forms, none have those forms and more
  pub damaged_so : (first second : Store) → ((entries : History) → ¬ (HasForms first entries)) → (entries : History) → ¬ (HasForms (first ++ second) entries)
  damaged_so first second none entries forms = let parts = split first second entries forms in none parts.front parts.first_forms

  -- one more entry of a piece
  pub piece_on : (piece : Store) (i : ℕ) (kept : StoredEntry) (start mid end : Option Moment) (old between new : Option Txt) (faults between_faults faults' : ℕ) → i < length piece → kept ≡ get_or piece i kept
      → ShowsKept known excerpt (take i piece) None start mid old between faults between_faults → ShowsKept known excerpt (kept ∷ []) None mid end between new between_faults faults'
      → ShowsKept known excerpt (take (i + 1) piece) None start end old new faults faults'
  piece_on piece i kept start mid end old between new faults between_faults faults' inside is one other =
      subst (λ (s : Store). ShowsKept known excerpt s None start end old new faults faults') (sym (take_at_entry piece i kept inside is))
      (ShowsKept-then (take i piece) (kept ∷ []) None start mid end old between new faults between_faults faults' one other)

  -- an entry of a piece that ends the program
  pub piece_over : (piece : Store) (i : ℕ) (kept : StoredEntry) (ending : Ending) (start mid end : Option Moment) (old between new : Option Txt) (faults between_faults faults' : ℕ) → i < length piece → kept ≡ get_or piece i kept
      → ShowsKept known excerpt (take i piece) None start mid old between faults between_faults → ShowsKept known excerpt (kept ∷ []) (Some ending) mid end between new between_faults faults'
      → ShowsKept known excerpt piece (Some ending) start end old new faults faults'
  piece_over piece i kept ending start mid end old between new faults between_faults faults' inside is one other =
      subst (λ (s : Store). ShowsKept known excerpt s (Some ending) start end old new faults faults')
      (ap (λ (front : Store). front ++ drop (i + 1) piece) (sym (take_at_entry piece i kept inside is)) ∙ take-append-drop (i + 1) piece)
      (ShowsKept-more (take i piece ++ kept ∷ []) (drop (i + 1) piece) (Some ending) start end old new faults faults' (λ e. cc)
      (ShowsKept-then (take i piece) (kept ∷ []) (Some ending) start mid end old between new faults between_faults faults' one other))

-- the last number of some entries and one more
last-append : (number : ℕ) (first : Store) (kept : StoredEntry) → last_number number (first ++ kept ∷ []) ≡ kept.seq
last-append number [] kept = refl
last-append number (one ∷ first) kept = last-append one.seq first kept

pub last_there : (number : ℕ) (piece : Store) (i : ℕ) (kept : StoredEntry) → i < length piece → kept ≡ get_or piece i kept → kept.seq ≡ last_number number (take (i + 1) piece)
last_there number piece i kept inside is = sym (last-append number (take i piece) kept) ∙ ap (last_number number) (sym (take_at_entry piece i kept inside is))

pub last-both : (number : ℕ) (first second : Store) → last_number number (first ++ second) ≡ last_number (last_number number first) second
last-both number [] second = refl
last-both number (one ∷ first) second = last-both one.seq first second

-- the last of entries whose numbers rise has a higher number
pub last_above : (number : ℕ) (entries : Store) → RisesAbove number entries → ¬ (entries ≡ []) → number < last_number number entries
last_above number [] rises some = absurd (some refl)
last_above number (entry ∷ rest) rises some =
    let above : number < entry.seq = rises.0 in
    let later = last_rises entry.seq rest rises.1 in
    omega arith
