-- One entry is shown, or is not asked for.
use Rattle.std.proofs.Common.{◌≡◌, ◌≢◌, ◌∙◌, inl, inr, ℕ, Bool, true, false, [], ◌∷◌, ◌++◌, cond, map, Option, Some, None, refl, sym, ap, subst}
use Rattle.std.specs.List.{list_all}
use Rattle.std.proofs.lemmas.Bool.{and_parts}
use Rattle.std.proofs.lemmas.List.{append-nil}
use Rattle.std.proofs.lemmas.Option.{none-some, same_Some}
use Rattle.hippo_values.specs.Texts.{Txt}
use Rattle.hippo_values.specs.declared.moments.Moment.{Moment}
use Rattle.hippo_io.specs.Told.{Appends, AppendsFront}
use Rattle.hippo_model.specs.declared.entry.Entry.{Entry}
use Rattle.hippo_model.specs.declared.stored.StoredEntry.{StoredEntry}
use Rattle.hippo_model.specs.Keepable.{is_keepable}
use Rattle.hippo_model.specs.StoredForms.{stored}
use Rattle.hippo_model.specs.Terms.{History}
use Rattle.hippo_entry.specs.Forms.{IsEntryOf}
use Rattle.hippo_typing_catalog.specs.Catalogs.{KnownNames}
use Rattle.hippo_program_args.specs.Saying.{Says}
use Rattle.hippo_history_top.specs.declared.asking.Excerpt.{Excerpt}
use Rattle.hippo_program_args.specs.declared.endings.Ending.{Ending}
use Rattle.hippo_program_args.specs.declared.endings.Ending.TheVariants.{WriteFault, Damaged, NoMemory}
use Rattle.hippo_history_top.specs.Endings.{cuts}
use Rattle.hippo_history_top.specs.Saying.{Writes, CountsWrites}
use Rattle.hippo_history_top.specs.ByNames.{shown_as, entry_shown, clock_after, entries_shown, clock_at_end}
use Rattle.hippo_history_top.specs.Showing.{is_in_excerpt}
use Rattle.hippo_history_top.specs.Progress.{HasForms, ShowsEntry, ShowsKept}
use Rattle.hippo_history_top.proofs.WriteLemmas.{none_written, none_of, whole_front, CountsWrites-same}

no_damage : {ending : Ending} → ending ≢ Damaged → Some ending ≢ Some Damaged
no_damage other is = other (same_Some _ _ is)

module _ (known : KnownNames) (excerpt : Excerpt) (entry : Entry) (clock : Option Moment) where
  -- an entry that is not asked for
  pub unasked : (written : Option Txt) (faults : ℕ) → false ≡ is_in_excerpt known excerpt entry → ShowsEntry known excerpt entry None clock clock written written faults faults
  unasked written faults is = record {
    ends = refl;
    sound = λ e. cc;
    writes = CountsWrites-same None faults (λ e. cc);
    whole = λ on. subst (Appends written written) nothing (none_written written);
    moment = λ on. ap (λ (b : Bool). cond b (Some entry.moment) clock) is;
    front = none_of written (entry_shown known excerpt clock entry);
  }
    where
      nothing : [] ≡ entry_shown known excerpt clock entry
      nothing = ap (λ (b : Bool). cond b (shown_as known excerpt.form clock entry) []) is

  -- memory ran out before anything was written
  pub unwritten : (written : Option Txt) (faults : ℕ) → ShowsEntry known excerpt entry (Some NoMemory) clock clock written written faults faults
  unwritten written faults = record {
    ends = refl;
    sound = λ e. cc;
    writes = CountsWrites-same (Some NoMemory) faults (λ e. cc);
    whole = λ on. absurd cc;
    moment = λ on. absurd cc;
    front = none_of written (entry_shown known excerpt clock entry);
  }

  -- an entry that is asked for
  module _ (written written' : Option Txt) (faults faults' : ℕ) (is : true ≡ is_in_excerpt known excerpt entry) where
    lines : shown_as known excerpt.form clock entry ≡ entry_shown known excerpt clock entry
    lines = ap (λ (b : Bool). cond b (shown_as known excerpt.form clock entry) []) is

    clock_set : Some entry.moment ≡ clock_after known excerpt clock entry
    clock_set = ap (λ (b : Bool). cond b (Some entry.moment) clock) is

    pub asked : (result : Option Ending) → Writes (shown_as known excerpt.form clock entry) result written written' faults faults'
        → ShowsEntry known excerpt entry result clock (Some entry.moment) written written' faults faults'
    asked None writes = record {
      ends = refl;
      sound = λ e. cc;
      writes = record { cause = λ e. absurd cc; unfailed = λ e. writes.1 };
      whole = λ on. subst (Appends written written') lines writes.0;
      moment = λ on. clock_set;
      front = whole_front written written' (entry_shown known excerpt clock entry) (subst (Appends written written') lines writes.0);
    }
    asked (Some WriteFault) writes = record {
      ends = refl;
      sound = λ e. cc;
      writes = record { cause = λ e. writes.1; unfailed = λ other. absurd (other refl) };
      whole = λ on. absurd cc;
      moment = λ on. absurd cc;
      front = subst (AppendsFront written written') lines writes.0;
    }
    asked (Some NoMemory) writes = record {
      ends = refl;
      sound = λ e. cc;
      writes = record { cause = λ e. absurd cc; unfailed = λ other. writes.1 };
      whole = λ on. absurd cc;
      moment = λ on. absurd cc;
      front = subst (λ (told : Option Txt). AppendsFront written told (entry_shown known excerpt clock entry)) (sym writes.0) (none_of written (entry_shown known excerpt clock entry));
    }
    asked (Some ending) writes = absurd writes

-- the only entry that has a form
pub one_entry : (kept : StoredEntry) (entry : Entry) → IsEntryOf kept (Some entry) → (entries : History) → HasForms (kept ∷ []) entries → entries ≡ entry ∷ []
one_entry kept entry found [] forms = absurd (let no : [] ≡ kept ∷ [] = forms.forms in cc)
one_entry kept entry found (other ∷ []) forms =
    let form : stored other ≡ kept = first_of forms.forms in
    let can = (and_parts (is_keepable other) true forms.keepable).0 in
    ap (λ (e : Entry). e ∷ []) (sym (same_Some entry other (found.only other (can, form))))
  where
    first_of : stored other ∷ [] ≡ kept ∷ [] → stored other ≡ kept
    first_of e = cc
one_entry kept entry found (other ∷ next ∷ more) forms = absurd (let no : stored other ∷ stored next ∷ map stored more ≡ kept ∷ [] = forms.forms in cc)

-- no entries have a form that no entry has
pub no_entry : (kept : StoredEntry) → IsEntryOf kept None → (entries : History) → HasForms (kept ∷ []) entries → ⊥
no_entry kept found [] forms = absurd (let no : [] ≡ kept ∷ [] = forms.forms in cc)
no_entry kept found (other ∷ more) forms =
    let form : stored other ≡ kept = first_of forms.forms in
    none-some other (found.only other ((and_parts (is_keepable other) (list_all is_keepable more) forms.keepable).0, form))
  where
    first_of : stored other ∷ map stored more ≡ kept ∷ [] → stored other ≡ kept
    first_of e = cc

abbrev cuts_so : Ending → Bool
cuts_so ending = cuts (Some ending)

module _ (known : KnownNames) (excerpt : Excerpt) (kept : StoredEntry) (clock clock' : Option Moment) (written written' : Option Txt) (faults faults' : ℕ) where
  -- the entry that has a form is shown
  pub of_entry : (entry : Entry) (result : Option Ending) → IsEntryOf kept (Some entry)
      → ShowsEntry known excerpt entry result clock clock' written written' faults faults'
      → ShowsKept known excerpt (kept ∷ []) result clock clock' written written' faults faults'
  of_entry entry result found shows = record {
    ends = shows.ends;
    writes = shows.writes;
    whole = λ on entries forms. subst (λ (h : History). Appends written written' (entries_shown known excerpt clock h)) (sym (one_entry kept entry found entries forms)) (subst (Appends written written') alone (shows.whole on));
    moment = λ on entries forms. subst (λ (h : History). clock' ≡ clock_at_end known excerpt clock h) (sym (one_entry kept entry found entries forms)) (shows.moment on);
    front = λ entries forms. subst (λ (h : History). AppendsFront written written' (entries_shown known excerpt clock h)) (sym (one_entry kept entry found entries forms)) (subst (AppendsFront written written') alone shows.front);
    damaged = λ is. absurd (shows.sound is);
  }
    where
      alone : entry_shown known excerpt clock entry ≡ entry_shown known excerpt clock entry ++ []
      alone = sym (append-nil (entry_shown known excerpt clock entry))

  -- no entry has this form, and that is reported
  pub of_none : (ending : Ending) (line : Txt) → IsEntryOf kept None → Says Damaged line WriteFault ending written written' faults faults'
      → ShowsKept known excerpt (kept ∷ []) (Some ending) clock clock' written written' faults faults'
  of_none ending line found says = record {
    ends = by_ends says;
    writes = by_writes says;
    whole = λ on. absurd cc;
    moment = λ on. absurd cc;
    front = λ entries forms. absurd (no_entry kept found entries forms);
    damaged = λ is entries forms. no_entry kept found entries forms;
  }
    where
      by_ends : Says Damaged line WriteFault ending written written' faults faults' → cuts_so ending ≡ true
      by_ends (inl all) = ap cuts_so all.0
      by_ends (inr front) = ap cuts_so front.0

      by_writes : Says Damaged line WriteFault ending written written' faults faults' → CountsWrites (Some ending) faults faults'
      by_writes (inl all) = record { cause = λ e. absurd (other (sym all.0 ∙ same_Some ending WriteFault e)); unfailed = λ e. all.2 }
        where
          other : Damaged ≢ WriteFault
          other e = cc
      by_writes (inr front) = record { cause = λ e. front.2; unfailed = λ e. absurd (e (ap Some front.0)) }
