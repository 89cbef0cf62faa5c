-- The results of showing what is asked for, by what was written.
use Rattle.std.proofs.Common.{◌≡◌, ◌≢◌, ◌∙◌, ℕ, ◌+◌, ◌≤◌, true, false, Option, Some, None, unwrap_or, refl, sym, ap, subst}
use Rattle.std.proofs.lemmas.Bool.{false≢true}
use Rattle.hippo_values.specs.Texts.{Txt}
use Rattle.hippo_io.specs.Told.{Appends, AppendsFront}
use Rattle.hippo_model.specs.Terms.{History}
use Rattle.hippo_keeper.specs.Answering.{has_failed}
use Rattle.hippo_keeper.specs.Keeping.{KeeperState, IsAfterCall, KeepsSame}
use Rattle.hippo_keeper.specs.Selecting.{stored_versions}
use Rattle.hippo_replay.specs.Standing.{Represents}
use Rattle.hippo_replay.specs.declared.state.State.{State}
use Rattle.hippo_history_top.specs.declared.asking.Excerpt.{Excerpt}
use Rattle.hippo_history_top.specs.declared.asking.View.{View}
use Rattle.hippo_history_top.specs.declared.asking.View.TheVariants.{Entries}
use Rattle.hippo_program_args.specs.declared.endings.Ending.{Ending}
use Rattle.hippo_program_args.specs.declared.endings.Ending.TheVariants.{Served, Refused, KeeperFault, ReadFault, WriteFault, Damaged, NoMemory, TooMuch}
use Rattle.hippo_program_args.specs.Endings.{ending_as_call}
use Rattle.hippo_history_top.specs.Endings.{ends_showing}
use Rattle.hippo_history_top.specs.Saying.{Writes}
use Rattle.hippo_history_top.specs.ByNames.{entries_shown}
use Rattle.hippo_history_top.specs.Showing.{shown_text}
use Rattle.hippo_history_top.specs.Progress.{HasForms, ShowsAll, WritesPage, ShowsLoaded}
use Rattle.hippo_history_top.proofs.NameLemmas.{told_by_names}
use Rattle.hippo_history_top.proofs.WriteLemmas.{none_of, whole_front, CountsWrites-same}

module _ (IsSo : History → Type 0) (page : History → Txt) (written : Option Txt) (faults : ℕ) where
  -- memory ran out before anything was written
  pub page_unwritten : WritesPage IsSo page (Some NoMemory) written written faults faults
  page_unwritten = record {
    ends = refl;
    sound = λ e. cc;
    writes = CountsWrites-same (Some NoMemory) faults (λ e. cc);
    whole = λ on. absurd cc;
    front = λ history so. none_of written (page history);
  }

  -- the text that is the page of every such history was written
  pub page_written : (written' : Option Txt) (faults' : ℕ) (lines : Txt) → ((history : History) → IsSo history → lines ≡ page history)
      → (result : Option Ending) → Writes lines result written written' faults faults' → WritesPage IsSo page result written written' faults faults'
  page_written written' faults' lines is None writes = record {
    ends = refl;
    sound = λ e. cc;
    writes = record { cause = λ e. absurd cc; unfailed = λ e. writes.1 };
    whole = λ on history so. subst (Appends written written') (is history so) writes.0;
    front = λ history so. whole_front written written' (page history) (subst (Appends written written') (is history so) writes.0);
  }
  page_written written' faults' lines is (Some WriteFault) writes = record {
    ends = refl;
    sound = λ e. cc;
    writes = record { cause = λ e. writes.1; unfailed = λ other. absurd (other refl) };
    whole = λ on. absurd cc;
    front = λ history so. subst (AppendsFront written written') (is history so) writes.0;
  }
  page_written written' faults' lines is (Some NoMemory) writes = record {
    ends = refl;
    sound = λ e. cc;
    writes = record { cause = λ e. absurd cc; unfailed = λ other. writes.1 };
    whole = λ on. absurd cc;
    front = λ history so. subst (λ (told : Option Txt). AppendsFront written told (page history)) (sym writes.0) (none_of written (page history));
  }
  page_written written' faults' lines is (Some ending) writes = absurd writes

module _ (state : State) (written written' : Option Txt) (faults faults' : ℕ) where
  -- the names that a state holds show the entries as the names that each entry found do
  pub loaded_entries : (excerpt : Excerpt) (result : Ending) (before after : KeeperState) (ticks ticks' : ℕ)
      → ShowsAll state.catalog.names excerpt result before after written written' faults faults' ticks ticks'
      → ShowsLoaded state (Entries excerpt) result before after written written' faults faults' ticks ticks'
  loaded_entries excerpt result before after ticks ticks' shows = record {
    call = shows.call;
    stays = shows.stays;
    status = shows.status;
    writes = shows.writes;
    whole = λ is tells history stands forms. subst (Appends written written') (named history stands) (shows.whole is tells history forms);
    front = λ tells history stands forms. subst (AppendsFront written written') (named history stands) (shows.front tells history forms);
    damaged = shows.damaged;
    steps = shows.steps;
  }
    where
      named : (history : History) → Represents state history → entries_shown state.catalog.names excerpt None history ≡ shown_text (Entries excerpt) history
      named history stands = ap (λ known. entries_shown known excerpt None history) stands.names ∙ told_by_names history stands.valid excerpt None

  -- a text that was computed of the stored history and then written
  module _ (view : View) (before after : KeeperState) (ticks ticks' : ℕ) (IsSo : History → Type 0) (page : History → Txt)
      (call : (ending : Ending) → has_failed (ending_as_call ending) ≡ false → IsAfterCall true false (ending_as_call ending) before after)
      (stays : after.tells → KeepsSame before after) (steps : after.tells → ticks' ≤ ticks + stored_versions before.kept)
      (is_so : after.tells → (history : History) → Represents state history → HasForms before.kept history → IsSo history × (page history ≡ shown_text view history)) where
    abbrev Loaded : Ending → Type 0
    Loaded result = ShowsLoaded state view result before after written written' faults faults' ticks ticks'

    front : {cut : Option Ending} → WritesPage IsSo page cut written written' faults faults'
        → after.tells → (history : History) → Represents state history → HasForms before.kept history → AppendsFront written written' (shown_text view history)
    front writes tells history stands forms =
        let so = is_so tells history stands forms in
        subst (AppendsFront written written') so.1 (writes.front history so.0)

    -- what cut the text short
    cut_short : (ending : Ending) → ends_showing (Some ending) ≡ true → ending ≢ Served → has_failed (ending_as_call ending) ≡ false
        → WritesPage IsSo page (Some ending) written written' faults faults' → Loaded ending
    cut_short ending listed unended fine writes = record {
      call = call ending fine;
      stays = stays;
      status = listed;
      writes = writes.writes;
      whole = λ is. absurd (unended is);
      front = front writes;
      damaged = λ is. absurd (writes.sound (ap Some is));
      steps = steps;
    }

    pub loaded_page : (cut : Option Ending) → WritesPage IsSo page cut written written' faults faults' → Loaded (unwrap_or cut Served)
    loaded_page None writes = record {
      call = call Served refl;
      stays = stays;
      status = refl;
      writes = record { cause = λ e. absurd cc; unfailed = λ e. writes.writes.unfailed (λ e. cc) };
      whole = λ is tells history stands forms.
          let so = is_so tells history stands forms in
          subst (Appends written written') so.1 (writes.whole refl history so.0);
      front = front writes;
      damaged = λ is. absurd cc;
      steps = steps;
    }
    loaded_page (Some WriteFault) writes = cut_short WriteFault refl (λ e. cc) refl writes
    loaded_page (Some NoMemory) writes = cut_short NoMemory refl (λ e. cc) refl writes
    loaded_page (Some Damaged) writes = absurd (writes.sound refl)
    loaded_page (Some Served) writes = absurd (false≢true writes.ends)
    loaded_page (Some Refused) writes = absurd (false≢true writes.ends)
    loaded_page (Some KeeperFault) writes = absurd (false≢true writes.ends)
    loaded_page (Some ReadFault) writes = absurd (false≢true writes.ends)
    loaded_page (Some TooMuch) writes = absurd (false≢true writes.ends)
