-- The results of showing the stored entries one after another.
use Rattle.std.specs.Prelude.{◌≡◌, ◌≢◌, ℕ, ◌+◌, ◌^◌, ◌<◌, ◌≤◌, true, false, [], ◌++◌, map, Option, Some, None, Ok}
use Rattle.std.specs.List.{list_all}
use Rattle.hippo_values.specs.Texts.{Txt}
use Rattle.hippo_values.specs.declared.moments.Moment.{Moment}
use Rattle.hippo_io.specs.Told.{Appends, AppendsFront}
use Rattle.hippo_model.specs.declared.entry.Entry.{Entry}
use Rattle.hippo_model.specs.Keepable.{is_keepable}
use Rattle.hippo_model.specs.StoredForms.{stored}
use Rattle.hippo_model.specs.Terms.{History}
use Rattle.hippo_typing_catalog.specs.Catalogs.{KnownNames}
use Rattle.hippo_keeper.specs.Keeping.{Store, RisesAbove, last_number, KeeperState, IsReady, IsAfterCall, KeepsSame}
use Rattle.hippo_keeper.specs.Selecting.{stored_versions}
use Rattle.hippo_replay.specs.Standing.{Represents}
use Rattle.hippo_replay.specs.declared.state.State.{State}
use Rattle.hippo_history_top.specs.declared.asking.Excerpt.{Excerpt}
use Rattle.hippo_history_top.specs.declared.asking.View.{View}
use Rattle.hippo_program_args.specs.declared.endings.Ending.{Ending}
use Rattle.hippo_program_args.specs.declared.endings.Ending.TheVariants.{Served, Damaged}
use Rattle.hippo_program_args.specs.Endings.{ending_as_call, part_as_call}
use Rattle.hippo_history_top.specs.Endings.{ends_showing, cuts, cut_of}
use Rattle.hippo_history_top.specs.Saying.{CountsWrites}
use Rattle.hippo_history_top.specs.ByNames.{entry_shown, clock_after, entries_shown, clock_at_end}
use Rattle.hippo_history_top.specs.Showing.{shown_text}

-- the keeper was started, and the numbers of the stored entries rise
pub record IsReadable (keeper : KeeperState) : Type 0 where
  pub ready : IsReady true keeper
  pub order : keeper.tells → RisesAbove 0 keeper.kept

-- these entries can be stored, and these are their stored forms
pub record HasForms (store : Store) (entries : History) : Type 0 where
  pub forms : map stored entries ≡ store
  pub keepable : list_all is_keepable entries ≡ true

-- an entry was shown, if it is asked for; or a prefix of its lines was
pub record ShowsEntry (known : KnownNames) (excerpt : Excerpt) (entry : Entry)
    (result : Option Ending)
    (clock clock' : Option Moment) (written written' : Option Txt) (faults faults' : ℕ)
    : Type 0 where
  pub ends : cuts result ≡ true
  pub sound : result ≢ Some Damaged
  pub writes : CountsWrites result faults faults'
  pub whole : result ≡ None → Appends written written' (entry_shown known excerpt clock entry)
  pub moment : result ≡ None → clock' ≡ clock_after known excerpt clock entry
  pub front : AppendsFront written written' (entry_shown known excerpt clock entry)

-- the entries with these stored forms were shown, or a prefix of what is shown of them; if the
-- forms are called damaged, no entries have them
pub record ShowsKept (known : KnownNames) (excerpt : Excerpt) (store : Store)
    (result : Option Ending)
    (clock clock' : Option Moment) (written written' : Option Txt) (faults faults' : ℕ)
    : Type 0 where
  pub ends : cuts result ≡ true
  pub writes : CountsWrites result faults faults'
  pub whole : result ≡ None → (entries : History) → HasForms store entries
      → Appends written written' (entries_shown known excerpt clock entries)
  pub moment : result ≡ None → (entries : History) → HasForms store entries
      → clock' ≡ clock_at_end known excerpt clock entries
  pub front : (entries : History) → HasForms store entries
      → AppendsFront written written' (entries_shown known excerpt clock entries)
  pub damaged : result ≡ Some Damaged → (entries : History) → ¬ (HasForms store entries)

-- the stored list is what was read, up to this number, followed by the rest
pub record IsReadUpTo (number : ℕ) (keeper : KeeperState) (read rest : Store) : Type 0 where
  pub last : last_number 0 read ≡ number
  pub order : RisesAbove 0 keeper.kept
  pub whole : keeper.kept ≡ read ++ rest

-- a piece, the first entries of the rest, is read and shown
pub record ShowsNext (known : KnownNames) (excerpt : Excerpt) (result : Option Ending)
    (before after : KeeperState)
    (number number' : ℕ) (clock clock' : Option Moment) (written written' : Option Txt)
    (faults faults' : ℕ)
    (ticks ticks' : ℕ) : Type 0 where
  pub call : IsAfterCall true false (part_as_call result) before after
  pub stays : after.tells → KeepsSame before after
  pub status : ends_showing result ≡ true
  pub piece : Store
  pub shows : ShowsKept known excerpt piece (cut_of result) clock clock' written written' faults
      faults'
  pub steps : ticks' ≡ ticks + stored_versions piece
  pub last : result ≡ None → number' ≡ last_number number piece
  pub more : result ≡ None → (number < number') × (number < 2 ^ 64)
  pub told : after.tells → (read rest : Store) → IsReadUpTo number before read rest
      → ((remaining : Store) × (rest ≡ piece ++ remaining))
  pub nothing : result ≡ Some Served → piece ≡ []
  pub ended : result ≡ Some Served → after.tells → (read rest : Store)
      → IsReadUpTo number before read rest → rest ≡ []

-- the first part of the stored list is read and shown
pub record IsShowing (known : KnownNames) (excerpt : Excerpt) (before now : KeeperState)
    (number : ℕ)
    (clock : Option Moment) (written written' : Option Txt) (faults faults' ticks ticks' : ℕ)
    : Type 0 where
  pub call : IsAfterCall {A = Unit {0}} true false (Ok tt) before now
  pub stays : now.tells → KeepsSame before now
  pub read : Store
  pub last : last_number 0 read ≡ number
  pub shows : ShowsKept known excerpt read None None clock written written' faults faults'
  pub steps : ticks' ≡ ticks + stored_versions read
  pub told : now.tells → ((remaining : Store) × (before.kept ≡ read ++ remaining))

-- the whole stored list is read and shown, or its first part
pub record ShowsAll (known : KnownNames) (excerpt : Excerpt) (result : Ending)
    (before after : KeeperState)
    (written written' : Option Txt) (faults faults' ticks ticks' : ℕ) : Type 0 where
  pub call : IsAfterCall true false (ending_as_call result) before after
  pub stays : after.tells → KeepsSame before after
  pub status : ends_showing (Some result) ≡ true
  pub writes : CountsWrites (Some result) faults faults'
  pub whole : result ≡ Served → after.tells → (entries : History) → HasForms before.kept entries
      → Appends written written' (entries_shown known excerpt None entries)
  pub front : after.tells → (entries : History) → HasForms before.kept entries
      → AppendsFront written written' (entries_shown known excerpt None entries)
  pub damaged : result ≡ Damaged → after.tells → (entries : History)
      → ¬ (HasForms before.kept entries)
  pub steps : after.tells → ticks' ≤ ticks + stored_versions before.kept

-- a text is written, or a prefix of it, or nothing; it depends on a history of which this is known
pub record WritesPage (IsSo : History → Type 0) (page : History → Txt) (result : Option Ending)
    (written written' : Option Txt) (faults faults' : ℕ) : Type 0 where
  pub ends : cuts result ≡ true
  pub sound : result ≢ Some Damaged
  pub writes : CountsWrites result faults faults'
  pub whole : result ≡ None → (history : History) → IsSo history
      → Appends written written' (page history)
  pub front : (history : History) → IsSo history → AppendsFront written written' (page history)

-- what is asked for is shown, or a prefix of it, of the stored history that a state stands for
pub record ShowsLoaded (state : State) (view : View) (result : Ending) (before after : KeeperState)
    (written written' : Option Txt) (faults faults' ticks ticks' : ℕ) : Type 0 where
  pub call : IsAfterCall true false (ending_as_call result) before after
  pub stays : after.tells → KeepsSame before after
  pub status : ends_showing (Some result) ≡ true
  pub writes : CountsWrites (Some result) faults faults'
  pub whole : result ≡ Served → after.tells → (history : History) → Represents state history
      → HasForms before.kept history
      → Appends written written' (shown_text view history)
  pub front : after.tells → (history : History) → Represents state history
      → HasForms before.kept history
      → AppendsFront written written' (shown_text view history)
  pub damaged : result ≡ Damaged → after.tells → (history : History)
      → ¬ (HasForms before.kept history)
  pub steps : after.tells → ticks' ≤ ticks + stored_versions before.kept
