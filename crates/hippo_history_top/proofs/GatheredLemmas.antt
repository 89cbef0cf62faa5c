-- What is shown after something was gathered from all stored entries.
use Rattle.std.proofs.Common.{◌≡◌, ◌≢◌, ◌∙◌, ℕ, ◌+◌, ◌≤◌, true, false, [], List, take, Option, Some, unwrap_or, Result, refl, sym, ap, arith}
use Rattle.hippo_values.specs.Texts.{Txt}
use Rattle.hippo_values.specs.declared.moments.Moment.{Moment}
use Rattle.hippo_model.specs.Terms.{History}
use Rattle.hippo_typing_catalog.specs.Catalogs.{KnownNames, known_at}
use Rattle.hippo_policy.specs.Books.{BookRepresents}
use Rattle.hippo_keeper.specs.declared.faults.KeeperFault.{KeeperFault as Fault}
use Rattle.hippo_keeper.specs.declared.faults.KeeperFault.TheVariants as keeper_faults
use Rattle.hippo_keeper.specs.Answering.{has_failed}
use Rattle.hippo_keeper.specs.Keeping.{KeeperState}
use Rattle.hippo_keeper.specs.Selecting.{stored_versions}
use Rattle.hippo_keeper.proofs.CallLemmas.{IsAfterCall-as}
use Rattle.hippo_keeper.proofs.Results.{err_of, well}
use Rattle.hippo_replay.specs.Standing.{Represents}
use Rattle.hippo_replay.specs.declared.state.State.{State}
use Rattle.hippo_replay.proofs.ReadingLemmas.{versions-append}
use Rattle.hippo_program_args.specs.declared.endings.Ending.{Ending}
use Rattle.hippo_program_args.specs.declared.endings.Ending.TheVariants.{Served, KeeperFault, WriteFault, Damaged, NoMemory}
use Rattle.hippo_program_args.specs.Endings.{ending_as_call}
use Rattle.hippo_history_top.specs.declared.asking.Page.{Page}
use Rattle.hippo_history_top.specs.declared.asking.Roster.{Roster}
use Rattle.hippo_history_top.specs.declared.asking.View.{View}
use Rattle.hippo_history_top.specs.declared.asking.View.TheVariants.{Rules, Users}
use Rattle.hippo_history_formats.specs.declared.grants.Grant.{Grant}
use Rattle.hippo_history_top.specs.Dating.{entries_to, moments_of, count_to, dated_line}
use Rattle.hippo_history_top.specs.Endings.{ends_showing, ending_of}
use Rattle.hippo_history_top.specs.Gathering.{GathersAll}
use Rattle.hippo_history_top.specs.Granting.{grants_of, grants_shown}
use Rattle.hippo_history_top.specs.Progress.{WritesPage, ShowsLoaded}
use Rattle.hippo_history_top.specs.Ruling.{rules_by_names}
use Rattle.hippo_history_top.specs.Saying.{Writes}
use Rattle.hippo_history_top.specs.Showing.{shown_text}
use Rattle.hippo_history_top.proofs.MomentLemmas.{first_to_bound}
use Rattle.hippo_history_top.proofs.PageLemmas.{page_written, loaded_page}
use Rattle.hippo_history_top.proofs.PolicyLemmas.{rules_of_first}
use Rattle.hippo_history_top.proofs.WriteLemmas.{none_of, CountsWrites-same}

module _ (start covers : History → Type 0) (state : State) (before after : KeeperState) (ticks ticks' : ℕ) where
  read_once : (result : Result (Unit {0}) Fault) → GathersAll start covers result before after ticks ticks' → after.tells → ticks' ≤ ticks + stored_versions before.kept
  read_once result all tells =
      let there = all.told tells in
      let kept : stored_versions before.kept ≡ stored_versions all.read + stored_versions there.0 = ap stored_versions there.1 ∙ versions-append all.read there.0 in
      let taken = all.hands.steps in
      omega (arith, kept, taken)

  -- a text that depends on a history of which this is known, and on what was gathered
  module _ (view : View) (all : GathersAll start covers (well Fault) before after ticks ticks') (at_first : start []) (IsSo : History → Type 0) (page : History → Txt)
      (is_so : (history : History) → covers history → Represents state history → IsSo history × (page history ≡ shown_text view history)) where
    pub gathered_page : (written written' : Option Txt) (faults faults' : ℕ) (cut : Option Ending) → WritesPage IsSo page cut written written' faults faults'
        → ShowsLoaded state view (unwrap_or cut Served) before after written written' faults faults' ticks ticks'
    gathered_page written written' faults faults' cut writes =
        loaded_page state written written' faults faults' view before after ticks ticks' IsSo page
        (λ ending fine. IsAfterCall-as true false (well Fault) (ending_as_call ending) before after fine all.hands.call) all.hands.stays (read_once (well Fault) all)
        (λ tells history stands forms. is_so history (all.whole tells [] history forms at_first) stands) cut writes

  -- a call on the keeper failed, or memory ran out, and nothing is written
  module _ (view : View) (written : Option Txt) (faults : ℕ) where
    unread : (fault : Fault) (ending : Ending) → ending ≢ Served → ending ≢ Damaged → Some ending ≢ Some WriteFault → ends_showing (Some ending) ≡ true
        → has_failed (ending_as_call ending) ≡ has_failed (err_of (Unit {0}) fault)
        → GathersAll start covers (err_of (Unit {0}) fault) before after ticks ticks' → ShowsLoaded state view ending before after written written faults faults ticks ticks'
    unread fault ending unended sound unwritten listed same all = record {
      call = IsAfterCall-as true false (err_of (Unit {0}) fault) (ending_as_call ending) before after same all.hands.call;
      stays = all.hands.stays;
      status = listed;
      writes = CountsWrites-same (Some ending) faults unwritten;
      whole = λ is. absurd (unended is);
      front = λ tells history stands forms. none_of written (shown_text view history);
      damaged = λ is. absurd (sound is);
      steps = read_once (err_of (Unit {0}) fault) all;
    }

    pub gathered_nothing : (fault : Fault) → GathersAll start covers (err_of (Unit {0}) fault) before after ticks ticks'
        → ShowsLoaded state view (ending_of fault) before after written written faults faults ticks ticks'
    gathered_nothing keeper_faults.Failed all = unread keeper_faults.Failed KeeperFault (λ e. cc) (λ e. cc) (λ e. cc) refl refl all
    gathered_nothing keeper_faults.Memory all = unread keeper_faults.Memory NoMemory (λ e. cc) (λ e. cc) (λ e. cc) refl refl all

-- the rules that a state's names and its book show are those of its history
rules_named : (state : State) (page : Page) (moments : List Moment) (history : History) → Represents state history → moments ≡ moments_of history
    → rules_by_names state.catalog.names (dated_line page.format moments) page.scope (take (count_to page.last moments) history) ≡ shown_text (Rules page) history
rules_named state page moments history stands is =
    let first : History = take (count_to page.last (moments_of history)) history in
    ap (λ (set : List Moment). rules_by_names state.catalog.names (dated_line page.format set) page.scope (take (count_to page.last set) history)) is
    ∙ ap (λ (known : KnownNames). rules_by_names known (dated_line page.format (moments_of history)) page.scope first) stands.names
    ∙ rules_of_first history stands.valid (count_to page.last (moments_of history)) (dated_line page.format (moments_of history)) page.scope
    ∙ ap (λ (front : History). rules_by_names (known_at front) (dated_line page.format (moments_of history)) page.scope front) (sym (first_to_bound page.last history stands.valid))

module _ (state : State) (before after : KeeperState) (ticks ticks' : ℕ) (written written' : Option Txt) (faults faults' : ℕ) (cut : Option Ending) where
  pub loaded_rules : (page : Page) (moments start : List Moment) → start ≡ [] → GathersAll (λ read. start ≡ moments_of read) (λ read. moments ≡ moments_of read) (well Fault) before after ticks ticks'
      → WritesPage (BookRepresents state.book) (λ history. rules_by_names state.catalog.names (dated_line page.format moments) page.scope (take (count_to page.last moments) history)) cut written written' faults faults'
      → ShowsLoaded state (Rules page) (unwrap_or cut Served) before after written written' faults faults' ticks ticks'
  loaded_rules page moments start none all writes =
      gathered_page (λ read. start ≡ moments_of read) (λ read. moments ≡ moments_of read) state before after ticks ticks' (Rules page) all none (BookRepresents state.book)
      (λ history. rules_by_names state.catalog.names (dated_line page.format moments) page.scope (take (count_to page.last moments) history))
      (λ history is stands. (stands.book, rules_named state page moments history stands is)) written written' faults faults' cut writes

  pub loaded_users : (roster : Roster) (grants start : List Grant) → start ≡ []
      → GathersAll (λ read. start ≡ grants_of (entries_to roster.last read)) (λ read. grants ≡ grants_of (entries_to roster.last read)) (well Fault) before after ticks ticks'
      → Writes (grants_shown roster.format grants) cut written written' faults faults'
      → ShowsLoaded state (Users roster) (unwrap_or cut Served) before after written written' faults faults' ticks ticks'
  loaded_users roster grants start none all writes =
      let text : Txt = grants_shown roster.format grants in
      let IsText : History → Type 0 = λ history. text ≡ shown_text (Users roster) history in
      gathered_page (λ read. start ≡ grants_of (entries_to roster.last read)) (λ read. grants ≡ grants_of (entries_to roster.last read)) state before after ticks ticks' (Users roster) all none IsText
      (λ history. shown_text (Users roster) history) (λ history is stands. (ap (grants_shown roster.format) is, refl)) written written' faults faults' cut
      (page_written IsText (λ history. shown_text (Users roster) history) written faults written' faults' text (λ history is. is) cut writes)
