-- Reading the stored entries piece by piece and showing them.
use Rattle.std.proofs.Common.{◌≡◌, ◌≢◌, ◌∙◌, ℕ, ◌+◌, ◌^◌, ◌<◌, ◌≤◌, true, false, [], ◌++◌, take, drop, Option, Some, None, Ok, Err, refl, sym, ap, subst, append_assoc, arith}
use Rattle.std.proofs.lemmas.Bool.{false≢true}
use Rattle.std.proofs.lemmas.List.{take-append-drop}
use Rattle.std.proofs.lemmas.Option.{same_Some}
use Rattle.hippo_values.specs.declared.moments.Moment.{Moment}
use Rattle.hippo_values.specs.Texts.{Txt}
use Rattle.hippo_io.specs.Told.{Appends, AppendsFront}
use Rattle.hippo_model.specs.Terms.{History}
use Rattle.hippo_typing_catalog.specs.Catalogs.{KnownNames}
use Rattle.hippo_keeper.specs.declared.faults.KeeperFault.{KeeperFault as Fault}
use Rattle.hippo_keeper.specs.declared.faults.KeeperFault.TheVariants as keeper_faults
use Rattle.hippo_keeper.specs.Answering.{has_failed}
use Rattle.hippo_keeper.specs.Keeping.{Store, RisesAbove, last_number, KeeperState, IsReady, IsAfterCall}
use Rattle.hippo_keeper.specs.Selecting.{is_any, stored_versions, selected_entries, ReadsEntries}
use Rattle.hippo_replay.proofs.KeeperLemmas.{selected_entries-remaining, nothing_taken}
use Rattle.hippo_keeper.proofs.CallLemmas.{KeepsSame-here, KeepsSame-then, KeepsSame-Stays, IsAfterCall-then, IsAfterCall-as, IsAfterCall-none, IsReady-after}
use Rattle.hippo_keeper.proofs.Results.{err_of}
use Rattle.hippo_replay.proofs.ReadingLemmas.{versions-append}
use Rattle.hippo_history_top.specs.declared.asking.Excerpt.{Excerpt}
use Rattle.hippo_program_args.specs.declared.endings.Ending.{Ending}
use Rattle.hippo_program_args.specs.declared.endings.Ending.TheVariants.{Served, Refused, KeeperFault, ReadFault, WriteFault, Damaged, NoMemory, TooMuch}
use Rattle.hippo_program_args.specs.Endings.{ending_as_call, part_as_call}
use Rattle.hippo_history_top.specs.Endings.{ends_showing, ending_of, cuts, cut_of}
use Rattle.hippo_history_top.specs.Saying.{CountsWrites}
use Rattle.hippo_history_top.specs.ByNames.{entries_shown}
use Rattle.hippo_history_top.specs.Progress.{HasForms, ShowsKept, IsReadUpTo, ShowsNext, IsShowing, ShowsAll}
use Rattle.hippo_history_top.proofs.KeptLemmas.{ShowsKept-none, ShowsKept-unread, ShowsKept-then, front_so, damaged_so, last-both, last_above}

-- the endings that entries may cause
record Cuts (result : Option Ending) : Type 0 where
  same : cut_of result ≡ result
  listed : ends_showing result ≡ true
  unended : result ≢ Some Served
  fine : has_failed (part_as_call result) ≡ false

cuts_so : (result : Option Ending) → cuts result ≡ true → Cuts result
cuts_so None is = record { same = refl; listed = refl; unended = λ e. cc; fine = refl }
cuts_so (Some WriteFault) is = record { same = refl; listed = refl; unended = λ e. cc; fine = refl }
cuts_so (Some Damaged) is = record { same = refl; listed = refl; unended = λ e. cc; fine = refl }
cuts_so (Some NoMemory) is = record { same = refl; listed = refl; unended = λ e. cc; fine = refl }
cuts_so (Some Served) is = absurd (false≢true is)
cuts_so (Some Refused) is = absurd (false≢true is)
cuts_so (Some KeeperFault) is = absurd (false≢true is)
cuts_so (Some ReadFault) is = absurd (false≢true is)
cuts_so (Some TooMuch) is = absurd (false≢true is)

module _ (known : KnownNames) (excerpt : Excerpt) (max number : ℕ) (before after : KeeperState) (piece : Store) (steps steps' : ℕ)
    (reads : ReadsEntries is_any number max (Ok piece) before after) (counted : steps' ≡ steps + stored_versions piece) where
  handed : after.tells → (read rest : Store) → IsReadUpTo number before read rest → piece ≡ take max rest
  handed tells read rest upto =
      reads.ok.told tells ∙ ap (selected_entries is_any number max) upto.whole
      ∙ selected_entries-remaining max number read rest upto.last (subst (λ (kept : Store). RisesAbove 0 kept) upto.whole upto.order)

  remaining : after.tells → (read rest : Store) → IsReadUpTo number before read rest → rest ≡ piece ++ drop max rest
  remaining tells read rest upto = sym (take-append-drop max rest) ∙ ap (λ (front : Store). front ++ drop max rest) (sym (handed tells read rest upto))

  -- nothing remained
  pub ShowsNext-end : (clock : Option Moment) (written : Option Txt) (faults : ℕ) → 0 < max → piece ≡ []
      → ShowsNext known excerpt (Some Served) before after number number clock clock written written faults faults steps steps'
  ShowsNext-end clock written faults some none = record {
    call = IsAfterCall-as true false (Ok piece) (part_as_call (Some Served)) before after refl reads.call;
    stays = λ tells. KeepsSame-Stays before after (reads.stays tells);
    status = refl;
    piece = piece;
    shows = subst (λ (p : Store). ShowsKept known excerpt p None clock clock written written faults faults) (sym none) (ShowsKept-none known excerpt clock written faults);
    steps = counted;
    last = λ e. absurd cc;
    more = λ e. absurd cc;
    told = λ tells read rest upto. (drop max rest, remaining tells read rest upto);
    nothing = λ e. none;
    ended = λ e tells read rest upto. nothing_taken max rest some (sym (handed tells read rest upto) ∙ none);
  }

  -- a piece was shown
  pub ShowsNext-piece : (result : Option Ending) (number' : ℕ) (clock clock' : Option Moment) (written written' : Option Txt) (faults faults' : ℕ)
      → number < 2 ^ 64 → ¬ (piece ≡ []) → ShowsKept known excerpt piece result clock clock' written written' faults faults'
      → (result ≡ None → number' ≡ last_number number piece)
      → ShowsNext known excerpt result before after number number' clock clock' written written' faults faults' steps steps'
  ShowsNext-piece result number' clock clock' written written' faults faults' room some shows last =
      let may = cuts_so result shows.ends in
      record {
        call = IsAfterCall-as true false (Ok piece) (part_as_call result) before after may.fine reads.call;
        stays = λ tells. KeepsSame-Stays before after (reads.stays tells);
        status = may.listed;
        piece = piece;
        shows = subst (λ (r : Option Ending). ShowsKept known excerpt piece r clock clock' written written' faults faults') (sym may.same) shows;
        steps = counted;
        last = last;
        more = λ on. (subst (λ (n : ℕ). number < n) (sym (last on)) (last_above number piece reads.ok.order some), room);
        told = λ tells read rest upto. (drop max rest, remaining tells read rest upto);
        nothing = λ e. absurd (may.unended e);
        ended = λ e. absurd (may.unended e);
      }

-- a call on the keeper failed
module _ (known : KnownNames) (excerpt : Excerpt) (max number : ℕ) (before after : KeeperState) (steps steps' : ℕ) where
  -- nothing was read, and the program ends
  ends_unread : (ending : Ending) (fault : Fault) (clock : Option Moment) (written : Option Txt) (faults : ℕ) → ends_showing (Some ending) ≡ true → ending ≢ Served
      → has_failed (ending_as_call ending) ≡ has_failed (err_of Store fault) → ShowsKept known excerpt [] (cut_of (Some ending)) clock clock written written faults faults
      → ReadsEntries is_any number max (Err fault) before after → steps' ≡ steps + 0
      → ShowsNext known excerpt (Some ending) before after number number clock clock written written faults faults steps steps'
  ends_unread ending fault clock written faults listed unended same shows reads counted = record {
    call = IsAfterCall-as true false (err_of Store fault) (part_as_call (Some ending)) before after same reads.call;
    stays = λ tells. KeepsSame-Stays before after (reads.stays tells);
    status = listed;
    piece = [];
    shows = shows;
    steps = counted;
    last = λ e. absurd cc;
    more = λ e. absurd cc;
    told = λ tells read rest upto. (rest, refl);
    nothing = λ e. refl;
    ended = λ e. absurd (unended (same_Some ending Served e));
  }

  pub ShowsNext-fault : (fault : Fault) (clock : Option Moment) (written : Option Txt) (faults : ℕ)
      → ReadsEntries is_any number max (Err fault) before after → steps' ≡ steps + 0
      → ShowsNext known excerpt (Some (ending_of fault)) before after number number clock clock written written faults faults steps steps'
  ShowsNext-fault keeper_faults.Failed clock written faults =
      ends_unread KeeperFault keeper_faults.Failed clock written faults refl (λ e. cc) refl (ShowsKept-none known excerpt clock written faults)
  ShowsNext-fault keeper_faults.Memory clock written faults =
      ends_unread NoMemory keeper_faults.Memory clock written faults refl (λ e. cc) refl (ShowsKept-unread known excerpt [] clock written faults)

module _ (known : KnownNames) (excerpt : Excerpt) (before now after : KeeperState) where
  -- before anything is read
  pub IsShowing-first : (written : Option Txt) (faults steps : ℕ) → IsReady true before → IsShowing known excerpt before before 0 None written written faults faults steps steps
  IsShowing-first written faults steps ready = record {
    call = IsAfterCall-none (Ok tt) before refl ready;
    stays = λ tells. KeepsSame-here before;
    read = [];
    last = refl;
    shows = ShowsKept-none known excerpt None written faults;
    steps = omega arith;
    told = λ tells. (before.kept, refl);
  }

  module _ (number number' : ℕ) (clock clock' : Option Moment) (start written written' : Option Txt) (faults faults' faults'' steps steps' steps'' : ℕ)
      (so_far : IsShowing known excerpt before now number clock start written faults faults' steps steps')
      (order : before.tells → RisesAbove 0 before.kept) where
    up_to : now.tells → (remaining : Store) → before.kept ≡ so_far.read ++ remaining → IsReadUpTo number now so_far.read remaining
    up_to tells remaining whole = record {
      last = so_far.last;
      order = subst (λ (kept : Store). RisesAbove 0 kept) (sym (so_far.stays tells).same) (order (so_far.call.told tells));
      whole = (so_far.stays tells).same ∙ whole;
    }

    module _ (result : Option Ending) (next : ShowsNext known excerpt result now after number number' clock clock' written written' faults' faults'' steps' steps'') where
      -- what was read so far, the piece, and what follows it
      longer : after.tells → ((remaining : Store) × (before.kept ≡ (so_far.read ++ next.piece) ++ remaining))
      longer tells =
          let front = so_far.told (next.call.told tells) in
          let more = next.told tells so_far.read front.0 (up_to (next.call.told tells) front.0 front.1) in
          (more.0, front.1 ∙ ap (λ (rest : Store). so_far.read ++ rest) more.1 ∙ sym (append_assoc so_far.read next.piece more.0))

      counted : steps'' ≡ steps + stored_versions (so_far.read ++ next.piece)
      counted =
          let one = so_far.steps in
          let other = next.steps in
          let both = versions-append so_far.read next.piece in
          omega (arith, one, other, both)

      shown : ShowsKept known excerpt (so_far.read ++ next.piece) (cut_of result) None clock' start written' faults faults''
      shown = ShowsKept-then known excerpt so_far.read next.piece (cut_of result) None clock clock' start written written' faults faults' faults'' so_far.shows next.shows

      -- one more piece
      pub IsShowing-on : result ≡ None → IsShowing known excerpt before after number' clock' start written' faults faults'' steps steps''
      IsShowing-on on = record {
        call = IsAfterCall-as true false (part_as_call None) (Ok tt) before after refl
            (subst (λ (r : Option Ending). IsAfterCall true false (part_as_call r) before after) on called);
        stays = λ tells. KeepsSame-then before now after (so_far.stays (next.call.told tells)) (next.stays tells);
        read = so_far.read ++ next.piece;
        last = last-both 0 so_far.read next.piece ∙ ap (λ (n : ℕ). last_number n next.piece) so_far.last ∙ sym (next.last on);
        shows = subst (λ (r : Option Ending). ShowsKept known excerpt (so_far.read ++ next.piece) r None clock' start written' faults faults'') (ap cut_of on) shown;
        steps = counted;
        told = longer;
      }
        where
          called : IsAfterCall true false (part_as_call result) before after
          called = IsAfterCall-then {A = Unit {0}} false (Ok tt) (part_as_call result) before now after refl so_far.call next.call

    -- the end
    module _ (ending : Ending) (next : ShowsNext known excerpt (Some ending) now after number number' clock clock' written written' faults' faults'' steps' steps'') where
      abbrev all : ShowsKept known excerpt (so_far.read ++ next.piece) (cut_of (Some ending)) None clock' start written' faults faults''
      all = shown (Some ending) next

      front_there : after.tells → (entries : History) → HasForms before.kept entries → AppendsFront start written' (entries_shown known excerpt None entries)
      front_there tells entries forms =
          let there = longer (Some ending) next tells in
          front_so known excerpt (so_far.read ++ next.piece) there.0 (cut_of (Some ending)) None clock' start written' faults faults'' all entries
          (subst (λ (s : Store). HasForms s entries) there.1 forms)

      whole_there : ending ≡ Served → after.tells → (entries : History) → HasForms before.kept entries → Appends start written' (entries_shown known excerpt None entries)
      whole_there is tells entries forms =
          let front = so_far.told (next.call.told tells) in
          let nothing_left : front.0 ≡ [] = next.ended (ap Some is) tells so_far.read front.0 (up_to (next.call.told tells) front.0 front.1) in
          let kept : before.kept ≡ so_far.read ++ next.piece = front.1 ∙ ap (λ (rest : Store). so_far.read ++ rest) (nothing_left ∙ sym (next.nothing (ap Some is))) in
          let whole : ShowsKept known excerpt (so_far.read ++ next.piece) None None clock' start written' faults faults'' =
          subst (λ (e : Ending). ShowsKept known excerpt (so_far.read ++ next.piece) (cut_of (Some e)) None clock' start written' faults faults'') is all in
          whole.whole refl entries (subst (λ (s : Store). HasForms s entries) kept forms)

      none_there : ending ≡ Damaged → after.tells → (entries : History) → ¬ (HasForms before.kept entries)
      none_there is tells entries forms =
          let there = longer (Some ending) next tells in
          let cut : cut_of (Some ending) ≡ Some Damaged = ap (λ (e : Ending). cut_of (Some e)) is in
          damaged_so known excerpt (so_far.read ++ next.piece) there.0 (all.damaged cut) entries (subst (λ (s : Store). HasForms s entries) there.1 forms)

      within : after.tells → steps'' ≤ steps + stored_versions before.kept
      within tells =
          let there = longer (Some ending) next tells in
          let kept : stored_versions before.kept ≡ stored_versions (so_far.read ++ next.piece) + stored_versions there.0 = ap stored_versions there.1 ∙ versions-append (so_far.read ++ next.piece) there.0 in
          let taken = counted (Some ending) next in
          omega (arith, kept, taken)

      pub ShowsAll-end : ShowsAll known excerpt ending before after start written' faults faults'' steps steps''
      ShowsAll-end = record {
        call = IsAfterCall-then {A = Unit {0}} false (Ok tt) (ending_as_call ending) before now after refl so_far.call next.call;
        stays = λ tells. KeepsSame-then before now after (so_far.stays (next.call.told tells)) (next.stays tells);
        status = next.status;
        writes = writes_of ending all.writes;
        whole = whole_there;
        front = front_there;
        damaged = none_there;
        steps = within;
      }
        where
          writes_of : (ending : Ending) → CountsWrites (cut_of (Some ending)) faults faults'' → CountsWrites (Some ending) faults faults''
          writes_of Served writes = record { cause = λ e. absurd cc; unfailed = λ other. writes.unfailed (λ e. cc) }
          writes_of KeeperFault writes = record { cause = λ e. absurd cc; unfailed = λ other. writes.unfailed (λ e. cc) }
          writes_of Refused writes = writes
          writes_of WriteFault writes = writes
          writes_of Damaged writes = writes
          writes_of NoMemory writes = writes
          writes_of ReadFault writes = writes
          writes_of TooMuch writes = writes

-- a keeper is ready while showing goes on
pub showing_ready : (known : KnownNames) (excerpt : Excerpt) (before now : KeeperState) (number : ℕ) (clock : Option Moment) (start written : Option Txt) (faults faults' steps steps' : ℕ)
    → IsShowing known excerpt before now number clock start written faults faults' steps steps' → IsReady true now
showing_ready known excerpt before now number clock start written faults faults' steps steps' so_far =
    IsReady-after {A = Unit {0}} (Ok tt) before now refl so_far.call
