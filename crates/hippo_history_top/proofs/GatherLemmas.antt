-- Gathering from the stored entries, one piece after another.
use Rattle.std.proofs.Common.{◌≡◌, ◌∙◌, ◌↔◌, ℕ, ◌+◌, ◌^◌, ◌<◌, Bool, true, false, not, [], ◌∷◌, ◌++◌, length, take, drop, get_or, Some, None, Result, Ok, Err, OnOk, IsTrue, refl, sym, ap, subst, append_assoc, arith}
use Rattle.std.proofs.lemmas.List.{append-nil, take-append-drop}
use Rattle.hippo_model.specs.declared.entry.Entry.{Entry}
use Rattle.hippo_model.specs.declared.stored.StoredEntry.{StoredEntry}
use Rattle.hippo_model.specs.Terms.{History}
use Rattle.hippo_entry.specs.Forms.{IsEntryOf}
use Rattle.hippo_keeper.specs.declared.faults.KeeperFault.{KeeperFault as Fault}
use Rattle.hippo_keeper.specs.declared.faults.KeeperFault.TheVariants as keeper_faults
use Rattle.hippo_keeper.specs.Answering.{has_failed}
use Rattle.hippo_keeper.specs.Keeping.{Store, RisesAbove, last_number, KeeperState, IsReady}
use Rattle.hippo_keeper.specs.Selecting.{is_any, stored_versions, selected_entries, HandsOver, ReadsEntries}
use Rattle.hippo_keeper.proofs.CallLemmas.{KeepsSame-here, KeepsSame-then, KeepsSame-Stays, IsAfterCall-then, IsAfterCall-as, IsAfterCall-none, IsReady-after}
use Rattle.hippo_keeper.proofs.Results.{err_of, ok_of, well}
use Rattle.hippo_replay.proofs.KeeperLemmas.{selected_entries-remaining, nothing_taken}
use Rattle.hippo_replay.proofs.ReadingLemmas.{versions-append, none_by, some_by}
use Rattle.hippo_replay.proofs.TakingInLemmas.{take_at_entry}
use Rattle.hippo_history_top.specs.Gathering.{Gathers, reading_of, GathersNext, IsGathering, GathersAll}
use Rattle.hippo_history_top.specs.Progress.{IsReadUpTo}
use Rattle.hippo_history_top.proofs.EntryLemmas.{one_entry, no_entry}
use Rattle.hippo_history_top.proofs.KeptLemmas.{split, no_entries, last-both, last_above}

-- what follows on success
pub ok_so : {T E A B : Type 0} (result : Result T E) → (A → B) → OnOk result A → OnOk result B
ok_so (Ok value) so holds = so holds
ok_so (Err fault) so holds = tt

-- nothing is covered besides
pub Gathers-none : (covers : History → Type 0) → Gathers covers covers []
Gathers-none covers read entries forms so =
    subst (λ (later : History). covers (read ++ later)) (sym (no_entries entries forms)) (subst covers (sym (append-nil read)) so)

-- some entries are covered, and then others
pub Gathers-then : (old between new : History → Type 0) (first second : Store) → Gathers old between first → Gathers between new second → Gathers old new (first ++ second)
Gathers-then old between new first second one other read entries forms so =
    let parts = split first second entries forms in
    subst new (append_assoc read parts.front parts.later ∙ ap (λ (later : History). read ++ later) (sym parts.parts))
    (other (read ++ parts.front) parts.later parts.second_forms (one read parts.front parts.first_forms so))

-- the entry that has a form is covered
pub Gathers-entry : (old new : History → Type 0) (kept : StoredEntry) (entry : Entry) → IsEntryOf kept (Some entry) → ((read : History) → old read → new (read ++ entry ∷ [])) → Gathers old new (kept ∷ [])
Gathers-entry old new kept entry found covers read entries forms so =
    subst (λ (later : History). new (read ++ later)) (sym (one_entry kept entry found entries forms)) (covers read so)

-- no entry has a form
pub Gathers-nobody : (old new : History → Type 0) (kept : StoredEntry) → IsEntryOf kept None → Gathers old new (kept ∷ [])
Gathers-nobody old new kept found read entries forms so = absurd (no_entry kept found entries forms)

-- one more entry of a piece
pub Gathers-on : (old between new : History → Type 0) (piece : Store) (i : ℕ) (kept : StoredEntry) → i < length piece → kept ≡ get_or piece i kept
    → Gathers old between (take i piece) → Gathers between new (kept ∷ []) → Gathers old new (take (i + 1) piece)
Gathers-on old between new piece i kept inside is one other =
    subst (Gathers old new) (sym (take_at_entry piece i kept inside is)) (Gathers-then old between new (take i piece) (kept ∷ []) one other)

same_answer : (one other : Bool) → ok_of Fault one ≡ Ok other → one ≡ other
same_answer one other e = cc

-- a read that failed, whatever its result would have been
failed_alike : (A B : Type 0) (fault : Fault) → has_failed (err_of A fault) ≡ has_failed (err_of B fault)
failed_alike A B keeper_faults.Failed = refl
failed_alike A B keeper_faults.Memory = refl

module _ (old new : History → Type 0) (max number number' : ℕ) (before after : KeeperState) (ticks ticks' : ℕ) where
  -- a piece was read
  module _ (piece : Store) (some : 0 < max) (room : number < 2 ^ 64) (reads : ReadsEntries is_any number max (Ok piece) before after) (counted : ticks' ≡ ticks + stored_versions piece) where
    handed : after.tells → (read rest : Store) → IsReadUpTo number before read rest → piece ≡ take max rest
    handed tells read rest upto =
        reads.ok.told tells ∙ ap (selected_entries is_any number max) upto.whole
        ∙ selected_entries-remaining max number read rest upto.last (subst (λ (kept : Store). RisesAbove 0 kept) upto.whole upto.order)

    remaining : after.tells → (read rest : Store) → IsReadUpTo number before read rest → rest ≡ piece ++ drop max rest
    remaining tells read rest upto = sym (take-append-drop max rest) ∙ ap (λ (front : Store). front ++ drop max rest) (sym (handed tells read rest upto))

    pub GathersNext-piece : (empty : Bool) → (IsTrue empty ↔ (piece ≡ [])) → Gathers old new piece → number' ≡ last_number number piece
        → GathersNext old new (Ok (not empty)) before after number number' ticks ticks'
    GathersNext-piece empty is gathers last = record {
      piece = piece;
      hands = record {
        call = IsAfterCall-as true false (Ok piece) (Ok (not empty)) before after refl reads.call;
        stays = λ tells. KeepsSame-Stays before after (reads.stays tells);
        steps = counted;
      };
      gathers = gathers;
      last = last;
      more = λ e. (subst (λ (n : ℕ). number < n) (sym last) (last_above number piece reads.ok.order (some_by empty piece is (same_answer (not empty) true e))), room);
      told = λ tells read rest upto. (drop max rest, remaining tells read rest upto);
      nothing = λ e. none_by empty piece is (same_answer (not empty) false e);
      ended = λ e tells read rest upto.
          let none = none_by empty piece is (same_answer (not empty) false e) in
          nothing_taken max rest some (sym (handed tells read rest upto) ∙ none);
    }

    -- memory ran out at an entry of the piece
    pub GathersNext-short : GathersNext old new (Err keeper_faults.Memory) before after number number' ticks ticks'
    GathersNext-short = record {
      piece = piece;
      hands = record {
        call = IsAfterCall-as true false (Ok piece) (err_of Bool keeper_faults.Memory) before after refl reads.call;
        stays = λ tells. KeepsSame-Stays before after (reads.stays tells);
        steps = counted;
      };
      gathers = tt;
      last = tt;
      more = λ e. absurd cc;
      told = λ tells read rest upto. (drop max rest, remaining tells read rest upto);
      nothing = λ e. absurd cc;
      ended = λ e. absurd cc;
    }

    -- either of them
    pub GathersNext-read : {E : Type 0} (covered : Result (Unit {0}) E) (empty : Bool) → (IsTrue empty ↔ (piece ≡ [])) → OnOk covered (Gathers old new piece) → OnOk covered (number' ≡ last_number number piece)
        → GathersNext old new (reading_of covered (not empty)) before after number number' ticks ticks'
    GathersNext-read (Ok value) empty is gathers last = GathersNext-piece empty is gathers last
    GathersNext-read (Err error) empty is gathers last = GathersNext-short

  -- a call on the keeper failed
  pub GathersNext-fault : (fault : Fault) → ReadsEntries is_any number max (Err fault) before after → ticks' ≡ ticks + 0
      → GathersNext old new (Err fault) before after number number' ticks ticks'
  GathersNext-fault fault reads counted = record {
    piece = [];
    hands = record {
      call = IsAfterCall-as true false (err_of Store fault) (err_of Bool fault) before after (failed_alike Bool Store fault) reads.call;
      stays = λ tells. KeepsSame-Stays before after (reads.stays tells);
      steps = counted;
    };
    gathers = tt;
    last = tt;
    more = λ e. absurd cc;
    told = λ tells read rest upto. (rest, refl);
    nothing = λ e. refl;
    ended = λ e. absurd cc;
  }

-- before anything is read
pub IsGathering-first : (start : History → Type 0) (keeper : KeeperState) (ticks : ℕ) → IsReady true keeper → IsGathering start start keeper keeper 0 ticks ticks
IsGathering-first start keeper ticks ready = record {
  read = [];
  hands = record {
    call = IsAfterCall-none (Ok tt) keeper refl ready;
    stays = λ tells. KeepsSame-here keeper;
    steps = omega arith;
  };
  last = refl;
  gathers = Gathers-none start;
  told = λ tells. (keeper.kept, refl);
}

module _ (start old : History → Type 0) (before now : KeeperState) (number ticks ticks' : ℕ) (so_far : IsGathering start old before now number ticks ticks') where
  -- a keeper is ready while gathering goes on
  pub gathering_ready : IsReady true now
  gathering_ready = IsReady-after {A = Unit {0}} (Ok tt) before now refl so_far.hands.call

  module _ (order : before.tells → RisesAbove 0 before.kept) (new : History → Type 0) (after : KeeperState) (number' ticks'' : ℕ) (result : Result Bool Fault)
      (next : GathersNext old new result now after number number' ticks' ticks'') where
    up_to : now.tells → (remaining : Store) → before.kept ≡ so_far.read ++ remaining → IsReadUpTo number now so_far.read remaining
    up_to tells remaining whole = record {
      last = so_far.last;
      order = subst (λ (kept : Store). RisesAbove 0 kept) (sym (so_far.hands.stays tells).same) (order (so_far.hands.call.told tells));
      whole = (so_far.hands.stays tells).same ∙ whole;
    }

    -- what was read so far, the piece, and what follows it
    longer : after.tells → ((remaining : Store) × (before.kept ≡ (so_far.read ++ next.piece) ++ remaining))
    longer tells =
        let front = so_far.told (next.hands.call.told tells) in
        let more = next.told tells so_far.read front.0 (up_to (next.hands.call.told tells) front.0 front.1) in
        (more.0, front.1 ∙ ap (λ (rest : Store). so_far.read ++ rest) more.1 ∙ sym (append_assoc so_far.read next.piece more.0))

    both_handed : {A : Type 0} (answer : Result A Fault) → has_failed answer ≡ has_failed result → HandsOver answer (so_far.read ++ next.piece) before after ticks ticks''
    both_handed answer same = record {
      call = IsAfterCall-as true false result answer before after same
          (IsAfterCall-then {A = Unit {0}} false (Ok tt) result before now after refl so_far.hands.call next.hands.call);
      stays = λ tells. KeepsSame-then before now after (so_far.hands.stays (next.hands.call.told tells)) (next.hands.stays tells);
      steps =
          let one = so_far.hands.steps in
          let other = next.hands.steps in
          let both = versions-append so_far.read next.piece in
          omega (arith, one, other, both);
    }

    on_ok : (X : Type 0) (any : Bool) → result ≡ Ok any → OnOk result X → X
    on_ok X any is holds = subst (λ (r : Result Bool Fault). OnOk r X) is holds

    covered : (any : Bool) → result ≡ Ok any → Gathers start new (so_far.read ++ next.piece)
    covered any is = Gathers-then start old new so_far.read next.piece so_far.gathers (on_ok (Gathers old new next.piece) any is next.gathers)

    -- one more piece
    pub IsGathering-on : result ≡ Ok true → IsGathering start new before after number' ticks ticks''
    IsGathering-on is = record {
      read = so_far.read ++ next.piece;
      hands = both_handed (well Fault) (ap has_failed (sym is));
      last = last-both 0 so_far.read next.piece ∙ ap (λ (n : ℕ). last_number n next.piece) so_far.last ∙ sym (on_ok (number' ≡ last_number number next.piece) true is next.last);
      gathers = covered true is;
      told = longer;
    }

    -- all entries were read
    pub GathersAll-end : result ≡ Ok false → GathersAll start new (well Fault) before after ticks ticks''
    GathersAll-end is = record {
      read = so_far.read ++ next.piece;
      hands = both_handed (well Fault) (ap has_failed (sym is));
      told = longer;
      whole = λ tells. subst (Gathers start new) (sym (all_read tells)) (covered false is);
    }
      where
        all_read : after.tells → before.kept ≡ so_far.read ++ next.piece
        all_read tells =
            let front = so_far.told (next.hands.call.told tells) in
            let none : front.0 ≡ [] = next.ended is tells so_far.read front.0 (up_to (next.hands.call.told tells) front.0 front.1) in
            front.1 ∙ ap (λ (more : Store). so_far.read ++ more) (none ∙ sym (next.nothing is))

    -- a call on the keeper failed, or memory ran out
    pub GathersAll-fault : (fault : Fault) → result ≡ Err fault → GathersAll start new (err_of (Unit {0}) fault) before after ticks ticks''
    GathersAll-fault fault is = record {
      read = so_far.read ++ next.piece;
      hands = both_handed (err_of (Unit {0}) fault) (failed_alike (Unit {0}) Bool fault ∙ ap has_failed (sym is));
      told = longer;
      whole = tt;
    }
