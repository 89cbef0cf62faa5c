-- Copying the first stored entries, one piece after another.
use Rattle.std.proofs.Common.{◌≡◌, ◌∙◌, ◌↔◌, ℕ, zero, suc, ◌+◌, ◌-◌, ◌<◌, ◌≤◌, Bool, true, false, not, [], ◌∷◌, ◌++◌, length, take, drop, Result, Ok, Err, OnOk, IsTrue, refl, sym, ap, subst, append_assoc, length-append, arith}
use Rattle.std.specs.Prelude.{min}
use Rattle.std.proofs.Math.Seq.{take-append-add}
use Rattle.std.proofs.lemmas.List.{take-append-drop, append-nil}
use Rattle.hippo_model.specs.declared.stored.StoredEntry.{StoredEntry}
use Rattle.hippo_keeper.specs.declared.faults.KeeperFault.{KeeperFault as Fault}
use Rattle.hippo_keeper.specs.declared.faults.KeeperFault.TheVariants as keeper_faults
use Rattle.hippo_keeper.specs.Answering.{has_failed}
use Rattle.hippo_keeper.specs.Keeping.{Store, RisesAbove, last_number, KeeperState, IsReady}
use Rattle.hippo_keeper.specs.Selecting.{is_any, stored_versions, selected_entries, HandsOver, ReadsEntries}
use Rattle.hippo_keeper.proofs.CallLemmas.{KeepsSame-here, KeepsSame-then, KeepsSame-Stays, IsAfterCall-then, IsAfterCall-as, IsAfterCall-none, IsReady-after}
use Rattle.hippo_keeper.proofs.Results.{err_of, ok_of}
use Rattle.hippo_replay.proofs.KeeperLemmas.{selected_entries-remaining, nothing_taken}
use Rattle.hippo_replay.proofs.ReadingLemmas.{versions-append, none_by, some_by}
use Rattle.hippo_history_top.specs.declared.front.Front.{Front}
use Rattle.hippo_history_top.specs.Fronts.{CopiesNext, IsCopying, CopiesFront}
use Rattle.hippo_history_top.specs.Gathering.{reading_of}
use Rattle.hippo_history_top.specs.Progress.{IsReadUpTo}
use Rattle.hippo_history_top.proofs.KeptLemmas.{last-both}

some_there : (piece : Store) → ¬ (piece ≡ []) → 0 < length piece
some_there [] some = absurd (some refl)
some_there (entry ∷ piece) some = omega arith

take_of_none : (n : ℕ) (rest : Store) → rest ≡ [] → take n rest ≡ []
take_of_none zero rest none = refl
take_of_none (suc n) rest none = ap (take (suc n)) none

same_answer : (one other : Bool) → ok_of Fault one ≡ Ok other → one ≡ other
same_answer one other e = cc

-- a read that failed, whatever its result would have been
failed_alike : (A B : Type 0) (fault : Fault) → has_failed (err_of A fault) ≡ has_failed (err_of B fault)
failed_alike A B keeper_faults.Failed = refl
failed_alike A B keeper_faults.Memory = refl

-- numbers that rise from above the last ones go on rising
RisesAbove-both : (number : ℕ) (first second : Store) → RisesAbove number first → RisesAbove (last_number number first) second → RisesAbove number (first ++ second)
RisesAbove-both number [] second one other = other
RisesAbove-both number (entry ∷ first) second one other = (one.0, RisesAbove-both entry.seq first second one.1 other)

-- as many entries as are asked for are copied
pub CopiesNext-full : (count : ℕ) (keeper : KeeperState) (front : Front) (ticks : ℕ) → IsReady true keeper → length front.entries.items ≤ count → min 1000 (count - length front.entries.items) ≡ 0
    → CopiesNext count (Ok false) keeper keeper front front ticks ticks
CopiesNext-full count keeper front ticks ready within none = record {
  piece = [];
  hands = record {
    call = IsAfterCall-none (Ok false) keeper refl ready;
    stays = λ tells. KeepsSame-here keeper;
    steps = omega arith;
  };
  order = tt;
  few = omega arith;
  longer = sym (append-nil front.entries.items);
  last = refl;
  more = λ e. absurd cc;
  told = λ tells read rest upto. (rest, refl);
  nothing = λ e. refl;
  ended = λ e tells read rest upto. ap (λ (n : ℕ). take n rest) nothing_left;
}
  where
    nothing_left : count - length front.entries.items ≡ 0
    nothing_left = omega (arith, none)

module _ (count max : ℕ) (before after : KeeperState) (old : Front) (ticks ticks' : ℕ) where
  -- a piece was read
  module _ (new : Front) (piece : Store) (some : 0 < max) (room : max ≤ count - length old.entries.items)
      (reads : ReadsEntries is_any old.number max (Ok piece) before after) (counted : ticks' ≡ ticks + stored_versions piece) where
    handed : after.tells → (read rest : Store) → IsReadUpTo old.number before read rest → piece ≡ take max rest
    handed tells read rest upto =
        reads.ok.told tells ∙ ap (selected_entries is_any old.number max) upto.whole
        ∙ selected_entries-remaining max old.number read rest upto.last (subst (λ (kept : Store). RisesAbove 0 kept) upto.whole upto.order)

    remaining : after.tells → (read rest : Store) → IsReadUpTo old.number before read rest → rest ≡ piece ++ drop max rest
    remaining tells read rest upto = sym (take-append-drop max rest) ∙ ap (λ (front : Store). front ++ drop max rest) (sym (handed tells read rest upto))

    within_room : length piece ≤ count - length old.entries.items
    within_room = let few = reads.ok.few in omega (arith, few, room)

    copied : (empty : Bool) → (IsTrue empty ↔ (piece ≡ [])) → new.entries.items ≡ old.entries.items ++ piece → new.number ≡ last_number old.number piece
        → CopiesNext count (Ok (not empty)) before after old new ticks ticks'
    copied empty is longer last = record {
      piece = piece;
      hands = record {
        call = IsAfterCall-as true false (Ok piece) (Ok (not empty)) before after refl reads.call;
        stays = λ tells. KeepsSame-Stays before after (reads.stays tells);
        steps = counted;
      };
      order = reads.ok.order;
      few = within_room;
      longer = longer;
      last = last;
      more = λ e. some_by empty piece is (same_answer (not empty) true e);
      told = λ tells read rest upto. (drop max rest, remaining tells read rest upto);
      nothing = λ e. none_by empty piece is (same_answer (not empty) false e);
      ended = λ e tells read rest upto.
          let none = none_by empty piece is (same_answer (not empty) false e) in
          take_of_none (count - length old.entries.items) rest (nothing_taken max rest some (sym (handed tells read rest upto) ∙ none));
    }

    -- there was no memory for the copies
    uncopied : CopiesNext count (Err keeper_faults.Memory) before after old new ticks ticks'
    uncopied = record {
      piece = piece;
      hands = record {
        call = IsAfterCall-as true false (Ok piece) (err_of Bool keeper_faults.Memory) before after refl reads.call;
        stays = λ tells. KeepsSame-Stays before after (reads.stays tells);
        steps = counted;
      };
      order = reads.ok.order;
      few = within_room;
      longer = tt;
      last = tt;
      more = λ e. absurd cc;
      told = λ tells read rest upto. (drop max rest, remaining tells read rest upto);
      nothing = λ e. absurd cc;
      ended = λ e. absurd cc;
    }

    pub CopiesNext-read : {E : Type 0} (added : Result (Unit {0}) E) (empty : Bool) → (IsTrue empty ↔ (piece ≡ [])) → OnOk added (new.entries.items ≡ old.entries.items ++ piece) → OnOk added (new.number ≡ last_number old.number piece)
        → CopiesNext count (reading_of added (not empty)) before after old new ticks ticks'
    CopiesNext-read (Ok value) empty is longer last = copied empty is longer last
    CopiesNext-read (Err error) empty is longer last = uncopied

  -- a call on the keeper failed
  pub CopiesNext-fault : (fault : Fault) → ReadsEntries is_any old.number max (Err fault) before after → ticks' ≡ ticks + 0
      → CopiesNext count (Err fault) before after old old ticks ticks'
  CopiesNext-fault fault reads counted = record {
    piece = [];
    hands = record {
      call = IsAfterCall-as true false (err_of Store fault) (err_of Bool fault) before after (failed_alike Bool Store fault) reads.call;
      stays = λ tells. KeepsSame-Stays before after (reads.stays tells);
      steps = counted;
    };
    order = tt;
    few = omega arith;
    longer = tt;
    last = tt;
    more = λ e. absurd cc;
    told = λ tells read rest upto. (rest, refl);
    nothing = λ e. refl;
    ended = λ e. absurd cc;
  }

-- before anything is read
pub IsCopying-first : (count : ℕ) (keeper : KeeperState) (front : Front) (ticks : ℕ) → front.entries.items ≡ [] → front.number ≡ 0 → IsReady true keeper → IsCopying count keeper keeper front ticks ticks
IsCopying-first count keeper front ticks none first ready = record {
  hands = record {
    call = IsAfterCall-none (Ok tt) keeper refl ready;
    stays = λ tells. KeepsSame-here keeper;
    steps = let no = ap stored_versions none in omega (arith, no);
  };
  last = ap (last_number 0) none ∙ sym first;
  order = subst (RisesAbove 0) (sym none) tt;
  within = let no = ap (length {A = StoredEntry}) none in omega (arith, no);
  told = λ tells. (keeper.kept, ap (λ (read : Store). read ++ keeper.kept) (sym none));
}

module _ (count : ℕ) (before now : KeeperState) (front : Front) (ticks ticks' : ℕ) (so_far : IsCopying count before now front ticks ticks') where
  -- a keeper is ready while the copying goes on
  pub copying_ready : IsReady true now
  copying_ready = IsReady-after {A = Unit {0}} (Ok tt) before now refl so_far.hands.call

  module _ (order : before.tells → RisesAbove 0 before.kept) (after : KeeperState) (front' : Front) (ticks'' : ℕ) (result : Result Bool Fault)
      (next : CopiesNext count result now after front front' ticks' ticks'') where
    abbrev read : Store
    read = front.entries.items

    up_to : now.tells → (remaining : Store) → before.kept ≡ read ++ remaining → IsReadUpTo front.number now read remaining
    up_to tells remaining whole = record {
      last = so_far.last;
      order = subst (λ (kept : Store). RisesAbove 0 kept) (sym (so_far.hands.stays tells).same) (order (so_far.hands.call.told tells));
      whole = (so_far.hands.stays tells).same ∙ whole;
    }

    -- what was read so far, the piece, and what follows it
    longer : after.tells → ((remaining : Store) × (before.kept ≡ (read ++ next.piece) ++ remaining))
    longer tells =
        let start = so_far.told (next.hands.call.told tells) in
        let more = next.told tells read start.0 (up_to (next.hands.call.told tells) start.0 start.1) in
        (more.0, start.1 ∙ ap (λ (rest : Store). read ++ rest) more.1 ∙ sym (append_assoc read next.piece more.0))

    both_handed : {A : Type 0} (answer : Result A Fault) → has_failed answer ≡ has_failed result → HandsOver answer (read ++ next.piece) before after ticks ticks''
    both_handed answer same = record {
      call = IsAfterCall-as true false result answer before after same
          (IsAfterCall-then {A = Unit {0}} false (Ok tt) result before now after refl so_far.hands.call next.hands.call);
      stays = λ tells. KeepsSame-then before now after (so_far.hands.stays (next.hands.call.told tells)) (next.hands.stays tells);
      steps =
          let one = so_far.hands.steps in
          let other = next.hands.steps in
          let both = versions-append read next.piece in
          omega (arith, one, other, both);
    }

    -- the copies go on rising
    both_rise : RisesAbove 0 (read ++ next.piece)
    both_rise = RisesAbove-both 0 read next.piece so_far.order (subst (λ (n : ℕ). RisesAbove n next.piece) (sym so_far.last) next.order)

    on_ok : (X : Type 0) (any : Bool) → result ≡ Ok any → OnOk result X → X
    on_ok X any is holds = subst (λ (r : Result Bool Fault). OnOk r X) is holds

    copied_so : (any : Bool) → result ≡ Ok any → front'.entries.items ≡ read ++ next.piece
    copied_so any is = on_ok (front'.entries.items ≡ read ++ next.piece) any is next.longer

    -- one more piece
    pub IsCopying-on : result ≡ Ok true → IsCopying count before after front' ticks ticks''
    IsCopying-on is = record {
      hands = subst (λ (list : Store). HandsOver {A = Unit {0}} (Ok tt) list before after ticks ticks'') same (both_handed (Ok tt) (ap has_failed (sym is)));
      last = ap (last_number 0) (copied_so true is) ∙ last-both 0 read next.piece ∙ ap (λ (n : ℕ). last_number n next.piece) so_far.last
          ∙ sym (on_ok (front'.number ≡ last_number front.number next.piece) true is next.last);
      order = subst (RisesAbove 0) same both_rise;
      within =
          let sum = ap (length {A = StoredEntry}) (copied_so true is) in
          let parts = length-append read next.piece in
          let few = next.few in
          let within = so_far.within in
          omega (arith, sum, parts, few, within);
      told = λ tells. let more = longer tells in (more.0, more.1 ∙ ap (λ (list : Store). list ++ more.0) same);
    }
      where
        same : read ++ next.piece ≡ front'.entries.items
        same = sym (copied_so true is)

    -- each piece brings more entries
    pub copies_more : result ≡ Ok true → (length read < length front'.entries.items) × (length front'.entries.items ≤ count)
    copies_more is =
        let sum = ap (length {A = StoredEntry}) (copied_so true is) in
        let parts = length-append read next.piece in
        let few = next.few in
        let within = so_far.within in
        let there = some_there next.piece (next.more is) in
        (omega (arith, sum, parts, there), omega (arith, sum, parts, few, within))

    -- the first entries, as many as are asked for, are copied
    pub CopiesFront-end : result ≡ Ok false → CopiesFront count (Ok front'.entries.items) before after ticks ticks''
    CopiesFront-end is = record {
      read = read ++ next.piece;
      hands = both_handed (Ok front'.entries.items) (ap has_failed (sym is));
      told = longer;
      order = subst (RisesAbove 0) (sym (copied_so false is)) both_rise;
      whole = λ tells. copied_so false is ∙ sym (all_read tells);
    }
      where
        all_read : after.tells → take count before.kept ≡ read ++ next.piece
        all_read tells =
            let start = so_far.told (next.hands.call.told tells) in
            let none : take (count - length read) start.0 ≡ [] = next.ended is tells read start.0 (up_to (next.hands.call.told tells) start.0 start.1) in
            let within = so_far.within in
            let parts : count ≡ length read + (count - length read) = omega (arith, within) in
            ap (take count) start.1 ∙ ap (λ (n : ℕ). take n (read ++ start.0)) parts
            ∙ take-append-add read start.0 (count - length read)
            ∙ ap (λ (more : Store). read ++ more) (none ∙ sym (next.nothing is))

    -- a call on the keeper failed, or memory ran out
    pub CopiesFront-fault : (fault : Fault) → result ≡ Err fault → CopiesFront count (Err fault) before after ticks ticks''
    CopiesFront-fault fault is = record {
      read = read ++ next.piece;
      hands = both_handed (err_of Store fault) (failed_alike Store Bool fault ∙ ap has_failed (sym is));
      told = longer;
      order = tt;
      whole = tt;
    }
