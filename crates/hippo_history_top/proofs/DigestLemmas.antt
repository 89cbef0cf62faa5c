-- The digest over the stored entries, one piece after another.
use Rattle.std.proofs.Common.{◌≡◌, ◌≢◌, ◌∙◌, ◌↔◌, ℕ, zero, suc, ◌+◌, ◌-◌, ◌<◌, ◌≤◌, Bool, true, false, not, List, [], ◌∷◌, ◌++◌, map, length, take, drop, Option, Some, unwrap_or, Result, Ok, Err, IsTrue, refl, sym, ap, subst, append_assoc, length-append, arith}
use Rattle.std.specs.Prelude.{min}
use Rattle.std.proofs.Math.Seq.{take-append-add}
use Rattle.std.proofs.lemmas.List.{take-append-drop, take-map, length-map}
use Rattle.std.proofs.lemmas.List.Sums.{fold-append}
use Rattle.hippo_values.specs.Texts.{Txt}
use Rattle.hippo_model.specs.StoredForms.{stored}
use Rattle.hippo_model.specs.Terms.{History}
use Rattle.hippo_keeper.specs.declared.faults.KeeperFault.{KeeperFault as Fault}
use Rattle.hippo_keeper.specs.declared.faults.KeeperFault.TheVariants as keeper_faults
use Rattle.hippo_keeper.specs.Answering.{has_failed}
use Rattle.hippo_keeper.specs.Keeping.{Store, RisesAbove, last_number, KeeperState, IsReady}
use Rattle.hippo_keeper.specs.Selecting.{is_any, stored_versions, selected_entries, HandsOver, ReadsEntries}
use Rattle.hippo_keeper.proofs.CallLemmas.{KeepsSame-here, KeepsSame-then, KeepsSame-Stays, IsAfterCall-then, IsAfterCall-as, IsAfterCall-none, IsReady-after}
use Rattle.hippo_keeper.proofs.Results.{err_of, ok_of}
use Rattle.hippo_replay.specs.declared.state.State.{State}
use Rattle.hippo_replay.proofs.KeeperLemmas.{selected_entries-remaining, nothing_taken}
use Rattle.hippo_replay.proofs.ReadingLemmas.{versions-append, none_by, some_by}
use Rattle.hippo_history_top.specs.declared.asking.View.TheVariants.{Digest}
use Rattle.hippo_history_top.specs.declared.digest.Chain.{Chain}
use Rattle.hippo_program_args.specs.declared.endings.Ending.{Ending}
use Rattle.hippo_program_args.specs.declared.endings.Ending.TheVariants.{Served, KeeperFault, WriteFault, Damaged, NoMemory}
use Rattle.hippo_program_args.specs.Endings.{ending_as_call}
use Rattle.hippo_history_top.specs.Digests.{digest_with, no_digest, digest_after, digest_line}
use Rattle.hippo_history_top.specs.Digesting.{empty_chain, CoversEntries, DigestsNext, IsDigesting, DigestsAll}
use Rattle.hippo_history_top.specs.Endings.{ends_showing, ending_of}
use Rattle.hippo_history_top.specs.Saying.{Writes}
use Rattle.hippo_history_top.specs.Showing.{shown_text}
use Rattle.hippo_history_top.specs.Progress.{HasForms, IsReadUpTo, ShowsLoaded}
use Rattle.hippo_history_top.proofs.KeptLemmas.{last-both}
use Rattle.hippo_history_top.proofs.PageLemmas.{page_written, loaded_page}
use Rattle.hippo_history_top.proofs.WriteLemmas.{none_of, CountsWrites-same}

CoversEntries-none : (chain : Chain) → CoversEntries [] chain chain
CoversEntries-none chain = record { counted = omega arith; last = refl; digested = refl }

CoversEntries-then : (first second : Store) (old mid new : Chain) → CoversEntries first old mid → CoversEntries second mid new → CoversEntries (first ++ second) old new
CoversEntries-then first second old mid new one other = record {
  counted =
      let here = one.counted in
      let there = other.counted in
      omega (arith, here, there, length-append first second);
  last = other.last ∙ ap (λ (n : ℕ). last_number n second) one.last ∙ sym (last-both old.number first second);
  digested = other.digested ∙ ap (λ (d : List ℕ). digest_after d second) one.digested ∙ sym (fold-append digest_with old.digest first second);
}

some_there : (piece : Store) → ¬ (piece ≡ []) → 0 < length piece
some_there [] some = absurd (some refl)
some_there (entry ∷ piece) some = omega arith

take_of_none : (n : ℕ) (rest : Store) → rest ≡ [] → take n rest ≡ []
take_of_none zero rest none = refl
take_of_none (suc n) rest none = ap (take (suc n)) none

same_answer : (one other : Bool) → ok_of Fault one ≡ Ok other → one ≡ other
same_answer one other e = cc

-- a read that failed, whatever its result would have been
failed_alike : (A B : Type 0) (fault : Fault) → has_failed (err_of A fault) ≡ has_failed (err_of B fault)
failed_alike A B keeper_faults.Failed = refl
failed_alike A B keeper_faults.Memory = refl

-- as many entries as are asked for are covered
pub DigestsNext-full : (last : ℕ) (keeper : KeeperState) (chain : Chain) (ticks : ℕ) → IsReady true keeper → chain.count ≤ last → min 1000 (last - chain.count) ≡ 0
    → DigestsNext last (Ok false) keeper keeper chain chain ticks ticks
DigestsNext-full last keeper chain ticks ready within none = record {
  piece = [];
  hands = record {
    call = IsAfterCall-none (Ok false) keeper refl ready;
    stays = λ tells. KeepsSame-here keeper;
    steps = omega arith;
  };
  covers = CoversEntries-none chain;
  within = within;
  more = λ e. absurd cc;
  told = λ tells read rest upto. (rest, refl);
  nothing = λ e. refl;
  ended = λ e tells read rest upto. ap (λ (n : ℕ). take n rest) nothing_left;
}
  where
    nothing_left : last - chain.count ≡ 0
    nothing_left = omega (arith, none)

module _ (last max : ℕ) (before after : KeeperState) (old : Chain) (ticks ticks' : ℕ) where
  -- a piece was read
  module _ (new : Chain) (piece : Store) (some : 0 < max) (room : max ≤ last - old.count) (within : old.count ≤ last)
      (reads : ReadsEntries is_any old.number max (Ok piece) before after) (counted : ticks' ≡ ticks + stored_versions piece) (covers : CoversEntries piece old new) where
    handed : after.tells → (read rest : Store) → IsReadUpTo old.number before read rest → piece ≡ take max rest
    handed tells read rest upto =
        reads.ok.told tells ∙ ap (selected_entries is_any old.number max) upto.whole
        ∙ selected_entries-remaining max old.number read rest upto.last (subst (λ (kept : Store). RisesAbove 0 kept) upto.whole upto.order)

    remaining : after.tells → (read rest : Store) → IsReadUpTo old.number before read rest → rest ≡ piece ++ drop max rest
    remaining tells read rest upto = sym (take-append-drop max rest) ∙ ap (λ (front : Store). front ++ drop max rest) (sym (handed tells read rest upto))

    pub DigestsNext-piece : (empty : Bool) → (IsTrue empty ↔ (piece ≡ [])) → DigestsNext last (Ok (not empty)) before after old new ticks ticks'
    DigestsNext-piece empty is = record {
      piece = piece;
      hands = record {
        call = IsAfterCall-as true false (Ok piece) (Ok (not empty)) before after refl reads.call;
        stays = λ tells. KeepsSame-Stays before after (reads.stays tells);
        steps = counted;
      };
      covers = covers;
      within =
          let few = reads.ok.few in
          let sum = covers.counted in
          omega (arith, few, sum, room, within);
      more = λ e.
          let sum = covers.counted in
          let there = some_there piece (some_by empty piece is (same_answer (not empty) true e)) in
          omega (arith, sum, there);
      told = λ tells read rest upto. (drop max rest, remaining tells read rest upto);
      nothing = λ e. none_by empty piece is (same_answer (not empty) false e);
      ended = λ e tells read rest upto.
          let none = none_by empty piece is (same_answer (not empty) false e) in
          take_of_none (last - old.count) rest (nothing_taken max rest some (sym (handed tells read rest upto) ∙ none));
    }

  -- a call on the keeper failed
  pub DigestsNext-fault : (fault : Fault) → old.count ≤ last → ReadsEntries is_any old.number max (Err fault) before after → ticks' ≡ ticks + 0
      → DigestsNext last (Err fault) before after old old ticks ticks'
  DigestsNext-fault fault within reads counted = record {
    piece = [];
    hands = record {
      call = IsAfterCall-as true false (err_of Store fault) (err_of Bool fault) before after (failed_alike Bool Store fault) reads.call;
      stays = λ tells. KeepsSame-Stays before after (reads.stays tells);
      steps = counted;
    };
    covers = CoversEntries-none old;
    within = within;
    more = λ e. absurd cc;
    told = λ tells read rest upto. (rest, refl);
    nothing = λ e. refl;
    ended = λ e. absurd cc;
  }

-- before anything is read
pub IsDigesting-first : (last : ℕ) (keeper : KeeperState) (ticks : ℕ) → IsReady true keeper → IsDigesting last keeper keeper empty_chain ticks ticks
IsDigesting-first last keeper ticks ready = record {
  read = [];
  hands = record {
    call = IsAfterCall-none (Ok tt) keeper refl ready;
    stays = λ tells. KeepsSame-here keeper;
    steps = omega arith;
  };
  covers = CoversEntries-none empty_chain;
  within = omega arith;
  told = λ tells. (keeper.kept, refl);
}

module _ (last : ℕ) (before now : KeeperState) (chain : Chain) (ticks ticks' : ℕ) (so_far : IsDigesting last before now chain ticks ticks') where
  -- a keeper is ready while the digest goes on
  pub digesting_ready : IsReady true now
  digesting_ready = IsReady-after {A = Unit {0}} (Ok tt) before now refl so_far.hands.call

  module _ (order : before.tells → RisesAbove 0 before.kept) (after : KeeperState) (chain' : Chain) (ticks'' : ℕ) (result : Result Bool Fault)
      (next : DigestsNext last result now after chain chain' ticks' ticks'') where
    up_to : now.tells → (remaining : Store) → before.kept ≡ so_far.read ++ remaining → IsReadUpTo chain.number now so_far.read remaining
    up_to tells remaining whole = record {
      last = sym so_far.covers.last;
      order = subst (λ (kept : Store). RisesAbove 0 kept) (sym (so_far.hands.stays tells).same) (order (so_far.hands.call.told tells));
      whole = (so_far.hands.stays tells).same ∙ whole;
    }

    -- what was read so far, the piece, and what follows it
    longer : after.tells → ((remaining : Store) × (before.kept ≡ (so_far.read ++ next.piece) ++ remaining))
    longer tells =
        let front = so_far.told (next.hands.call.told tells) in
        let more = next.told tells so_far.read front.0 (up_to (next.hands.call.told tells) front.0 front.1) in
        (more.0, front.1 ∙ ap (λ (rest : Store). so_far.read ++ rest) more.1 ∙ sym (append_assoc so_far.read next.piece more.0))

    both_handed : {A : Type 0} (answer : Result A Fault) → has_failed answer ≡ has_failed result → HandsOver answer (so_far.read ++ next.piece) before after ticks ticks''
    both_handed answer same = record {
      call = IsAfterCall-as true false result answer before after same
          (IsAfterCall-then {A = Unit {0}} false (Ok tt) result before now after refl so_far.hands.call next.hands.call);
      stays = λ tells. KeepsSame-then before now after (so_far.hands.stays (next.hands.call.told tells)) (next.hands.stays tells);
      steps =
          let one = so_far.hands.steps in
          let other = next.hands.steps in
          let both = versions-append so_far.read next.piece in
          omega (arith, one, other, both);
    }

    covered : CoversEntries (so_far.read ++ next.piece) empty_chain chain'
    covered = CoversEntries-then so_far.read next.piece empty_chain chain chain' so_far.covers next.covers

    -- one more piece
    pub IsDigesting-on : result ≡ Ok true → IsDigesting last before after chain' ticks ticks''
    IsDigesting-on is = record {
      read = so_far.read ++ next.piece;
      hands = both_handed (Ok tt) (ap has_failed (sym is));
      covers = covered;
      within = next.within;
      told = longer;
    }

    -- the first entries, as many as are asked for, were read
    pub DigestsAll-end : result ≡ Ok false → DigestsAll last (Ok chain') before after ticks ticks''
    DigestsAll-end is = record {
      read = so_far.read ++ next.piece;
      hands = both_handed (Ok chain') (ap has_failed (sym is));
      told = longer;
      whole = λ tells. subst (λ (entries : Store). CoversEntries entries empty_chain chain') (sym (all_read tells)) covered;
    }
      where
        all_read : after.tells → take last before.kept ≡ so_far.read ++ next.piece
        all_read tells =
            let front = so_far.told (next.hands.call.told tells) in
            let none : take (last - chain.count) front.0 ≡ [] = next.ended is tells so_far.read front.0 (up_to (next.hands.call.told tells) front.0 front.1) in
            let sum = so_far.covers.counted in
            let within = so_far.within in
            let parts : last ≡ length so_far.read + (last - chain.count) = omega (arith, sum, within) in
            ap (take last) front.1 ∙ ap (λ (n : ℕ). take n (so_far.read ++ front.0)) parts
            ∙ take-append-add so_far.read front.0 (last - chain.count)
            ∙ ap (λ (more : Store). so_far.read ++ more) (none ∙ sym (next.nothing is))

    -- a call on the keeper failed
    pub DigestsAll-fault : (fault : Fault) → result ≡ Err fault → DigestsAll last (Err fault) before after ticks ticks''
    DigestsAll-fault fault is = record {
      read = so_far.read ++ next.piece;
      hands = both_handed (err_of Chain fault) (failed_alike Chain Bool fault ∙ ap has_failed (sym is));
      told = longer;
      whole = tt;
    }

module _ (state : State) (last : ℕ) (before after : KeeperState) (ticks ticks' : ℕ) (written : Option Txt) (faults : ℕ) where
  read_once : (result : Result Chain Fault) → DigestsAll last result before after ticks ticks' → after.tells → ticks' ≤ ticks + stored_versions before.kept
  read_once result all tells =
      let there = all.told tells in
      let kept : stored_versions before.kept ≡ stored_versions all.read + stored_versions there.0 = ap stored_versions there.1 ∙ versions-append all.read there.0 in
      let taken = all.hands.steps in
      omega (arith, kept, taken)

  -- the line of a digest is that of each history with these stored forms
  line_of : (chain : Chain) → DigestsAll last (Ok chain) before after ticks ticks' → after.tells → (history : History) → HasForms before.kept history
      → digest_line chain.count chain.digest ≡ shown_text (Digest last) history
  line_of chain all tells history forms =
      ap (λ (n : ℕ). digest_line n chain.digest) counted ∙ ap (digest_line (length (take last history))) digested
    where
      covers : CoversEntries (take last before.kept) empty_chain chain
      covers = all.whole tells

      first : take last before.kept ≡ map stored (take last history)
      first = ap (take last) (sym forms.forms) ∙ take-map stored last history

      counted : chain.count ≡ length (take last history)
      counted =
          let sum = covers.counted in
          let same = ap length first in
          let kept = length-map (take last history) stored in
          omega (arith, sum, same, kept)

      digested : chain.digest ≡ digest_after no_digest (map stored (take last history))
      digested = covers.digested ∙ ap (digest_after no_digest) first

  -- the digest was computed, and its line was written
  pub digest_written : (chain : Chain) → DigestsAll last (Ok chain) before after ticks ticks' → (written' : Option Txt) (faults' : ℕ) (cut : Option Ending)
      → Writes (digest_line chain.count chain.digest) cut written written' faults faults'
      → ShowsLoaded state (Digest last) (unwrap_or cut Served) before after written written' faults faults' ticks ticks'
  digest_written chain all written' faults' cut writes =
      loaded_page state written written' faults faults' (Digest last) before after ticks ticks' IsLine text
      (λ ending fine. IsAfterCall-as true false (Ok chain) (ending_as_call ending) before after fine all.hands.call) all.hands.stays (read_once (Ok chain) all)
      (λ tells history stands forms. (line_of chain all tells history forms, refl)) cut
      (page_written IsLine text written faults written' faults' (digest_line chain.count chain.digest) (λ history is. is) cut writes)
    where
      text : History → Txt
      text history = shown_text (Digest last) history

      IsLine : History → Type 0
      IsLine history = digest_line chain.count chain.digest ≡ text history

  unread : (fault : Fault) (ending : Ending) → ending ≢ Served → ending ≢ Damaged → Some ending ≢ Some WriteFault → ends_showing (Some ending) ≡ true
      → has_failed (ending_as_call ending) ≡ has_failed (err_of Chain fault)
      → DigestsAll last (Err fault) before after ticks ticks' → ShowsLoaded state (Digest last) ending before after written written faults faults ticks ticks'
  unread fault ending unended sound unwritten listed same all = record {
    call = IsAfterCall-as true false (err_of Chain fault) (ending_as_call ending) before after same all.hands.call;
    stays = all.hands.stays;
    status = listed;
    writes = CountsWrites-same (Some ending) faults unwritten;
    whole = λ is. absurd (unended is);
    front = λ tells history stands forms. none_of written (shown_text (Digest last) history);
    damaged = λ is. absurd (sound is);
    steps = read_once (Err fault) all;
  }

  -- a call on the keeper failed, and nothing is written
  pub digest_unread : (fault : Fault) → DigestsAll last (Err fault) before after ticks ticks'
      → ShowsLoaded state (Digest last) (ending_of fault) before after written written faults faults ticks ticks'
  digest_unread keeper_faults.Failed all = unread keeper_faults.Failed KeeperFault (λ e. cc) (λ e. cc) (λ e. cc) refl refl all
  digest_unread keeper_faults.Memory all = unread keeper_faults.Memory NoMemory (λ e. cc) (λ e. cc) (λ e. cc) refl refl all
