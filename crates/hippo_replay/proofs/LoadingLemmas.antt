-- A load, from its start to its answer.
use Rattle.std.proofs.Common.{◌≡◌, ◌∙◌, sym, ap, refl, arith, subst, ℕ, ◌+◌, ◌≤◌, Bool, true, false, not, ◌&&◌, List, map, Result, Ok, Err, IfOk}
use Rattle.std.specs.Result.{result_and}
use Rattle.std.proofs.lemmas.Bool.{false≢true}
use Rattle.std.proofs.lemmas.Result.{IfOk-weaker, IfOk-at_ok}
use Rattle.hippo_model.specs.Terms.{History}
use Rattle.hippo_model.specs.StoredForms.{stored}
use Rattle.hippo_model.specs.Stores.{IsStoreOf, IsDamagedAt}
use Rattle.hippo_model_laws.proofs.OneStore.{one_history, of_none}
use Rattle.hippo_keeper.specs.declared.faults.KeeperFault.{KeeperFault}
use Rattle.hippo_keeper.specs.declared.faults.KeeperFault.TheVariants as keeper_faults
use Rattle.hippo_keeper.specs.Answering.{has_failed, is_out_of_memory}
use Rattle.hippo_keeper.specs.Keeping.{Store, KeeperState, IsReady, IsAfterCall, Starts}
use Rattle.hippo_keeper.specs.Selecting.{stored_versions}
use Rattle.hippo_keeper.proofs.StoredLemmas.{stored_versions-stored}
use Rattle.hippo_typing.specs.Meanings.{meaning}
use Rattle.hippo_replay.specs.declared.faults.LoadFault.{LoadFault}
use Rattle.hippo_replay.specs.declared.faults.LoadFault.TheVariants.{Keeper, Damaged, Memory}
use Rattle.hippo_replay.specs.declared.state.State.{State}
use Rattle.hippo_replay.specs.Standing.{Represents}
use Rattle.hippo_replay.specs.Loading.{load_as_call, judges, KeepsFound, IsLoaded, Loads}
use Rattle.hippo_replay.specs.Reading.{load_fault, ReadsAllKept}
use Rattle.hippo_replay.proofs.KeeperLemmas.{KeepsFound-after}
use Rattle.hippo_keeper.proofs.CallLemmas.{IsAfterCall-then}
use Rattle.hippo_keeper.proofs.TellingLemmas.{HasOpened-none, HasOpened-started}
use Rattle.hippo_replay.proofs.ReadingLemmas.{versions-append, same_Err}
use Rattle.hippo_keeper.proofs.Results.{err_of, well}

-- a keeper that was started or not
call_by : {A : Type 0} (result : Result A KeeperFault) (started closed : Bool) (before after : KeeperState) → IsAfterCall started closed result before after → closed ≡ (not started && is_out_of_memory result) → IsAfterCall after.started (not after.started && is_out_of_memory result) result before after
call_by result started closed before after call is =
    subst (λ (s : Bool). IsAfterCall s (not s && is_out_of_memory result) result before after) (sym call.started_is)
    (subst (λ (c : Bool). IsAfterCall started c result before after) is call)

module _ (name : List ℕ) (before after : KeeperState) (steps : ℕ) where
  -- the keeper could not be started
  pub Loads-unstarted : (fault : KeeperFault) → Starts name (err_of (Unit {0}) fault) before after → Loads name (Err (load_fault fault)) before after steps steps
  Loads-unstarted fault starts = record {
    call = by_fault fault starts.call;
    started = λ judged. absurd (unjudged fault judged);
    found = λ started. absurd (false≢true (sym starts.call.started_is ∙ started));
    ok = tt;
    damaged = λ place is. absurd (undamaged fault place is);
    steps = λ tells. omega arith;
    opened = HasOpened-none name before after starts.call.started_is;
  }
    where
      by_fault : (fault : KeeperFault) → IsAfterCall false (is_out_of_memory (err_of (Unit {0}) fault)) (err_of (Unit {0}) fault) before after → IsAfterCall after.started (not after.started && is_out_of_memory (load_as_call (err_of State (load_fault fault)))) (load_as_call (err_of State (load_fault fault))) before after
      by_fault keeper_faults.Failed call = call_by (Err keeper_faults.Failed) false false before after call refl
      by_fault keeper_faults.Memory call = call_by (Err keeper_faults.Memory) false true before after call refl

      unjudged : (fault : KeeperFault) → judges (err_of State (load_fault fault)) ≡ true → ⊥
      unjudged keeper_faults.Failed e = false≢true e
      unjudged keeper_faults.Memory e = false≢true e

      undamaged : (fault : KeeperFault) (place : ℕ) → err_of State (load_fault fault) ≡ Err (Damaged place) → ⊥
      undamaged keeper_faults.Failed place e = cc
      undamaged keeper_faults.Memory place e = cc

module _ (name : List ℕ) (before mid after : KeeperState) (steps_before steps_after : ℕ) (state : State) (starts : Starts name (well KeeperFault) before mid) where
  found_after : (all : Result (Unit {0}) LoadFault) → ReadsAllKept all mid after state steps_before steps_after → after.tells → KeepsFound (before.finds name) after
  found_after all reads tells = KeepsFound-after (before.finds name) mid after (starts.ok (reads.hands.call.told tells)) (reads.hands.stays tells)

  steps_within : (all : Result (Unit {0}) LoadFault) → ReadsAllKept all mid after state steps_before steps_after → after.tells → steps_after ≤ steps_before + stored_versions after.kept
  steps_within all reads tells =
      let front = reads.told tells in
      let kept : stored_versions after.kept ≡ stored_versions reads.read + stored_versions front.0 = ap stored_versions ((reads.hands.stays tells).same ∙ front.1) ∙ versions-append reads.read front.0 in
      let taken = reads.hands.steps in
      omega arith

  -- the state of what is stored
  is_loaded : ReadsAllKept (Ok tt) mid after state steps_before steps_after → IsLoaded state after steps_before steps_after
  is_loaded reads =
      let loaded = reads.loaded in
      let kept : after.tells → map stored loaded.history ≡ after.kept = λ tells. loaded.forms ∙ sym (reads.whole tells) ∙ sym (reads.hands.stays tells).same in
      record {
        history = loaded.history;
        stands = loaded.stands;
        told = kept;
        only = λ tells other store. one_history meaning after.kept other loaded.history store (record { forms = kept tells; valid = loaded.stands.valid });
        steps = reads.hands.steps ∙ ap (λ n. steps_before + n) (ap stored_versions (sym loaded.forms) ∙ stored_versions-stored loaded.history);
      }

  -- the result of reading everything
  pub Loads-started : (all : Result (Unit {0}) LoadFault) → ReadsAllKept all mid after state steps_before steps_after → Loads name (result_and all (Ok state)) before after steps_before steps_after
  Loads-started (Ok done) reads = record {
    call = call_by (Ok tt) true false before after (IsAfterCall-then false (well KeeperFault) (well KeeperFault) before mid after refl starts.call reads.hands.call) refl;
    started = λ judged. reads.hands.call.started_is;
    found = λ started. found_after (Ok done) reads;
    ok = is_loaded reads;
    damaged = λ place is. absurd cc;
    steps = steps_within (Ok done) reads;
    opened = HasOpened-started name before mid after starts reads.hands.call.telling;
  }
  Loads-started (Err fault) reads = record {
    call = by_fault fault reads.hands.call;
    started = λ judged. reads.hands.call.started_is;
    found = λ started. found_after (Err fault) reads;
    ok = tt;
    damaged = λ place is tells. subst (λ (kept : Store). IsDamagedAt meaning kept place) (sym (reads.hands.stays tells).same) (reads.damaged place (ap Err (same_Err fault (Damaged place) is)) tells);
    steps = steps_within (Err fault) reads;
    opened = HasOpened-started name before mid after starts reads.hands.call.telling;
  }
    where
      by_fault : (fault : LoadFault) → IsAfterCall true false (load_as_call (err_of (Unit {0}) fault)) mid after → IsAfterCall after.started (not after.started && is_out_of_memory (load_as_call (err_of State fault))) (load_as_call (err_of State fault)) before after
      by_fault Keeper call = call_by (Err keeper_faults.Failed) true false before after (IsAfterCall-then false (well KeeperFault) (err_of (Unit {0}) keeper_faults.Failed) before mid after refl starts.call call) refl
      by_fault (Damaged place) call = call_by (Ok tt) true false before after (IsAfterCall-then false (well KeeperFault) (well KeeperFault) before mid after refl starts.call call) refl
      by_fault Memory call = call_by (Err keeper_faults.Memory) true false before after (IsAfterCall-then false (well KeeperFault) (err_of (Unit {0}) keeper_faults.Memory) before mid after refl starts.call call) refl

judged_well : {A : Type 0} (result : Result A LoadFault) → judges result ≡ true → (has_failed (load_as_call result) ≡ false) × (is_out_of_memory (load_as_call result) ≡ false)
judged_well (Ok value) judged = (refl, refl)
judged_well (Err Keeper) judged = absurd (false≢true judged)
judged_well (Err (Damaged place)) judged = (refl, refl)
judged_well (Err Memory) judged = absurd (false≢true judged)

-- a load that finds out what is stored leaves the keeper ready
pub Loads-ready : (name : List ℕ) (result : Result State LoadFault) (before after : KeeperState) (steps_before steps_after : ℕ) → Loads name result before after steps_before steps_after → judges result ≡ true → IsReady true after
Loads-ready name result before after steps_before steps_after loads judged =
    let started = loads.started judged in
    record {
      is_sound = loads.call.is_sound;
      started_is = started;
      not_closed = loads.call.closed_is ∙ (λ i. not (started i) && (judged_well result judged).1 i);
      not_spent = loads.call.spent_is ∙ (judged_well result judged).0;
      has_to_tell = loads.call.telling.has_to;
    }

module _ (name : List ℕ) (result : Result State LoadFault) (before after : KeeperState) (steps_before steps_after : ℕ) (loads : Loads name result before after steps_before steps_after) (tells : after.tells) where
  -- the stored forms of a valid history are never called damaged
  pub never_damaged : (history : History) → IsStoreOf meaning after.kept history → (place : ℕ) → ¬ (result ≡ Err (Damaged place))
  never_damaged history store place is = of_none meaning after.kept place (loads.damaged place is tells) history store

  -- the state stands for the history whose forms are stored
  pub stands_for_kept : (history : History) → IsStoreOf meaning after.kept history → IfOk result (λ state. Represents state history)
  stands_for_kept history store =
      IfOk-weaker result (λ state. IsLoaded state after steps_before steps_after) (λ state. Represents state history)
      (λ state loaded. subst (λ (h : History). Represents state h) (sym (loaded.only tells history store)) loaded.stands) loads.ok

  -- if they are the forms of no valid history, there is no state
  pub never_loaded : ((history : History) → ¬ (IsStoreOf meaning after.kept history)) → (state : State) → ¬ (result ≡ Ok state)
  never_loaded none state is =
      let loaded : IsLoaded state after steps_before steps_after = IfOk-at_ok (λ state. IsLoaded state after steps_before steps_after) is loads.ok in
      none loaded.history (record { forms = loaded.told tells; valid = loaded.stands.valid })
