-- Reading the stored entries piece by piece.
use Rattle.std.proofs.Common.{◌≡◌, ◌≢◌, ◌∙◌, sym, ap, refl, arith, subst, ℕ, ◌+◌, ◌^◌, ◌<◌, ◌↔◌, Bool, true, false, not, [], ◌∷◌, ◌++◌, map, length, take, drop, cond, Result, Ok, Err, IfOk, OnOk, IsTrue, length-append, append_assoc}
use Rattle.std.specs.Result.{result_and}
use Rattle.std.proofs.lemmas.Bool.{false≢true}
use Rattle.std.proofs.lemmas.List.{take-append-drop}
use Rattle.std.proofs.lemmas.List.Sums.{sum_by-append}
use Rattle.hippo_model.specs.StoredForms.{stored}
use Rattle.hippo_model.specs.Stores.{IsDamagedAt}
use Rattle.hippo_keeper.specs.declared.faults.KeeperFault.{KeeperFault}
use Rattle.hippo_keeper.specs.declared.faults.KeeperFault.TheVariants as keeper_faults
use Rattle.hippo_keeper.specs.Answering.{has_failed}
use Rattle.hippo_keeper.specs.Keeping.{Store, RisesAbove, last_number, next_number as next_kept, KeeperState, IsReady, IsAfterCall}
use Rattle.hippo_keeper.specs.Selecting.{is_any, is_stored_version, stored_versions, selected_entries, HandsOver, ReadsEntries}
use Rattle.hippo_typing.specs.Meanings.{meaning}
use Rattle.hippo_replay.specs.declared.faults.LoadFault.{LoadFault}
use Rattle.hippo_replay.specs.declared.faults.LoadFault.TheVariants.{Keeper, Damaged, Memory}
use Rattle.hippo_replay.specs.declared.state.State.{State}
use Rattle.hippo_replay.specs.Standing.{Represents, IsSound}
use Rattle.hippo_replay.specs.TakingIn.{HasLoaded, TakesIn}
use Rattle.hippo_replay.specs.Loading.{load_as_call}
use Rattle.hippo_replay.specs.Reading.{load_fault, IsUpTo, ReadsPiece, IsReading, ReadsAllKept}
use Rattle.hippo_replay.proofs.TakingInLemmas.{loaded_count}
use Rattle.hippo_replay.proofs.KeeperLemmas.{next_kept-stored, selected_entries-remaining, nothing_taken}
use Rattle.hippo_keeper.proofs.CallLemmas.{KeepsSame-here, KeepsSame-then, KeepsSame-Stays, IsAfterCall-then, IsAfterCall-as, IsAfterCall-none}
use Rattle.hippo_keeper.proofs.Results.{err_of, ok_of, well}

pub versions-append : (first second : Store) → stored_versions (first ++ second) ≡ stored_versions first + stored_versions second
versions-append first second = sum_by-append (λ kept. cond (is_stored_version kept) 1 0) first second

-- a fault that is not the keeper's is not a failed call
load_as_call-unfailed : {A : Type 0} (result : Result A LoadFault) → result ≢ Err Keeper → has_failed (load_as_call result) ≡ false
load_as_call-unfailed (Ok value) other = refl
load_as_call-unfailed (Err Keeper) other = absurd (other refl)
load_as_call-unfailed (Err (Damaged place)) other = refl
load_as_call-unfailed (Err Memory) other = refl

same_Ok : {A B : Type 0} (x y : A) → ok_of B x ≡ Ok y → x ≡ y
same_Ok x y e = cc

pub same_Err : {A B : Type 0} (x y : B) → err_of A x ≡ Err y → x ≡ y
same_Err x y e = cc

-- the number of the last entry that was loaded
last_loaded : (state : State) (store : Store) → HasLoaded state store → last_number 0 store ≡ state.count
last_loaded state store loaded =
    let next = ap next_kept (sym loaded.forms) ∙ next_kept-stored meaning loaded.history loaded.stands.valid in
    let counted = loaded.stands.count in
    omega (arith, next, counted)

-- the count is higher than before if something was taken in
more_loaded : (old new : State) (piece : Store) → IsSound old → ((store : Store) → HasLoaded old store → HasLoaded new (store ++ piece)) → new.count ≡ old.count + length piece
more_loaded old new piece sound taken =
    let before : HasLoaded old (map stored sound.history) = record { history = sound.history; forms = refl; stands = sound.stands } in
    let one = loaded_count old (map stored sound.history) before in
    let other = loaded_count new (map stored sound.history ++ piece) (taken (map stored sound.history) before) in
    omega (arith, one, other, length-append (map stored sound.history) piece)

some_there : (piece : Store) → ¬ (piece ≡ []) → 0 < length piece
some_there [] some = absurd (some refl)
some_there (entry ∷ piece) some = omega arith

module _ (max : ℕ) (before after : KeeperState) (old new : State) (steps_old steps_new : ℕ) (piece : Store)
    (reads : ReadsEntries is_any old.count max (Ok piece) before after) (steps : steps_new ≡ steps_old + stored_versions piece) where
  read_call : {B : Type 0} (answer : Result B LoadFault) → answer ≢ Err Keeper → IsAfterCall true false (load_as_call answer) before after
  read_call answer other = IsAfterCall-as true false (Ok piece) (load_as_call answer) before after (load_as_call-unfailed answer other) reads.call

  read_told : after.tells → (store rest : Store) → IsUpTo old before store rest → piece ≡ take max rest
  read_told tells store rest upto =
      reads.ok.told tells ∙ ap (selected_entries is_any old.count max) upto.whole
      ∙ selected_entries-remaining max old.count store rest (last_loaded old store upto.loaded) (subst (λ (kept : Store). RisesAbove 0 kept) upto.whole upto.order)

  read_after : after.tells → (store rest : Store) → IsUpTo old before store rest → rest ≡ piece ++ drop max rest
  read_after tells store rest upto = sym (take-append-drop max rest) ∙ ap (λ (front : Store). front ++ drop max rest) (sym (read_told tells store rest upto))

  read_damage : (fault : LoadFault) → TakesIn piece (err_of (Unit {0}) fault) old new → (place : ℕ) → fault ≡ Damaged place → after.tells → (store rest : Store) → IsUpTo old before store rest → IsDamagedAt meaning before.kept place
  read_damage fault taken place is tells store rest upto =
      let whole = upto.whole ∙ ap (λ (remaining : Store). store ++ remaining) (read_after tells store rest upto) in
      subst (λ (kept : Store). IsDamagedAt meaning kept place) (sym whole) (taken.damaged place (ap Err is) store (drop max rest) upto.loaded)

  -- a piece was taken in
  reads_on-ok : (any : Bool) → 0 < max → old.count < 2 ^ 64 → IsSound old → (any ≡ false → piece ≡ []) → (any ≡ true → ¬ (piece ≡ [])) → TakesIn piece (well LoadFault) old new → ReadsPiece (Ok any) before after old new steps_old steps_new
  reads_on-ok any some room sound none more taken = record {
    piece = piece;
    hands = record {
      call = read_call (Ok any) (λ e. absurd cc);
      stays = λ tells. KeepsSame-Stays before after (reads.stays tells);
      steps = steps;
    };
    told = λ tells store rest upto. (drop max rest, read_after tells store rest upto);
    taken = taken.ok;
    ended = λ is tells store rest upto. nothing_taken max rest some (sym (read_told tells store rest upto) ∙ none (same_Ok any false is));
    nothing = λ is. none (same_Ok any false is);
    goes_on = λ is.
        let count = more_loaded old new piece sound taken.ok in
        let there = some_there piece (more (same_Ok any true is)) in
        (omega arith, room);
    damaged = λ place is. absurd cc;
  }

  -- its damage was found, or memory ran out
  reads_on-err : (fault : LoadFault) → TakesIn piece (err_of (Unit {0}) fault) old new → ReadsPiece (Err fault) before after old new steps_old steps_new
  reads_on-err fault taken = record {
    piece = piece;
    hands = record {
      call = read_call {B = Bool} (Err fault) (λ e. taken.unfailed (ap Err (same_Err fault Keeper e)));
      stays = λ tells. KeepsSame-Stays before after (reads.stays tells);
      steps = steps;
    };
    told = λ tells store rest upto. (drop max rest, read_after tells store rest upto);
    taken = tt;
    ended = λ is. absurd cc;
    nothing = λ is. absurd cc;
    goes_on = λ is. absurd cc;
    damaged = λ place is. read_damage fault taken place (same_Err fault (Damaged place) is);
  }

  -- the result of a piece that was read
  pub reads_on : (any : Bool) → 0 < max → old.count < 2 ^ 64 → IsSound old → (any ≡ false → piece ≡ []) → (any ≡ true → ¬ (piece ≡ [])) → (all : Result (Unit {0}) LoadFault) → TakesIn piece all old new → ReadsPiece (result_and all (Ok any)) before after old new steps_old steps_new
  reads_on any some room sound none more (Ok done) taken = reads_on-ok any some room sound none more taken
  reads_on any some room sound none more (Err fault) taken = reads_on-err fault taken

pub sound_by : (any : Bool) (state : State) (all : Result (Unit {0}) LoadFault) → OnOk all (IsSound state) → IfOk (result_and all (Ok any)) (λ any. IsSound state)
sound_by any state (Ok done) sound = sound
sound_by any state (Err fault) sound = tt

-- a piece is empty or not
pub none_by : (empty : Bool) (piece : Store) → (IsTrue empty ↔ (piece ≡ [])) → not empty ≡ false → piece ≡ []
none_by true piece is e = is.0 refl
none_by false piece is e = absurd cc

pub some_by : (empty : Bool) (piece : Store) → (IsTrue empty ↔ (piece ≡ [])) → not empty ≡ true → ¬ (piece ≡ [])
some_by true piece is e = absurd cc
some_by false piece is e = λ none. false≢true (is.1 none)

-- a read that failed
pub reads_on-fault : (max : ℕ) (before after : KeeperState) (old : State) (steps_old steps_new : ℕ) (fault : KeeperFault) → ReadsEntries is_any old.count max (Err fault) before after → steps_new ≡ steps_old + 0 → ReadsPiece (Err (load_fault fault)) before after old old steps_old steps_new
reads_on-fault max before after old steps_old steps_new fault reads steps = record {
  piece = [];
  hands = record {
    call = by_fault before after fault reads.call;
    stays = λ tells. KeepsSame-Stays before after (reads.stays tells);
    steps = steps;
  };
  told = λ tells store rest upto. (rest, refl);
  taken = tt;
  ended = λ is. absurd cc;
  nothing = λ is. absurd cc;
  goes_on = λ is. absurd cc;
  damaged = λ place is. absurd (undamaged fault place is);
}
  where
    by_fault : (before after : KeeperState) (fault : KeeperFault) → IsAfterCall true false (err_of Store fault) before after → IsAfterCall true false (load_as_call (err_of Bool (load_fault fault))) before after
    by_fault before after keeper_faults.Failed call = IsAfterCall-as true false (err_of Store keeper_faults.Failed) (err_of (Unit {0}) keeper_faults.Failed) before after refl call
    by_fault before after keeper_faults.Memory call = IsAfterCall-as true false (err_of Store keeper_faults.Memory) (err_of (Unit {0}) keeper_faults.Memory) before after refl call

    undamaged : (fault : KeeperFault) (place : ℕ) → err_of Bool (load_fault fault) ≡ Err (Damaged place) → ⊥
    undamaged keeper_faults.Failed place e = cc
    undamaged keeper_faults.Memory place e = cc

-- nothing is read at first
pub IsReading-first : (keeper : KeeperState) (state : State) (steps : ℕ) → IsReady true keeper → Represents state [] → IsReading keeper keeper state steps steps
IsReading-first keeper state steps ready stands = record {
  read = [];
  hands = record {
    call = IsAfterCall-none (well KeeperFault) keeper refl ready;
    stays = λ tells. KeepsSame-here keeper;
    steps = omega arith;
  };
  sound = record { history = []; stands = stands };
  loaded = record { history = []; forms = refl; stands = stands };
  told = λ tells. (keeper.kept, refl);
}

module _ (before now after : KeeperState) (old new : State) (steps_first steps_old steps_new : ℕ)
    (so_far : IsReading before now old steps_first steps_old) (order : before.tells → RisesAbove 0 before.kept) where
  up_to : now.tells → (remaining : Store) → before.kept ≡ so_far.read ++ remaining → IsUpTo old now so_far.read remaining
  up_to tells remaining whole = record {
    loaded = so_far.loaded;
    order = subst (λ (kept : Store). RisesAbove 0 kept) (sym (so_far.hands.stays tells).same) (order (so_far.hands.call.told tells));
    whole = (so_far.hands.stays tells).same ∙ whole;
  }

  module _ (result : Result Bool LoadFault) (reads : ReadsPiece result now after old new steps_old steps_new) where
    hands_then : HandsOver (load_as_call result) (so_far.read ++ reads.piece) before after steps_first steps_new
    hands_then = record {
      call = IsAfterCall-then false (well KeeperFault) (load_as_call result) before now after refl so_far.hands.call reads.hands.call;
      stays = λ tells. KeepsSame-then before now after (so_far.hands.stays (reads.hands.call.told tells)) (reads.hands.stays tells);
      steps =
          let here = reads.hands.steps in
          let there = so_far.hands.steps in
          omega (arith, here, there, versions-append so_far.read reads.piece);
    }

    told_then : after.tells → ((remaining : Store) × (before.kept ≡ (so_far.read ++ reads.piece) ++ remaining))
    told_then tells =
        let rest = so_far.told (reads.hands.call.told tells) in
        let more = reads.told tells so_far.read rest.0 (up_to (reads.hands.call.told tells) rest.0 rest.1) in
        (more.0, rest.1 ∙ ap (λ (remaining : Store). so_far.read ++ remaining) more.1 ∙ sym (append_assoc so_far.read reads.piece more.0))

    -- there is more to read
    pub IsReading-on : result ≡ Ok true → IsSound new → IsReading before after new steps_first steps_new
    IsReading-on is sound =
        record {
          read = so_far.read ++ reads.piece;
          hands = subst (λ (r : Result Bool LoadFault). HandsOver (load_as_call r) (so_far.read ++ reads.piece) before after steps_first steps_new) is hands_then;
          sound = sound;
          loaded = (subst (λ (r : Result Bool LoadFault). OnOk r ((store : Store) → HasLoaded old store → HasLoaded new (store ++ reads.piece))) is reads.taken) so_far.read so_far.loaded;
          told = told_then;
        }

    -- everything is read
    pub ReadsAllKept-end : result ≡ Ok false → ReadsAllKept (Ok tt) before after new steps_first steps_new
    ReadsAllKept-end is =
        record {
          read = so_far.read ++ reads.piece;
          hands = subst (λ (r : Result Bool LoadFault). HandsOver (load_as_call r) (so_far.read ++ reads.piece) before after steps_first steps_new) is hands_then;
          told = told_then;
          loaded = (subst (λ (r : Result Bool LoadFault). OnOk r ((store : Store) → HasLoaded old store → HasLoaded new (store ++ reads.piece))) is reads.taken) so_far.read so_far.loaded;
          whole = λ tells.
              let rest = so_far.told (reads.hands.call.told tells) in
              let none = reads.ended is tells so_far.read rest.0 (up_to (reads.hands.call.told tells) rest.0 rest.1) in
              rest.1 ∙ ap (λ (remaining : Store). so_far.read ++ remaining) (none ∙ sym (reads.nothing is));
          damaged = λ place e. absurd cc;
        }

    -- something is wrong
    pub ReadsAllKept-fault : (fault : LoadFault) → result ≡ Err fault → ReadsAllKept (Err fault) before after new steps_first steps_new
    ReadsAllKept-fault fault is =
        record {
          read = so_far.read ++ reads.piece;
          hands = same_hands fault (subst (λ (r : Result Bool LoadFault). HandsOver (load_as_call r) (so_far.read ++ reads.piece) before after steps_first steps_new) is hands_then);
          told = told_then;
          loaded = tt;
          whole = tt;
          damaged = λ place e tells.
              let rest = so_far.told (reads.hands.call.told tells) in
              let there = reads.damaged place (is ∙ ap Err (same_Err fault (Damaged place) e)) tells so_far.read rest.0 (up_to (reads.hands.call.told tells) rest.0 rest.1) in
              subst (λ (kept : Store). IsDamagedAt meaning kept place) (so_far.hands.stays (reads.hands.call.told tells)).same there;
        }
      where
        same_hands : (fault : LoadFault) → HandsOver (load_as_call (err_of Bool fault)) (so_far.read ++ reads.piece) before after steps_first steps_new → HandsOver (load_as_call (err_of (Unit {0}) fault)) (so_far.read ++ reads.piece) before after steps_first steps_new
        same_hands Keeper hands = hands
        same_hands (Damaged place) hands = hands
        same_hands Memory hands = hands
