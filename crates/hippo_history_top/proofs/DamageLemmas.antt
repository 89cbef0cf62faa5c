-- Showing the history before the damage, and then the place.
use Rattle.std.proofs.Common.{◌≡◌, ◌≢◌, ◌∙◌, inl, inr, ℕ, ◌+◌, ◌-◌, ◌≤◌, true, false, [], take, Option, Some, Result, Ok, refl, sym, ap, subst, arith}
use Rattle.std.specs.Prelude.{◌*◌}
use Rattle.std.proofs.lemmas.Bool.{false≢true}
use Rattle.hippo_values.specs.Texts.{Txt}
use Rattle.hippo_io.specs.Faults.{HasRisen}
use Rattle.hippo_io.specs.Told.{Appends, AppendsFront}
use Rattle.hippo_model.specs.Stores.{IsStoreOf, IsDamagedAt}
use Rattle.hippo_model.specs.Terms.{History}
use Rattle.hippo_model_laws.proofs.OneStore.{all_can_be_kept}
use Rattle.hippo_keeper.specs.declared.faults.KeeperFault.{KeeperFault as Fault}
use Rattle.hippo_keeper.specs.declared.faults.KeeperFault.TheVariants as keeper_faults
use Rattle.hippo_keeper.specs.Answering.{has_failed}
use Rattle.hippo_keeper.specs.Keeping.{Store, KeeperState, IsReady, IsAfterCall}
use Rattle.hippo_keeper.specs.MemoryKeeping.{MemoryStore, new_store, memory_keeper_state}
use Rattle.hippo_keeper.specs.Selecting.{stored_versions}
use Rattle.hippo_keeper.proofs.CallLemmas.{IsAfterCall-then, IsAfterCall-as}
use Rattle.hippo_keeper.proofs.Results.{ok_of, err_of}
use Rattle.hippo_typing.specs.Meanings.{meaning}
use Rattle.hippo_replay.specs.declared.faults.LoadFault.{LoadFault}
use Rattle.hippo_replay.specs.declared.faults.LoadFault.TheVariants.{Damaged as DamagedAt}
use Rattle.hippo_replay.specs.declared.state.State.{State}
use Rattle.hippo_replay.specs.Loading.{KeepsFound, Loads}
use Rattle.hippo_replay.specs.Standing.{Represents}
use Rattle.hippo_replay.proofs.LoadingLemmas.{Loads-ready, never_damaged, stands_for_kept}
use Rattle.hippo_replay.proofs.ReadingLemmas.{versions-append}
use Rattle.hippo_program_args.specs.declared.endings.Ending.{Ending}
use Rattle.hippo_program_args.specs.declared.endings.Ending.TheVariants.{Served, Refused, KeeperFault, ReadFault, WriteFault, Damaged, NoMemory, TooMuch}
use Rattle.hippo_program_args.specs.Endings.{ending_as_call}
use Rattle.hippo_program_args.specs.Lines.{damaged_line}
use Rattle.hippo_program_args.specs.Saying.{Says}
use Rattle.hippo_program_args.specs.Starting.{KeepsDamaged}
use Rattle.hippo_program_args.proofs.WriteLemmas.{front_of_more, whole_and_front, both_whole}
use Rattle.hippo_history_top.specs.declared.asking.View.{View}
use Rattle.hippo_history_top.specs.Damage.{damaged_text, BeforeDamage, ThenPlace, ShowsCopied, ShowsDamaged}
use Rattle.hippo_history_top.specs.Endings.{ends_showing, ending_of}
use Rattle.hippo_history_top.specs.Fronts.{CopiesFront}
use Rattle.hippo_history_top.specs.Outcomes.{Ends}
use Rattle.hippo_history_top.specs.Progress.{IsReadable, HasForms, ShowsLoaded}
use Rattle.hippo_history_top.specs.Saying.{CountsWrites}
use Rattle.hippo_history_top.specs.Showing.{shown_text}
use Rattle.hippo_history_top.proofs.OutcomeLemmas.{found_still, as_it_is}
use Rattle.hippo_history_top.proofs.WriteLemmas.{none_of, whole_front, CountsWrites-same}

-- a keeper in memory that no call was made on may be started
pub new_ready : (store : Store) → IsReady false (memory_keeper_state (new_store store []))
new_ready store = record {
  is_sound = tt;
  started_is = refl;
  not_closed = refl;
  not_spent = refl;
  has_to_tell = record { over_disk = λ clean own. tt; over_memory = λ memory. tt };
}

-- a load from memory leaves the entries there
module _ (old new : MemoryStore) (start mid : ℕ) where
  kept_there : (result : Result State LoadFault) → Loads [] result (memory_keeper_state old) (memory_keeper_state new) start mid → new.calls.standing.started ≡ true → new.kept ≡ old.kept
  kept_there result loads started = (loads.found started tt).found

  module _ (state : State) (loads : Loads [] (ok_of LoadFault state) (memory_keeper_state old) (memory_keeper_state new) start mid) where
    pub loaded_readable : IsReadable (memory_keeper_state new)
    loaded_readable = record {
      ready = Loads-ready [] (ok_of LoadFault state) (memory_keeper_state old) (memory_keeper_state new) start mid loads refl;
      order = λ tells. (loads.found (loads.started refl) tells).order;
    }

    pub loaded_kept : new.kept ≡ old.kept
    loaded_kept = kept_there (ok_of LoadFault state) loads (loads.started refl)

    pub loaded_stands : (front : History) → IsStoreOf meaning old.kept front → Represents state front
    loaded_stands front is =
        stands_for_kept [] (ok_of LoadFault state) (memory_keeper_state old) (memory_keeper_state new) start mid loads tt front
        (subst (λ (s : Store). IsStoreOf meaning s front) (sym loaded_kept) is)

  -- damaged entries are those of no history
  pub none_stored : (place : ℕ) → Loads [] (err_of State (DamagedAt place)) (memory_keeper_state old) (memory_keeper_state new) start mid → (front : History) → ¬ (IsStoreOf meaning old.kept front)
  none_stored place loads front is =
      never_damaged [] (err_of State (DamagedAt place)) (memory_keeper_state old) (memory_keeper_state new) start mid loads tt front
      (subst (λ (s : Store). IsStoreOf meaning s front) (sym (kept_there (err_of State (DamagedAt place)) loads (loads.started refl))) is) place refl

module _ (store : Store) (view : View) (place : ℕ) where
  abbrev text : History → Txt
  text front = damaged_text view place front

  -- memory ran out before anything was written
  pub ShowsCopied-short : (written : Option Txt) (faults : ℕ) → ShowsCopied store view place NoMemory written written faults faults
  ShowsCopied-short written faults = record {
    status = refl;
    unserved = λ e. cc;
    unfailed = λ e. cc;
    writes = CountsWrites-same (Some NoMemory) faults (λ e. cc);
    whole = λ e. absurd cc;
    begun = λ front is. none_of written (text front);
  }

  -- the line was written, or a prefix of it, after what was shown
  pub ShowsCopied-said : (result : Ending) (old mid new : Option Txt) (faults between faults' : ℕ)
      → ((front : History) → IsStoreOf meaning store front → Appends old mid (shown_text view front)) → between ≡ faults
      → Says Damaged (damaged_line place) WriteFault result mid new between faults' → ShowsCopied store view place result old new faults faults'
  ShowsCopied-said result old mid new faults between faults' shown same (inl all) =
      subst (λ (r : Ending). ShowsCopied store view place r old new faults faults') (sym all.0) (record {
        status = refl;
        unserved = λ e. cc;
        unfailed = λ e. cc;
        writes = record { cause = λ e. absurd cc; unfailed = λ e. all.2 ∙ same };
        whole = λ e front is. both front is;
        begun = λ front is. whole_front old new (text front) (both front is);
      })
    where
      both : (front : History) → IsStoreOf meaning store front → Appends old new (text front)
      both front is = both_whole old mid new (shown_text view front) (damaged_line place) (shown front is) all.1
  ShowsCopied-said result old mid new faults between faults' shown same (inr cut) =
      subst (λ (r : Ending). ShowsCopied store view place r old new faults faults') (sym cut.0) (record {
        status = refl;
        unserved = λ e. cc;
        unfailed = λ e. cc;
        writes = record { cause = λ e. subst (λ (n : ℕ). HasRisen n faults') same cut.2; unfailed = λ other. absurd (other refl) };
        whole = λ e. absurd cc;
        begun = λ front is. whole_and_front old mid new (shown_text view front) (damaged_line place) (shown front is) cut.1;
      })

  -- there is no history with these stored forms
  pub ShowsCopied-none : (result : Ending) (old new : Option Txt) (faults faults' : ℕ) → ((front : History) → ¬ (IsStoreOf meaning store front))
      → Says Damaged (damaged_line place) WriteFault result old new faults faults' → ShowsCopied store view place result old new faults faults'
  ShowsCopied-none result old new faults faults' never = ShowsCopied-said result old old new faults faults faults' (λ front is. absurd (never front is)) refl

  -- what was loaded is shown, or a prefix of it, and the place may follow
  module _ (state : State) (before after : KeeperState) (ending result : Ending) (old mid new : Option Txt) (faults between faults' ticks ticks' : ℕ)
      (stands : (front : History) → IsStoreOf meaning store front → Represents state front) (kept : before.kept ≡ store) (tells : after.tells)
      (shows : ShowsLoaded state view ending before after old mid faults between ticks ticks') where
    forms : (front : History) → IsStoreOf meaning store front → HasForms before.kept front
    forms front is = record { forms = is.forms ∙ sym kept; keepable = all_can_be_kept meaning front is.valid }

    front_only : (cut : Ending) → new ≡ mid → result ≡ cut → ends_showing (Some cut) ≡ true → cut ≢ Served → cut ≢ KeeperFault
        → CountsWrites (Some cut) faults faults' → (cut ≡ Damaged → (front : History) → ¬ (IsStoreOf meaning store front)) → ShowsCopied store view place result old new faults faults'
    front_only cut same is listed unserved unfailed writes never = subst (λ (r : Ending). ShowsCopied store view place r old new faults faults') (sym is) (record {
      status = listed;
      unserved = unserved;
      unfailed = unfailed;
      writes = writes;
      whole = λ e front has. absurd (never e front has);
      begun = λ front has.
          front_of_more old new (shown_text view front) (damaged_line place)
          (subst (λ (told : Option Txt). AppendsFront old told (shown_text view front)) (sym same) (shows.front tells front (stands front has) (forms front has)));
    })

  pub ShowsCopied-then : (state : State) (before after : KeeperState) (ending result : Ending) (old mid new : Option Txt) (faults between faults' ticks ticks' : ℕ)
      → ((front : History) → IsStoreOf meaning store front → Represents state front) → before.kept ≡ store → after.tells
      → ShowsLoaded state view ending before after old mid faults between ticks ticks' → ThenPlace place ending result mid new between faults'
      → ShowsCopied store view place result old new faults faults'
  ShowsCopied-then state before after Served result old mid new faults between faults' ticks ticks' stands kept tells shows says =
      ShowsCopied-said result old mid new faults between faults'
      (λ front is. shows.whole refl tells front (stands front is) (forms state before after Served result old mid new faults between faults' ticks ticks' stands kept tells shows front is))
      (shows.writes.unfailed (λ e. cc)) says
  ShowsCopied-then state before after KeeperFault result old mid new faults between faults' ticks ticks' stands kept tells shows says =
      front_only state before after KeeperFault result old mid new faults between faults' ticks ticks' stands kept tells shows NoMemory says.1 says.0 refl (λ e. cc) (λ e. cc)
      (record { cause = λ e. absurd cc; unfailed = λ e. says.2 ∙ shows.writes.unfailed (λ e. cc) }) (λ e. absurd cc)
  ShowsCopied-then state before after WriteFault result old mid new faults between faults' ticks ticks' stands kept tells shows says =
      front_only state before after WriteFault result old mid new faults between faults' ticks ticks' stands kept tells shows WriteFault says.1 says.0 refl (λ e. cc) (λ e. cc)
      (record { cause = λ e. subst (HasRisen faults) (sym says.2) (shows.writes.cause refl); unfailed = λ other. absurd (other refl) }) (λ e. absurd cc)
  ShowsCopied-then state before after Damaged result old mid new faults between faults' ticks ticks' stands kept tells shows says =
      front_only state before after Damaged result old mid new faults between faults' ticks ticks' stands kept tells shows Damaged says.1 says.0 refl (λ e. cc) (λ e. cc)
      (record { cause = λ e. absurd cc; unfailed = λ e. says.2 ∙ shows.writes.unfailed (λ e. cc) })
      (λ e front is. shows.damaged refl tells front (forms state before after Damaged result old mid new faults between faults' ticks ticks' stands kept tells shows front is))
  ShowsCopied-then state before after NoMemory result old mid new faults between faults' ticks ticks' stands kept tells shows says =
      front_only state before after NoMemory result old mid new faults between faults' ticks ticks' stands kept tells shows NoMemory says.1 says.0 refl (λ e. cc) (λ e. cc)
      (record { cause = λ e. absurd cc; unfailed = λ e. says.2 ∙ shows.writes.unfailed (λ e. cc) }) (λ e. absurd cc)
  ShowsCopied-then state before after Refused result old mid new faults between faults' ticks ticks' stands kept tells shows says = absurd (false≢true shows.status)
  ShowsCopied-then state before after ReadFault result old mid new faults between faults' ticks ticks' stands kept tells shows says = absurd (false≢true shows.status)
  ShowsCopied-then state before after TooMuch result old mid new faults between faults' ticks ticks' stands kept tells shows says = absurd (false≢true shows.status)

module _ (view : View) (place : ℕ) (before after : KeeperState) (ticks ticks' : ℕ) where
  read_once : (result : Result Store Fault) → CopiesFront (place - 1) result before after ticks ticks' → after.tells → ticks' ≤ ticks + stored_versions before.kept
  read_once result all tells =
      let there = all.told tells in
      let kept : stored_versions before.kept ≡ stored_versions all.read + stored_versions there.0 = ap stored_versions there.1 ∙ versions-append all.read there.0 in
      let taken = all.hands.steps in
      omega (arith, kept, taken)

  -- the entries were copied and shown
  pub ShowsDamaged-copied : (unwritten : Type 0) (front : Store) (result : Ending) (written written' : Option Txt) (faults faults' : ℕ)
      → CopiesFront (place - 1) (ok_of Fault front) before after ticks ticks' → ShowsCopied front view place result written written' faults faults'
      → ShowsDamaged view place result unwritten before after written written' faults faults' ticks ticks'
  ShowsDamaged-copied unwritten front result written written' faults faults' copies shows = record {
    call = IsAfterCall-as true false (ok_of Fault front) (ending_as_call result) before after (fine result shows.unfailed) copies.hands.call;
    stays = copies.hands.stays;
    status = shows.status;
    unserved = shows.unserved;
    unread = λ is. absurd (shows.unfailed is);
    writes = shows.writes;
    whole = λ is tells history has. shows.whole is history (same tells history has);
    begun = λ tells history has. shows.begun history (same tells history has);
    steps = read_once (ok_of Fault front) copies;
  }
    where
      same : after.tells → (history : History) → IsStoreOf meaning (take (place - 1) before.kept) history → IsStoreOf meaning front history
      same tells history has = subst (λ (s : Store). IsStoreOf meaning s history) (sym (copies.whole tells)) has

      fine : (ending : Ending) → ending ≢ KeeperFault → has_failed (ending_as_call ending) ≡ false
      fine KeeperFault other = absurd (other refl)
      fine ending other = refl

  -- a call on the keeper failed, or memory ran out, and nothing is written
  uncopied : (unwritten : Type 0) (fault : Fault) (ending : Ending) (written : Option Txt) (faults : ℕ) → unwritten
      → ends_showing (Some ending) ≡ true → ending ≢ Served → Some ending ≢ Some WriteFault → ending ≢ Damaged
      → has_failed (ending_as_call ending) ≡ has_failed (err_of Store fault)
      → CopiesFront (place - 1) (err_of Store fault) before after ticks ticks'
      → ShowsDamaged view place ending unwritten before after written written faults faults ticks ticks'
  uncopied unwritten fault ending written faults nothing listed unserved unwrote undamaged same copies = record {
    call = IsAfterCall-as true false (err_of Store fault) (ending_as_call ending) before after same copies.hands.call;
    stays = copies.hands.stays;
    status = listed;
    unserved = unserved;
    unread = λ is. nothing;
    writes = CountsWrites-same (Some ending) faults unwrote;
    whole = λ is. absurd (undamaged is);
    begun = λ tells history has. none_of written (damaged_text view place history);
    steps = read_once (err_of Store fault) copies;
  }

  pub ShowsDamaged-uncopied : (unwritten : Type 0) (fault : Fault) (written : Option Txt) (faults : ℕ) → unwritten → CopiesFront (place - 1) (err_of Store fault) before after ticks ticks'
      → ShowsDamaged view place (ending_of fault) unwritten before after written written faults faults ticks ticks'
  ShowsDamaged-uncopied unwritten keeper_faults.Failed written faults nothing copies =
      uncopied unwritten keeper_faults.Failed KeeperFault written faults nothing refl (λ e. cc) (λ e. cc) (λ e. cc) refl copies
  ShowsDamaged-uncopied unwritten keeper_faults.Memory written faults nothing copies =
      uncopied unwritten keeper_faults.Memory NoMemory written faults nothing refl (λ e. cc) (λ e. cc) (λ e. cc) refl copies

-- the store was loaded up to its damage, and what stands before it was shown
module _ (name : Txt) (view : View) (place : ℕ) (before loaded after : KeeperState) (result : Ending) (unwritten : Type 0)
    (written written' : Option Txt) (faults faults' start mid end : ℕ)
    (loads : Loads name (err_of State (DamagedAt place)) before loaded start mid)
    (shows : ShowsDamaged view place result unwritten loaded after written written' faults faults' mid end) where
  pub damaged_call : IsAfterCall after.started after.closed (ending_as_call result) before after
  damaged_call =
      let ready = Loads-ready name (err_of State (DamagedAt place)) before loaded start mid loads refl in
      let first : IsAfterCall {A = Unit {0}} true false (Ok tt) before loaded = record {
        is_sound = loads.call.is_sound;
        started_is = ready.started_is;
        closed_is = ready.not_closed;
        spent_is = loads.call.spent_is;
        told = loads.call.told;
        telling = loads.call.telling;
        faults = loads.call.faults;
      } in
      as_it_is true false (ending_as_call result) before after (IsAfterCall-then {A = Unit {0}} false (Ok tt) (ending_as_call result) before loaded after refl first shows.call)

  module _ (tells : after.tells) where
    abbrev told : loaded.tells
    told = shows.call.told tells

    pub damaged_found : KeepsFound (before.finds name) after
    damaged_found = found_still (before.finds name) loaded after (loads.found (loads.started refl) told) (shows.stays tells)

    pub damaged_steps : end ≤ start + 2 * stored_versions after.kept
    damaged_steps =
        let one = loads.steps told in
        let other = shows.steps tells in
        let same : stored_versions after.kept ≡ stored_versions loaded.kept = ap stored_versions (shows.stays tells).same in
        omega (arith, one, other, same)

    kept : KeepsDamaged name place before after
    kept = record {
      kept = damaged_found;
      damaged = subst (λ (s : Store). IsDamagedAt meaning s place) (sym (shows.stays tells).same) (loads.damaged place refl told);
    }

    -- what holds of the history before the damage
    before_damage : (holds : ℕ → History → Type 0) → ((front : History) → IsStoreOf meaning (take (place - 1) loaded.kept) front → holds place front) → BeforeDamage name holds before after
    before_damage holds each = record {
      place = place;
      kept = kept;
      held = record {
        history = kept.damaged.front;
        is = kept.damaged.before;
        each = λ other is. each other (subst (λ (s : Store). IsStoreOf meaning (take (place - 1) s) other) (shows.stays tells).same is);
      };
    }

    begins : BeforeDamage name (λ p front. AppendsFront written written' (damaged_text view p front)) before after
    begins = before_damage (λ p front. AppendsFront written written' (damaged_text view p front)) (shows.begun tells)

    unlisted_so : {ending : Ending} → result ≡ ending → ends_showing (Some ending) ≡ false → ⊥
    unlisted_so is not = false≢true (sym not ∙ sym (ap (λ (e : Ending). ends_showing (Some e)) is) ∙ shows.status)

    by_result : (ending : Ending) → result ≡ ending → Ends ending unwritten view name before after written written'
    by_result Served is = absurd (shows.unserved is)
    by_result Refused is = unlisted_so is refl
    by_result ReadFault is = unlisted_so is refl
    by_result TooMuch is = unlisted_so is refl
    by_result KeeperFault is = inl (shows.unread is, λ started. damaged_found)
    by_result WriteFault is = inl begins
    by_result Damaged is = before_damage (λ p front. Appends written written' (damaged_text view p front)) (shows.whole is tells)
    by_result NoMemory is = inr (inl begins)

    pub damaged_ends : Ends result unwritten view name before after written written'
    damaged_ends = by_result result refl
