-- The results of a load, and of showing what was loaded.
use Rattle.std.proofs.Common.{◌≡◌, ◌∙◌, inr, ℕ, ◌+◌, ◌≤◌, Bool, true, false, Option, Some, Result, Ok, refl, sym, ap, subst, arith}
use Rattle.std.specs.Prelude.{◌*◌}
use mathlib.Core.Logic.{∥∥₁_map}
use Rattle.std.proofs.lemmas.Bool.{false≢true}
use Rattle.hippo_values.specs.Texts.{Txt}
use Rattle.hippo_io.specs.Told.{Appends, AppendsFront}
use Rattle.hippo_model.specs.Stores.{IsStoreOf}
use Rattle.hippo_model.specs.Terms.{History}
use Rattle.hippo_model_laws.proofs.OneStore.{one_history, all_can_be_kept}
use Rattle.hippo_keeper.specs.declared.faults.KeeperFault.{KeeperFault as Fault}
use Rattle.hippo_keeper.specs.Keeping.{Store, Survivors, RisesAbove, KeeperState, IsAfterCall, KeepsSame}
use Rattle.hippo_keeper.specs.Selecting.{stored_versions}
use Rattle.hippo_typing.specs.Meanings.{meaning}
use Rattle.hippo_replay.specs.declared.faults.LoadFault.{LoadFault}
use Rattle.hippo_replay.specs.declared.faults.LoadFault.TheVariants.{Keeper, Memory}
use Rattle.hippo_replay.specs.declared.state.State.{State}
use Rattle.hippo_replay.specs.Loading.{load_as_call as as_load_call, KeepsFound, IsLoaded, Loads}
use Rattle.hippo_keeper.proofs.CallLemmas.{IsAfterCall-then}
use Rattle.hippo_replay.proofs.LoadingLemmas.{Loads-ready}
use Rattle.hippo_keeper.proofs.Results.{ok_of, err_of}
use Rattle.hippo_history_top.specs.declared.asking.View.{View}
use Rattle.hippo_program_args.specs.declared.endings.Ending.{Ending}
use Rattle.hippo_program_args.specs.declared.endings.Ending.TheVariants.{Served, Refused, KeeperFault, ReadFault, WriteFault, Damaged, NoMemory, TooMuch}
use Rattle.hippo_program_args.specs.Endings.{ending_as_call}
use Rattle.hippo_history_top.specs.Endings.{ends_showing}
use Rattle.hippo_history_top.specs.Showing.{shown_text}
use Rattle.hippo_history_top.specs.Progress.{HasForms, ShowsLoaded}
use Rattle.hippo_history_top.specs.Outcomes.{FromKept, Ends}

-- what was found is still stored
pub found_still : (finds : Survivors) (before after : KeeperState) → KeepsFound finds before → KeepsSame before after → KeepsFound finds after
found_still finds before after found keeps =
    let alone : (store : Store) → after.survives store → store ≡ after.kept = λ store survives. found.alone store (keeps.stop store survives) ∙ sym keeps.same in
    record {
      found = subst finds (sym keeps.same) found.found;
      order = subst (λ (kept : Store). RisesAbove 0 kept) (sym keeps.same) found.order;
      alone = alone;
      survives_stop = ∥∥₁_map (keeps.some (∥∥₁_map found.survives_stop (λ survives. (before.kept, survives)))) (λ (store, survives). subst after.survives (alone store survives) survives);
    }

-- the promises of a call hold of the keeper as it is afterwards
pub as_it_is : {A : Type 0} (started closed : Bool) (result : Result A Fault) (before after : KeeperState) → IsAfterCall started closed result before after → IsAfterCall after.started after.closed result before after
as_it_is started closed result before after call = record {
  is_sound = call.is_sound;
  started_is = refl;
  closed_is = refl;
  spent_is = call.spent_is;
  told = call.told;
  telling = call.telling;
  faults = call.faults;
}

module _ (name : Txt) (view : View) (state : State) (before loaded after : KeeperState) (result : Ending)
    (written written' : Option Txt) (faults faults' start mid end : ℕ)
    (loads : Loads name (ok_of LoadFault state) before loaded start mid)
    (shows : ShowsLoaded state view result loaded after written written' faults faults' mid end) where
  pub show_call : IsAfterCall after.started after.closed (ending_as_call result) before after
  show_call =
      let ready = Loads-ready name (ok_of LoadFault state) before loaded start mid loads refl in
      let first : IsAfterCall {A = Unit {0}} true false (Ok tt) before loaded = record {
        is_sound = loads.call.is_sound;
        started_is = ready.started_is;
        closed_is = ready.not_closed;
        spent_is = loads.call.spent_is;
        told = loads.call.told;
        telling = loads.call.telling;
        faults = loads.call.faults;
      } in
      as_it_is true false (ending_as_call result) before after (IsAfterCall-then {A = Unit {0}} false (Ok tt) (ending_as_call result) before loaded after refl first shows.call)

  module _ (tells : after.tells) where
    abbrev told : loaded.tells
    told = shows.call.told tells

    abbrev found : KeepsFound (before.finds name) loaded
    found = loads.found (loads.started refl) told

    abbrev is_loaded : IsLoaded state loaded start mid
    is_loaded = loads.ok

    pub show_kept : KeepsFound (before.finds name) after
    show_kept = found_still (before.finds name) loaded after found (shows.stays tells)

    pub show_steps : end ≤ start + 2 * stored_versions after.kept
    show_steps =
        let one = loads.steps told in
        let other = shows.steps tells in
        let same : stored_versions after.kept ≡ stored_versions loaded.kept = ap stored_versions (shows.stays tells).same in
        omega (arith, one, other, same)

    store : IsStoreOf meaning after.kept is_loaded.history
    store = record { forms = is_loaded.told told ∙ sym (shows.stays tells).same; valid = is_loaded.stands.valid }

    forms : HasForms loaded.kept is_loaded.history
    forms = record { forms = is_loaded.told told; keepable = all_can_be_kept meaning is_loaded.history is_loaded.stands.valid }

    from_kept : (holds : History → Type 0) → holds is_loaded.history → FromKept name holds before after
    from_kept holds it = record {
      kept = show_kept;
      held = record {
        history = is_loaded.history;
        is = store;
        each = λ other is. subst holds (one_history meaning after.kept is_loaded.history other store is) it;
      };
    }

    front : FromKept name (λ history. AppendsFront written written' (shown_text view history)) before after
    front = from_kept (λ history. AppendsFront written written' (shown_text view history)) (shows.front tells is_loaded.history is_loaded.stands forms)

    whole : result ≡ Served → FromKept name (λ history. Appends written written' (shown_text view history)) before after
    whole is = from_kept (λ history. Appends written written' (shown_text view history)) (shows.whole is tells is_loaded.history is_loaded.stands forms)

    undamaged : result ≡ Damaged → ⊥
    undamaged is = shows.damaged is tells is_loaded.history forms

    unlisted : {ending : Ending} → result ≡ ending → ends_showing (Some ending) ≡ false → ⊥
    unlisted is not = false≢true (sym not ∙ sym (ap (λ (e : Ending). ends_showing (Some e)) is) ∙ shows.status)

    by_ending : (ending : Ending) (unwritten : Type 0) → result ≡ ending → Ends ending unwritten view name before after written written'
    by_ending Served unwritten is = whole is
    by_ending Refused unwritten is = unlisted is refl
    by_ending ReadFault unwritten is = unlisted is refl
    by_ending TooMuch unwritten is = unlisted is refl
    by_ending KeeperFault unwritten is = inr front
    by_ending WriteFault unwritten is = inr front
    by_ending Damaged unwritten is = absurd (undamaged is)
    by_ending NoMemory unwritten is = inr (inr front)

    pub show_ends : (unwritten : Type 0) → Ends result unwritten view name before after written written'
    show_ends unwritten = by_ending result unwritten refl

-- the history was not loaded, because the keeper failed or memory ran out
module _ (name : Txt) (before after : KeeperState) (start end : ℕ) where
  pub failed_call : Loads name (err_of State Keeper) before after start end → IsAfterCall after.started after.closed (ending_as_call KeeperFault) before after
  failed_call loads = as_it_is _ _ (ending_as_call KeeperFault) before after loads.call

  pub short_call : Loads name (err_of State Memory) before after start end → IsAfterCall after.started after.closed (ending_as_call NoMemory) before after
  short_call loads = of_memory loads.call
    where
      of_memory : {started closed : Bool} → IsAfterCall started closed (as_load_call (err_of State Memory)) before after → IsAfterCall after.started after.closed (ending_as_call NoMemory) before after
      of_memory call = record {
        is_sound = call.is_sound;
        started_is = refl;
        closed_is = refl;
        spent_is = call.spent_is;
        told = call.told;
        telling = call.telling;
        faults = record {
          cause = λ failed. absurd (false≢true failed);
          unfailed = λ fine. call.faults.unfailed refl;
          rises = call.faults.rises;
        };
      }

  pub unloaded_steps : (fault : LoadFault) → Loads name (err_of State fault) before after start end → after.tells → end ≤ start + 2 * stored_versions after.kept
  unloaded_steps fault loads tells = let one = loads.steps tells in omega (arith, one)
