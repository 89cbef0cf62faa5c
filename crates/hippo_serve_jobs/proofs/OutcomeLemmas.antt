-- The results of a load and of what follows it.
use Rattle.std.proofs.Common.{◌≡◌, ◌≢◌, ◌&&◌, not, inl, inr, Bool, true, false, ℕ, ◌+◌, Option, refl, sym, ap, subst, ◌∙◌}
use Rattle.hippo_values.specs.Texts.{Txt}
use Rattle.hippo_model.specs.Terms.{History}
use Rattle.hippo_model.specs.Stores.{IsStoreOf}
use Rattle.hippo_model.specs.Versions.{versions}
use Rattle.hippo_keeper.specs.Keeping.{KeeperState}
use Rattle.hippo_typing.specs.Meanings.{meaning}
use Rattle.hippo_replay.specs.declared.faults.LoadFault.{LoadFault}
use Rattle.hippo_replay.specs.declared.state.State.{State}
use Rattle.hippo_replay.specs.Loading.{KeepsFound, IsLoaded, Loads}
use Rattle.hippo_replay.specs.Recording.{IsBacked}
use Rattle.hippo_replay.specs.Standing.{Represents}
use Rattle.hippo_keeper.proofs.Results.{ok_of, err_of}
use Rattle.hippo_program_args.specs.Starting.{Stops}
use Rattle.hippo_program_args.proofs.StartLemmas.{ends_by_stop}
use Rattle.hippo_serve_args.specs.declared.calls.Job.{Job}
use Rattle.hippo_serve_args.specs.declared.calls.Setting.{Setting}
use Rattle.hippo_program_args.specs.declared.endings.Ending.{Ending}
use Rattle.hippo_program_args.specs.declared.endings.Ending.TheVariants.{Served, Refused, KeeperFault, ReadFault, WriteFault, Damaged, NoMemory, TooMuch}
use Rattle.hippo_program_args.specs.Endings.{stop_ending}
use Rattle.hippo_serve_jobs.specs.Keeping.{KeepsHistory}
use Rattle.hippo_serve_jobs.specs.Outcomes.{FromFound, RunEnds, CheckEnds}
use Rattle.hippo_serve_jobs.specs.Outside.{Told, Outside, outside}
use Rattle.hippo_serve_jobs.specs.Runs.{LinesEnd}
use Rattle.hippo_serve_jobs.proofs.KeptLemmas.{KeepsHistory-found}

module _ (name : Txt) (state : State) (left written : Option Txt) (before loaded : KeeperState) (start steps : ℕ) (loads : Loads name (ok_of LoadFault state) before loaded start steps) where
  abbrev first : Outside
  first = outside left written before start

  -- what was loaded is stored by a started keeper
  pub backed : IsBacked state loaded
  backed =
      let here : IsLoaded state loaded start steps = loads.ok in
      record {
        sound = record { history = here.history; stands = here.stands };
        ready = record {
          is_sound = loads.call.is_sound;
          started_is = loads.started refl;
          not_closed = loads.call.closed_is ∙ ap (λ (begun : Bool). not begun && false) (loads.started refl);
          not_spent = loads.call.spent_is;
          has_to_tell = loads.call.telling.has_to;
        };
        told = λ tells. record { history = here.history; forms = here.told tells; stands = here.stands };
      }

  module _ (tells : loaded.tells) where
    abbrev found : KeepsFound (before.finds name) loaded
    found = loads.found (loads.started refl) tells

    abbrev is_loaded : IsLoaded state loaded start steps
    is_loaded = loads.ok

    abbrev store : IsStoreOf meaning loaded.kept is_loaded.history
    store = record { forms = is_loaded.told tells; valid = is_loaded.stands.valid }

    -- what holds of the history that was loaded holds of every history that was found
    pub from_found : (holds : History → Told → Outside → Type 0) (after : Outside)
        → ((history : History) → Represents state history → KeepsHistory history loaded → steps ≡ start + versions history → holds history first.told after) → FromFound name holds first after
    from_found holds after give = record {
      store = loaded.kept;
      found = found.found;
      held = record {
        history = is_loaded.history;
        is = store;
        each = λ other is. subst (λ (h : History). holds h first.told after) (sym (is_loaded.only tells other is))
            (give is_loaded.history is_loaded.stands (KeepsHistory-found (before.finds name) loaded is_loaded.history found store) is_loaded.steps);
      };
    }

    -- what was loaded is not a damaged list
    pub undamaged : (setting : Setting) (job : Job) (after : Outside) → ((history : History) → Represents state history → KeepsHistory history loaded → steps ≡ start + versions history → LinesEnd Damaged setting job history first.told after) → ⊥
    undamaged setting job after ends = ends is_loaded.history is_loaded.stands (KeepsHistory-found (before.finds name) loaded is_loaded.history found store) is_loaded.steps

  pub never_damaged : (setting : Setting) (job : Job) (result : Ending) (after : Outside) → (after.keeper.tells → loaded.tells)
      → (result ≢ NoMemory → after.keeper.tells → (history : History) → Represents state history → KeepsHistory history loaded → steps ≡ start + versions history → LinesEnd result setting job history first.told after)
      → result ≡ Damaged → after.keeper.tells → ⊥
  never_damaged setting job result after told ends is tells =
      undamaged (told tells) setting job after (λ history stands keeps counted. subst (λ (r : Ending). LinesEnd r setting job history first.told after) is
      (ends (λ none. differ (sym is ∙ none)) tells history stands keeps counted))
    where
      differ : Damaged ≢ NoMemory
      differ e = cc

  -- lines were served over what was loaded
  pub run_ends : (setting : Setting) (job : Job) (result : Ending) (unread unwritten : Type 0) (after : Outside) → result ≢ Refused
      → (result ≡ NoMemory → after.keeper ≡ loaded) → (after.keeper.tells → loaded.tells)
      → (result ≢ NoMemory → after.keeper.tells → (history : History) → Represents state history → KeepsHistory history loaded → steps ≡ start + versions history → LinesEnd result setting job history first.told after)
      → after.keeper.tells → RunEnds result unread unwritten setting job name first after
  run_ends setting job Served unread unwritten after served same told ends tells = from_found (told tells) (LinesEnd Served setting job) after (ends (λ e. cc) tells)
  run_ends setting job Refused unread unwritten after served same told ends tells = absurd (served refl)
  run_ends setting job KeeperFault unread unwritten after served same told ends tells = inr (from_found (told tells) (LinesEnd KeeperFault setting job) after (ends (λ e. cc) tells))
  run_ends setting job ReadFault unread unwritten after served same told ends tells = from_found (told tells) (LinesEnd ReadFault setting job) after (ends (λ e. cc) tells)
  run_ends setting job WriteFault unread unwritten after served same told ends tells = inr (from_found (told tells) (LinesEnd WriteFault setting job) after (ends (λ e. cc) tells))
  run_ends setting job Damaged unread unwritten after served same told ends tells = absurd (undamaged (told tells) setting job after (ends (λ e. cc) tells))
  run_ends setting job NoMemory unread unwritten after served same told ends tells =
      subst (λ (k : KeeperState). k.started ≡ true → KeepsFound (before.finds name) k) (sym (same refl)) (λ started. loads.found started (told tells))
  run_ends setting job TooMuch unread unwritten after served same told ends tells = from_found (told tells) (LinesEnd TooMuch setting job) after (ends (λ e. cc) tells)

-- nothing was loaded
module _ (name : Txt) (before after : Outside) (fault : LoadFault) (result : Ending) (unwritten : Type 0) (faults faults' : ℕ)
    (stops : Stops stop_ending WriteFault fault result unwritten before.told.written after.told.written faults faults')
    (loads : Loads name (err_of State fault) before.keeper after.keeper before.told.steps after.told.steps) where
  pub stop_ends_run : (setting : Setting) (job : Job) (unread : Type 0) → unread → after.keeper.tells → RunEnds result unread unwritten setting job name before after
  stop_ends_run setting job unread untouched tells =
      ends_by_stop name before.keeper after.keeper before.told.steps after.told.steps stop_ending WriteFault (λ r. RunEnds r unread unwritten setting job name before after) unwritten
      before.told.written after.told.written faults faults'
      (λ same idle. inl (untouched, same, idle)) (λ same idle. idle) (λ place said. said) (λ begun. inl (untouched, begun)) fault result stops loads tells

  pub stop_ends_check : after.keeper.tells → CheckEnds result unwritten name before after
  stop_ends_check tells =
      ends_by_stop name before.keeper after.keeper before.told.steps after.told.steps stop_ending WriteFault (λ r. CheckEnds r unwritten name before after) unwritten
      before.told.written after.told.written faults faults'
      (λ same idle. (same, idle)) (λ same idle. (same, idle)) (λ place said. said) (λ begun. inl begun) fault result stops loads tells
