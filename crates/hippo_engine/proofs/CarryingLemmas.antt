-- From what single calls do to what carrying out a command does.
use Rattle.std.proofs.Common.{◌≡◌, ◌∙◌, ℕ, refl, sym, ap, subst, inl, inr, List, [], ◌∷◌, ◌++◌, map, Option, Result, Ok, Err, true, false, codes, arith, append-nil}
use Rattle.std.specs.Prelude.{int_le}
use Rattle.std.proofs.lemmas.Bool.{false≢true}
use Rattle.std.proofs.lemmas.List.{map-append}
use Rattle.hippo_model.specs.declared.entry.Entry.{Entry}
use Rattle.hippo_model.specs.StoredForms.{stored}
use Rattle.hippo_model.specs.Terms.{History}
use Rattle.hippo_keeper.specs.Keeping.{KeeperState, KeepsSame}
use Rattle.hippo_replay.specs.Recording.{IsBacked, HasKept, KeepsEntry}
use Rattle.hippo_replay.specs.Standing.{Represents, IsSound, IsTimely}
use Rattle.hippo_replay.specs.declared.state.State.{State}
use Rattle.hippo_keeper.specs.declared.faults.KeeperFault.TheVariants.{Failed}
use Rattle.hippo_keeper.proofs.CallLemmas.{KeepsSame-here, IsAfterCall-none, IsAfterCall-as}
use Rattle.hippo_keeper.proofs.Results.{err_of, well}
use Rattle.hippo_report.specs.declared.speaker.Speaker.{Speaker}
use Rattle.hippo_report.specs.declared.speaker.Speaker.TheVariants.{Nobody, Console, Session}
use Rattle.hippo_report.specs.declared.refusal.Refusal.{Refusal}
use Rattle.hippo_report.specs.declared.refusal.Refusal.TheVariants.{Memory}
use Rattle.hippo_report.specs.Refusals.{refusal_line}
use Rattle.hippo_values.specs.Texts.{Txt}
use Rattle.hippo_engine_sessions.specs.Tallies.{JobTally}
use Rattle.hippo_engine_sessions.specs.Worlds.{World, opening}
use Rattle.hippo_report.specs.declared.format.Format.{Format}
use Rattle.hippo_values.specs.declared.moments.Moment.{Moment}
use Rattle.hippo_engine_world.specs.Holding.{world_of, JobsFit, WatchesFit}
use Rattle.hippo_engine_world.proofs.AuditLemmas.{JobsFit-opening, WatchesFit-opening, JobsFit-same, WatchesFit-same, tallies_of-same}
use Rattle.hippo_stmt_lines.specs.Commands.{Command, nothing, wrong, make_request, make_statement, who_commands, may_run_out_of_memory, IsCommand}
use Rattle.hippo_stmt_lines.specs.Commands as commands
use Rattle.hippo_engine.specs.declared.engine.Engine.{Engine}
use Rattle.hippo_engine_rules.specs.declared.faults.EngineFault.{EngineFault}
use Rattle.hippo_engine_rules.specs.declared.faults.EngineFault.TheVariants.{Keeper, Write, Damaged}
use Rattle.hippo_engine_rules.specs.Effects.{Effect, only_reply, effect_of, IsEffect}
use Rattle.hippo_engine_checks.proofs.LengthLemmas.{plain_fits}
use Rattle.hippo_engine_checks.specs.Findings.{IsOfLine, may_do_nothing}
use Rattle.hippo_engine_rules.specs.Ledgers.{Tallies, none_taken, at_once, job_begun, job_stepped, job_dropped}
use Rattle.hippo_engine.specs.Carrying.{Holds, AtWork, is_carried, shown_effect, IsQuiet, AddsNothing, BreaksOff, Carries}
use Rattle.hippo_engine_rules.proofs.ClockLemmas.{int_le-refl, clock_rises}
use Rattle.hippo_engine_rules.proofs.ShortLemmas.{short}

-- the state of an engine that is ready for a command is backed by its keeper
pub IsBacked-of : (engine : Engine) (keeper : KeeperState) → AtWork engine keeper → IsBacked engine.state keeper
IsBacked-of engine keeper at_work = record {
  sound = at_work.sound;
  ready = at_work.ready;
  told = λ tells.
      let holds = at_work.told tells in
      record { history = holds.0; forms = holds.1.forms; stands = holds.1.stands };
}

-- the clock is at the last entry's moment when a run begins
pub IsTimely-begun : (engine : Engine) (limit : ℕ) (format : Format) → world_of engine.world ≡ opening engine.state.last limit format → IsTimely engine.state engine.world.clock
IsTimely-begun engine limit format opens =
    ap (λ (w : World). int_le engine.state.last w.clock) opens ∙ int_le-refl engine.state.last

-- an engine with the state of a history that is kept holds it when a run begins
pub Holds-opening : (history : History) (held : State) (engine : Engine) (keeper : KeeperState) (clock : Moment) (limit : ℕ) (format : Format) → engine.state ≡ held
    → Represents held history → map stored history ≡ keeper.kept → world_of engine.world ≡ opening clock limit format → Holds history engine keeper
Holds-opening history held engine keeper clock limit format same stands forms opens = record {
  forms = forms;
  stands = subst (λ (state : State). Represents state history) (sym same) stands;
  jobs = JobsFit-opening engine.world clock limit format opens history;
  watches = WatchesFit-opening engine.world clock limit format opens history;
}

-- a command that leaves jobs and watches unchanged
pub AddsNothing-quiet : (command : Command) (old new : Engine) → IsQuiet command old new → AddsNothing command old new
AddsNothing-quiet command old new quiet = record {
  same = quiet.same;
  effect = quiet.effect;
  jobs = λ history stands fit. JobsFit-same history old.world new.world quiet.audits fit;
  watches = λ history stands stand. WatchesFit-same history old.world new.world quiet.audits stand;
  counts = λ versions steps. none_taken refl (tallies_of-same old.world new.world quiet.audits);
}

-- nothing was added
pub Holds-same : (history : History) (old new : Engine) (before after : KeeperState) → Holds history old before
    → Represents new.state history → JobsFit history new.world → WatchesFit history new.world → KeepsSame before after
    → Holds (history ++ []) new after
Holds-same history old new before after holds stands jobs watches keeps =
    subst (λ (h : History). Holds h new after) (sym (append-nil history))
    (record { forms = holds.forms ∙ sym keeps.same; stands = stands; jobs = jobs; watches = watches })

-- an entry was added
pub Holds-more : (history : History) (entry : Entry) (old new : Engine) (before after : KeeperState) → Holds history old before
    → Represents new.state (history ++ entry ∷ []) → JobsFit (history ++ entry ∷ []) new.world → WatchesFit (history ++ entry ∷ []) new.world
    → HasKept (entry ∷ []) before after → Holds (history ++ entry ∷ []) new after
Holds-more history entry old new before after holds stands jobs watches kept = record {
  forms = map-append stored history (entry ∷ []) ∙ ap (λ front. front ++ stored entry ∷ []) holds.forms ∙ sym kept.0;
  stands = stands;
  jobs = jobs;
  watches = watches;
}

-- the clock is not before the last entry, if state and clock are the same
pub IsTimely-same : (old new : Engine) → new.state ≡ old.state → new.world.clock ≡ old.world.clock → IsTimely old.state old.world.clock → IsTimely new.state new.world.clock
IsTimely-same old new state_is clock_is timely =
    let same : int_le new.state.last new.world.clock ≡ int_le old.state.last old.world.clock = λ i. int_le (state_is i).last (clock_is i) in
    same ∙ timely

-- nor if a command had its effect, and the state is the same
pub IsTimely-risen : (command : Command) (old new : Engine) (keeper : KeeperState) → AtWork old keeper → AddsNothing command old new → IsTimely new.state new.world.clock
IsTimely-risen command old new keeper at_work quiet =
    subst (λ (held : State). IsTimely held new.world.clock) (sym quiet.same)
    (clock_rises at_work.sound.history (world_of old.world) command (shown_effect new) old.state.last (quiet.effect at_work.sound.history at_work.sound.stands) at_work.timely)

-- a command that adds nothing leaves the keeper unchanged
pub Carries-nothing : (command : Command) (old new : Engine) (keeper : KeeperState) (steps : ℕ) → AtWork old keeper → AddsNothing command old new
    → Carries {A = Unit {0}} command (Ok tt) old new keeper keeper steps steps
Carries-nothing command old new keeper steps at_work quiet = record {
  call = IsAfterCall-none (Ok tt) keeper refl at_work.ready;
  sound = λ fine. subst IsSound (sym quiet.same) at_work.sound;
  timely = λ fine. IsTimely-risen command old new keeper at_work quiet;
  idle = λ none. refl;
  carried = λ fine tells history holds. record {
    effect = shown_effect new;
    is = quiet.effect history holds.stands;
    reply = refl;
    world = refl;
    holds = Holds-same history old new keeper keeper holds (subst (λ (held : State). Represents held history) (sym quiet.same) holds.stands)
        (quiet.jobs history holds.stands holds.jobs) (quiet.watches history holds.stands holds.watches) (KeepsSame-here keeper);
    kept = KeepsSame-here keeper;
    counts = quiet.counts _ steps;
    refused = λ refusal is others. refl;
  };
  failed = λ fails. absurd (false≢true fails);
  undamaged = λ tells history holds number damaged. cc;
}

-- nor do jobs and watches change
pub Carries-quiet : (command : Command) (old new : Engine) (keeper : KeeperState) (steps : ℕ) → AtWork old keeper → IsQuiet command old new
    → Carries {A = Unit {0}} command (Ok tt) old new keeper keeper steps steps
Carries-quiet command old new keeper steps at_work quiet =
    Carries-nothing command old new keeper steps at_work (AddsNothing-quiet command old new quiet)

-- a line that is refused because memory ran out, whatever the history, has only that reply
memory_effect : (history : History) (world : World) (who : Speaker) (effect : Effect) → IsEffect history world (wrong who Memory) effect
    → effect ≡ only_reply world (refusal_line who Memory)
memory_effect history world who effect (inl is) = is
memory_effect history world who effect (inr (takes, is)) = is

not_added : {A : Type 0} (entry : A) → ◌≡◌ {A = List A} [] (entry ∷ []) → ⊥
not_added entry e = cc

-- a line that is refused whatever the history takes no step
Tallies-refused : (who : Speaker) (refusal : Refusal) (command : Command) (reply : Txt) (versions steps steps' : ℕ) (jobs jobs' : List (Option JobTally))
    → Tallies (wrong who refusal) reply versions steps steps' jobs jobs' → Tallies command reply versions steps steps' jobs jobs'
Tallies-refused who refusal command reply versions steps steps' jobs jobs' (none_taken same kept) = none_taken same kept
Tallies-refused who refusal command reply versions steps steps' jobs jobs' (at_once looks few kept) = absurd (false≢true looks)
Tallies-refused who refusal command reply versions steps steps' jobs jobs' (job_begun number begins same free put) = absurd (false≢true begins)
Tallies-refused who refusal command reply versions steps steps' jobs jobs' (job_stepped number before after on console there put rises) = absurd cc
Tallies-refused who refusal command reply versions steps steps' jobs jobs' (job_dropped number before drops same there put) = absurd cc

-- nor does the keeper fail
unbroken : (history : History) (who : Speaker) (old : Engine) (before after : KeeperState) → BreaksOff history (wrong who Memory) old before after → ⊥
unbroken history who old before after (inl adding) = not_added adding.entry adding.adds
unbroken history who old before after (inr reading) = false≢true reading.reads

-- what is carried out instead of a command that takes memory, if memory ran out while it was read
Carries-memory : {A : Type 0} (command : Command) (result : Result A EngineFault) (old new : Engine) (before after : KeeperState) (steps steps' : ℕ)
    → may_do_nothing command ≡ true → Carries (wrong (who_commands command) Memory) result old new before after steps steps'
    → Carries command result old new before after steps steps'
Carries-memory command result old new before after steps steps' takes refused = record {
  call = refused.call;
  sound = refused.sound;
  timely = refused.timely;
  idle = λ none. refused.idle refl;
  carried = λ fine tells history holds.
      let done = refused.carried fine tells history holds in
      record {
        effect = done.effect;
        is = subst (IsEffect history (world_of old.world) command) (sym (memory_effect history (world_of old.world) (who_commands command) done.effect done.is))
            (short history (world_of old.world) command takes);
        reply = done.reply;
        world = done.world;
        holds = done.holds;
        kept = done.kept;
        counts = Tallies-refused (who_commands command) Memory command _ _ steps steps' _ _ done.counts;
        refused = λ refusal is others. refused.idle refl;
      };
  failed = λ fails tells history holds. absurd (unbroken history (who_commands command) old before after (refused.failed fails tells history holds));
  undamaged = refused.undamaged;
}

-- a line that was carried out, whether or not its reply was then written
pub Carries-written : (command : Command) (result : Result (Unit {0}) EngineFault) (old new : Engine) (before after : KeeperState) (steps steps' : ℕ)
    → is_carried result ≡ true → Carries command (well EngineFault) old new before after steps steps' → Carries command result old new before after steps steps'
Carries-written command (Ok value) old new before after steps steps' done carries = carries
Carries-written command (Err Keeper) old new before after steps steps' done carries = absurd (false≢true done)
Carries-written command (Err (Damaged number)) old new before after steps steps' done carries = absurd (false≢true done)
Carries-written command (Err Write) old new before after steps steps' done carries = record {
  call = carries.call;
  sound = carries.sound;
  timely = carries.timely;
  undamaged = λ tells history holds number damaged. cc;
  idle = carries.idle;
  carried = carries.carried;
  failed = carries.failed;
}

-- a command that may be out of memory when it is read takes memory, and a line may give that refusal
wanting : (command : Command) → may_run_out_of_memory command ≡ true → (may_do_nothing command ≡ true) × IsOfLine (wrong (who_commands command) Memory)
wanting nothing wants = absurd (false≢true wants)
wanting (wrong Nobody refusal) wants = absurd (false≢true wants)
wanting (wrong Console refusal) wants = (refl, tt)
wanting (wrong (Session number) refusal) wants = (refl, tt)
wanting (commands.set_clock moment) wants = absurd (false≢true wants)
wanting (make_request session request) wants = absurd (false≢true wants)
wanting (make_statement Nobody statement text) wants = (refl, plain_fits Nobody (codes "90 Memory") tt (omega arith))
wanting (make_statement Console statement text) wants = (refl, tt)
wanting (make_statement (Session number) statement text) wants = (refl, tt)

-- what is carried out for the command that was found
pub Carries-found : {A : Type 0} (command found : Command) (result : Result A EngineFault) (old new : Engine) (before after : KeeperState) (steps steps' : ℕ)
    → IsCommand command found → Carries found result old new before after steps steps' → Carries command result old new before after steps steps'
Carries-found command found result old new before after steps steps' (inl is) carries = subst (λ (c : Command). Carries c result old new before after steps steps') is carries
Carries-found command found result old new before after steps steps' (inr (wants, is)) carries =
    Carries-memory command result old new before after steps steps' (wanting command wants).0 (subst (λ (c : Command). Carries c result old new before after steps steps') is carries)

-- a property of each command that a line may give holds for the one that was found
pub IsOfLine-found : (command found : Command) → IsOfLine command → IsCommand command found → IsOfLine found
IsOfLine-found command found of_line (inl is) = subst IsOfLine (sym is) of_line
IsOfLine-found command found of_line (inr (wants, is)) = subst IsOfLine (sym is) (wanting command wants).1

-- an entry that is not kept, since the keeper failed
pub Carries-unkept : {A : Type 0} (command : Command) (entry : Entry) (old new : Engine) (before after : KeeperState) (steps : ℕ)
    → ((history : History) → Represents old.state history → (effect_of history (world_of old.world) command).added ≡ entry ∷ [])
    → KeepsEntry entry (err_of A Failed) old.state before after → Carries command (err_of (Unit {0}) Keeper) old new before after steps steps
Carries-unkept {A} command entry old new before after steps adds keeps = record {
  call = IsAfterCall-as true false (err_of A Failed) (err_of (Unit {0}) Failed) before after refl keeps.call;
  sound = λ fine. absurd (false≢true (sym fine));
  timely = λ fine. absurd (false≢true (sym fine));
  idle = λ none. refl;
  carried = λ fine. absurd (false≢true fine);
  failed = λ fails tells history holds. inl (record {
    entry = entry;
    adds = adds history holds.stands;
    follows = keeps.follows refl history holds.stands;
    kept = keeps.failed refl tells;
  });
  undamaged = λ tells history holds number damaged. cc;
}
