-- What a call with a line does to a run.
use Rattle.std.proofs.Common.{◌≡◌, ◌≢◌, ℕ, ◌≤◌, ◌++◌, ◌∷◌, [], true, false, inl, inr, Option, Some, None, IfNone, MatchOption, Result, Ok, Err, option_map, refl, sym, ap, subst, ◌∙◌}
use Rattle.hippo_values.specs.Texts.{Txt}
use Rattle.hippo_io.specs.Lines.{LineText, lines}
use Rattle.hippo_io.specs.Position.{Position}
use Rattle.hippo_io.specs.HandingOut.{HasHandedOut, input_limit}
use Rattle.hippo_io.specs.Told.{Appends, AppendsFront}
use Rattle.hippo_model.specs.Terms.{History}
use Rattle.hippo_replay.specs.declared.state.State.{State}
use Rattle.hippo_replay.specs.Standing.{IsSound}
use Rattle.hippo_replay.specs.Recording.{IsBacked}
use Rattle.hippo_keeper.specs.declared.faults.KeeperFault.{KeeperFault as Fault}
use Rattle.hippo_keeper.specs.Keeping.{KeeperState, IsReady, IsAfterCall}
use Rattle.hippo_keeper.proofs.CallLemmas.{IsAfterCall-none, IsReady-after}
use Rattle.hippo_keeper.proofs.Results.{well}
use Rattle.hippo_program_args.specs.Lines.{damaged_line}
use Rattle.hippo_program_args.specs.Saying.{Says}
use Rattle.hippo_report.specs.declared.format.Format.{Format}
use Rattle.hippo_engine_world.specs.Holding.{world_of}
use Rattle.hippo_engine_sessions.specs.Worlds.{opening}
use Rattle.hippo_stmt_lines.specs.Commands.{Command, command_of, input_command}
use Rattle.hippo_engine.specs.declared.engine.Engine.{Engine}
use Rattle.hippo_engine_rules.specs.declared.faults.EngineFault.{EngineFault}
use Rattle.hippo_engine_rules.specs.declared.faults.EngineFault.TheVariants.{Keeper, Write, Damaged as DamagedAt}
use Rattle.hippo_engine.specs.Carrying.{AtWork, Carries}
use Rattle.hippo_engine.proofs.CarryingLemmas.{IsTimely-begun, Holds-opening}
use Rattle.hippo_serve_args.specs.declared.calls.Job.{Job}
use Rattle.hippo_serve_args.specs.declared.calls.Setting.{Setting}
use Rattle.hippo_program_args.specs.declared.endings.Ending.{Ending}
use Rattle.hippo_program_args.specs.declared.endings.Ending.TheVariants.{Served, Refused, KeeperFault, ReadFault, WriteFault, Damaged, NoMemory}
use Rattle.hippo_program_args.specs.Endings.{part_as_call}
use Rattle.hippo_serve_jobs.specs.Loads.{asked_line, counted_line}
use Rattle.hippo_serve_jobs.specs.Outside.{Told, Outside, outside}
use Rattle.hippo_serve_jobs.specs.Runs.{ForInput, IsServed, LinesEnd, HasServed, Turn}
use Rattle.hippo_serve_jobs.proofs.AskedLemmas.{handed_counted}
use Rattle.hippo_serve_jobs.proofs.RunLemmas.{held_after, served_more, unwritten_at, broken_off, undamaged_at, all_served}

some_line : (text : LineText) → Some text ≢ None
some_line text e = cc

-- an engine that begins with a state is at work if the keeper stores what the state stands for
pub AtWork-begun : (state : State) (engine : Engine) (keeper : KeeperState) (limit : ℕ) (format : Format) → engine.state ≡ state
    → world_of engine.world ≡ opening state.last limit format → IsBacked state keeper → AtWork engine keeper
AtWork-begun state engine keeper limit format same opens backed = record {
  sound = subst (λ (s : State). IsSound s) (sym same) backed.sound;
  timely = IsTimely-begun engine limit format (opens ∙ ap (λ (s : State). opening s.last limit format) (sym same));
  ready = backed.ready;
  told = λ tells.
      let loaded = backed.told tells in
      (loaded.history, Holds-opening loaded.history state engine keeper state.last limit format same loaded.stands loaded.forms opens);
}

-- the keeper returned an entry that it did not store, and that is reported
pub turn_damaged : (number : ℕ) (command : Command) (old new : Engine) (before after : KeeperState) (written mid written' : Option Txt) (steps steps' faults faults' : ℕ) (ending : Ending)
    → Carries {A = Unit {0}} command (Err (DamagedAt number)) old new before after steps steps' → Says Damaged (damaged_line number) WriteFault ending mid written' faults faults'
    → Turn (Some ending) command old new before after written written' steps steps'
turn_damaged number command old new before after written mid written' steps steps' faults faults' ending carries says = elim says [
  | inl all ↦ subst (λ (e : Ending). Turn (Some e) command old new before after written written' steps steps') (sym all.0) (number, carries)
  | inr front ↦ subst (λ (e : Ending). Turn (Some e) command old new before after written written' steps steps') (sym front.0) (inr (number, carries))
]

-- the result of a call with a line, in each of the five ways in which it may end
module _ (engine engine' : Engine) (keeper keeper' : KeeperState) (output output' : Option Txt) (steps steps' : ℕ) where
  abbrev Carrying : Command → Result (Unit {0}) EngineFault → Type 0
  Carrying command answer = Carries {A = Unit {0}} command answer engine engine' keeper keeper' steps steps'

  pub by_turn : (Q : Option Ending → Type 0) (command : Command)
      → (Carrying command (Ok tt) → Appends output output' engine'.reply → Q None)
      → (Carrying command (Err Keeper) → output' ≡ output → Q (Some KeeperFault))
      → (Carrying command (Err Write) → AppendsFront output output' engine'.reply → Q (Some WriteFault))
      → ((number : ℕ) → Carrying command (Err (DamagedAt number)) → Q (Some Damaged) × Q (Some WriteFault))
      → (r : Option Ending) → Turn r command engine engine' keeper keeper' output output' steps steps' → Q r
  by_turn Q command on broken cut damaged None turned = on turned.0 turned.1
  by_turn Q command on broken cut damaged (Some KeeperFault) turned = broken turned.0 turned.1
  by_turn Q command on broken cut damaged (Some WriteFault) turned = elim turned [
    | inl one ↦ cut one.0 one.1
    | inr found ↦ (damaged found.0 found.1).1
  ]
  by_turn Q command on broken cut damaged (Some Damaged) turned = (damaged turned.0 turned.1).0
  by_turn Q command on broken cut damaged (Some ending) turned = absurd turned

  -- a line that was carried out leaves an engine at work
  pub at_work_carried : (command : Command) → Carrying command (Ok tt) → AtWork engine keeper → AtWork engine' keeper'
  at_work_carried command carries at_work = record {
    sound = carries.sound refl;
    timely = carries.timely refl;
    ready = IsReady-after (well Fault) keeper keeper' refl carries.call;
    told = held_after command engine engine' keeper keeper' steps steps' carries at_work.told;
  }

module _ (job : Job) (line asked : Option LineText) (result : Option Ending) (engine engine' : Engine) (keeper keeper' : KeeperState) (output output' : Option Txt) (steps steps' : ℕ)
    (asks_for : asked ≡ option_map (asked_line job) (option_map (counted_line job) line))
    (turn : asked ≢ None → Turn result (input_command asked) engine engine' keeper keeper' output output' steps steps')
    (end : asked ≡ None → (result ≡ Some Served) × (engine' ≡ engine) × (output' ≡ output) × (steps' ≡ steps))
    (same : asked ≡ None → keeper' ≡ keeper) where
  -- the command that the job asks for when it reads a line
  abbrev asks : LineText → Command
  asks text = command_of (asked_line job (counted_line job text))

  abbrev Carried : Command → Result (Unit {0}) EngineFault → Type 0
  Carried command answer = Carries {A = Unit {0}} command answer engine engine' keeper keeper' steps steps'

  -- a job asks for a line exactly when it reads one
  asked_at : (l : Option LineText) → line ≡ l → asked ≡ option_map (asked_line job) (option_map (counted_line job) l)
  asked_at l is = asks_for ∙ ap (λ (o : Option LineText). option_map (asked_line job) (option_map (counted_line job) o)) is

  none_asked : line ≡ None → asked ≡ None
  none_asked is = asked_at None is

  pub by_line : (Q : Option Ending → Type 0) → (line ≡ None → Q (Some Served))
      → ((text : LineText) → line ≡ Some text → Carried (asks text) (Ok tt) → Appends output output' engine'.reply → Q None)
      → ((text : LineText) → line ≡ Some text → Carried (asks text) (Err Keeper) → output' ≡ output → Q (Some KeeperFault))
      → ((text : LineText) → line ≡ Some text → Carried (asks text) (Err Write) → AppendsFront output output' engine'.reply → Q (Some WriteFault))
      → ((text : LineText) → line ≡ Some text → (number : ℕ) → Carried (asks text) (Err (DamagedAt number)) → Q (Some Damaged) × Q (Some WriteFault))
      → Q result
  by_line Q done on broken cut damaged = at line refl
    where
      at : (l : Option LineText) → line ≡ l → Q result
      at None is = subst Q (sym (end (none_asked is)).0) (done is)
      at (Some text) is = by_turn engine engine' keeper keeper' output output' steps steps' Q (asks text) (on text is) (broken text is) (cut text is) (damaged text is) result
          (subst (λ (l : Option LineText). Turn result (input_command l) engine engine' keeper keeper' output output' steps steps') (asked_at (Some text) is)
          (turn (λ none. some_line (asked_line job (counted_line job text)) (sym (asked_at (Some text) is) ∙ none))))

  pub status_of_turn : (result ≢ Some Refused) × (result ≢ Some NoMemory)
  status_of_turn = by_line (λ r. (r ≢ Some Refused) × (r ≢ Some NoMemory))
      (λ is. (λ e. cc, λ e. cc))
      (λ text is carries writes. (λ e. cc, λ e. cc))
      (λ text is carries writes. (λ e. cc, λ e. cc))
      (λ text is carries writes. (λ e. cc, λ e. cc))
      (λ text is number carries. ((λ e. cc, λ e. cc), (λ e. cc, λ e. cc)))

  pub no_read_fault : result ≢ Some ReadFault
  no_read_fault = by_line (λ r. r ≢ Some ReadFault) (λ is. λ e. cc) (λ text is carries writes. λ e. cc) (λ text is carries writes. λ e. cc) (λ text is carries writes. λ e. cc)
      (λ text is number carries. (λ e. cc, λ e. cc))

  pub call_of_turn : IsReady true keeper → IsAfterCall true false (part_as_call result) keeper keeper'
  call_of_turn ready = by_line (λ r. IsAfterCall true false (part_as_call r) keeper keeper')
      (λ is. subst (λ (k : KeeperState). IsAfterCall true false (part_as_call (Some Served)) keeper k) (sym (same (none_asked is))) (IsAfterCall-none (well Fault) keeper refl ready))
      (λ text is carries writes. carries.call)
      (λ text is carries writes. carries.call)
      (λ text is carries writes. carries.call)
      (λ text is number carries. (carries.call, carries.call))

  pub at_work_after_turn : AtWork engine keeper → IfNone result (AtWork engine' keeper')
  at_work_after_turn at_work = by_line (λ r. IfNone r (AtWork engine' keeper'))
      (λ is. tt)
      (λ text is carries writes. at_work_carried engine engine' keeper keeper' output output' steps steps' (asks text) carries at_work)
      (λ text is carries writes. tt)
      (λ text is carries writes. tt)
      (λ text is number carries. (tt, tt))

  module _ (setting : Setting) (history : History) (before : Told) (reader reader' : Position) (left left' : Option Txt)
      (served : HasServed setting job history before reader engine (outside left output keeper steps)) (limit : reader'.taken ≤ input_limit) (tells : keeper'.tells) where
    abbrev now : Outside
    now = outside left' output' keeper' steps'

    abbrev Ends : Option Ending → Type 0
    Ends r = MatchOption r (HasServed setting job history before reader' engine' now) (λ ending. LinesEnd ending setting job history before now)

    abbrev Handed : Option LineText → Type 0
    Handed l = ForInput before (λ input. MatchOption l (HasHandedOut input served.handed reader' left' × (served.handed ≡ lines input) × (left' ≡ Some []))
        (λ text. HasHandedOut input (served.handed ++ text ∷ []) reader' left'))

    -- at the end of the input nothing has changed
    at_end : keeper' ≡ keeper → output' ≡ output → steps' ≡ steps → Handed None → IsServed setting job history before now
    at_end kept written counted handed =
        subst (λ (k : KeeperState). IsServed setting job history before (outside left' output' k steps')) (sym kept)
        (subst (λ (o : Option Txt). IsServed setting job history before (outside left' o keeper steps')) (sym written)
        (subst (λ (n : ℕ). IsServed setting job history before (outside left' output keeper n)) (sym counted)
        (all_served setting job history before reader reader' engine engine' left left' output output' keeper keeper' steps steps' served handed limit)))

    -- the line is counted as it is
    counts : (text : LineText) → Handed (Some text) → Handed (Some (counted_line job text))
    counts text handed = handed_counted job before served.handed text reader' left' handed

    pub served_by_turn : Handed line → Ends result
    served_by_turn handed = by_line Ends
        (λ is. at_end (same (none_asked is)) (end (none_asked is)).2 (end (none_asked is)).3 (subst Handed is handed))
        (λ text is carries writes. served_more setting job history before reader reader' engine engine' left left' output output' keeper keeper' steps steps' served (counted_line job text) (counts text (subst Handed is handed)) tells carries writes)
        (λ text is carries writes. broken_off setting job history before reader reader' engine engine' left left' output output' keeper keeper' steps steps' served (counted_line job text) (counts text (subst Handed is handed)) tells carries writes limit)
        (λ text is carries writes. unwritten_at setting job history before reader reader' engine engine' left left' output output' keeper keeper' steps steps' served (counted_line job text) (counts text (subst Handed is handed)) tells carries writes limit)
        (λ text is number carries.
        let never = undamaged_at setting job history before reader reader' engine engine' left left' output output' keeper keeper' steps steps' served (counted_line job text) (counts text (subst Handed is handed)) tells number carries in
        (absurd never, absurd never))
