-- What follows from the call that the words ask for.
use Rattle.std.proofs.Common.{◌≡◌, ◌≢◌, ℕ, List, [], Option, Some, inl, inr, arith, refl, ap, sym, subst, ◌∙◌}
use Rattle.std.specs.Prelude.{option_map}
use Rattle.std.specs.Option.{option_map_or}
use Rattle.hippo_values.specs.Texts.{Txt}
use Rattle.hippo_serve_args.specs.CommandLine.{call_of}
use Rattle.hippo_io.specs.Told.{Appends, AppendsFront}
use Rattle.hippo_keeper.specs.Keeping.{KeeperState}
use Rattle.hippo_keeper.specs.Telling.{TellsOnceStarted}
use Rattle.hippo_program_args.specs.Saying.{Says}
use Rattle.hippo_program_args.specs.Starting.{IsIdle}
use Rattle.hippo_serve_args.specs.declared.calls.Call.{Call}
use Rattle.hippo_serve_args.specs.declared.calls.Job.{Job}
use Rattle.hippo_serve_args.specs.declared.calls.Job.TheVariants.{Drill}
use Rattle.hippo_serve_args.specs.declared.calls.Setting.{Setting}
use Rattle.hippo_program_args.specs.declared.endings.Ending.{Ending}
use Rattle.hippo_program_args.specs.declared.endings.Ending.TheVariants.{Served, Refused, KeeperFault, ReadFault, WriteFault, Damaged, NoMemory, TooMuch}
use Rattle.hippo_serve_jobs.specs.Drilling.{summary}
use Rattle.hippo_program_args.specs.Endings.{status_of}
use Rattle.hippo_serve.specs.Asking.{store_of, job_of, EndsAs}
use Rattle.hippo_serve_jobs.specs.Outcomes.{RunEnds, CheckEnds}
use Rattle.hippo_serve_jobs.specs.Outside.{Outside}

-- what holds of an ending holds by its status
pub by_status : (ends : Ending → Type 0) (ending : Ending) → ends ending → EndsAs ends (status_of ending)
by_status ends Served holds = (λ e. holds, λ e. absurd (omega (arith, e)), λ e. absurd (omega (arith, e)), λ e. absurd (omega (arith, e)), λ e. absurd (omega (arith, e)), λ e. absurd (omega (arith, e)), λ e. absurd (omega (arith, e)), λ e. absurd (omega (arith, e)))
by_status ends Refused holds = (λ e. absurd (omega (arith, e)), λ e. holds, λ e. absurd (omega (arith, e)), λ e. absurd (omega (arith, e)), λ e. absurd (omega (arith, e)), λ e. absurd (omega (arith, e)), λ e. absurd (omega (arith, e)), λ e. absurd (omega (arith, e)))
by_status ends KeeperFault holds = (λ e. absurd (omega (arith, e)), λ e. absurd (omega (arith, e)), λ e. holds, λ e. absurd (omega (arith, e)), λ e. absurd (omega (arith, e)), λ e. absurd (omega (arith, e)), λ e. absurd (omega (arith, e)), λ e. absurd (omega (arith, e)))
by_status ends ReadFault holds = (λ e. absurd (omega (arith, e)), λ e. absurd (omega (arith, e)), λ e. absurd (omega (arith, e)), λ e. holds, λ e. absurd (omega (arith, e)), λ e. absurd (omega (arith, e)), λ e. absurd (omega (arith, e)), λ e. absurd (omega (arith, e)))
by_status ends WriteFault holds = (λ e. absurd (omega (arith, e)), λ e. absurd (omega (arith, e)), λ e. absurd (omega (arith, e)), λ e. absurd (omega (arith, e)), λ e. holds, λ e. absurd (omega (arith, e)), λ e. absurd (omega (arith, e)), λ e. absurd (omega (arith, e)))
by_status ends Damaged holds = (λ e. absurd (omega (arith, e)), λ e. absurd (omega (arith, e)), λ e. absurd (omega (arith, e)), λ e. absurd (omega (arith, e)), λ e. absurd (omega (arith, e)), λ e. holds, λ e. absurd (omega (arith, e)), λ e. absurd (omega (arith, e)))
by_status ends NoMemory holds = (λ e. absurd (omega (arith, e)), λ e. absurd (omega (arith, e)), λ e. absurd (omega (arith, e)), λ e. absurd (omega (arith, e)), λ e. absurd (omega (arith, e)), λ e. absurd (omega (arith, e)), λ e. holds, λ e. absurd (omega (arith, e)))
by_status ends TooMuch holds = (λ e. absurd (omega (arith, e)), λ e. absurd (omega (arith, e)), λ e. absurd (omega (arith, e)), λ e. absurd (omega (arith, e)), λ e. absurd (omega (arith, e)), λ e. absurd (omega (arith, e)), λ e. absurd (omega (arith, e)), λ e. holds)

-- only damage has the status 6
pub status-6 : (ending : Ending) → status_of ending ≡ 6 → ending ≡ Damaged
status-6 Served e = absurd (omega (arith, e))
status-6 Refused e = absurd (omega (arith, e))
status-6 KeeperFault e = absurd (omega (arith, e))
status-6 ReadFault e = absurd (omega (arith, e))
status-6 WriteFault e = absurd (omega (arith, e))
status-6 Damaged e = refl
status-6 NoMemory e = absurd (omega (arith, e))
status-6 TooMuch e = absurd (omega (arith, e))

module _ (words : List Txt) (call : Call) (asked : call_of words ≡ Some call) (store : Txt) (named : store ≡ call.store) where
  store_is : store ≡ store_of words
  store_is = named ∙ sym (ap (λ (c : Option Call). option_map_or (λ (d : Call). d.store) c []) asked)

  -- the result of a check
  pub check_as_asked : (ending : Ending) (status : ℕ) → status ≡ status_of ending → (unwritten : Type 0) (before after : Outside) → CheckEnds ending unwritten store before after
      → EndsAs (λ one. CheckEnds one unwritten (store_of words) before after) status
  check_as_asked ending status is unwritten before after ends =
      subst (λ (n : ℕ). EndsAs (λ one. CheckEnds one unwritten (store_of words) before after) n) (sym is)
      (by_status (λ one. CheckEnds one unwritten (store_of words) before after) ending (subst (λ (name : Txt). CheckEnds ending unwritten name before after) store_is ends))

  -- the result of a run or a load
  pub run_as_asked : (ending : Ending) (status : ℕ) → status ≡ status_of ending → (unread unwritten : Type 0) (setting : Setting) (job : Job) (before after : Outside)
      → RunEnds ending unread unwritten setting job store before after → EndsAs (λ one. RunEnds one unread unwritten setting job (store_of words) before after) status
  run_as_asked ending status is unread unwritten setting job before after ends =
      subst (λ (n : ℕ). EndsAs (λ one. RunEnds one unread unwritten setting job (store_of words) before after) n) (sym is)
      (by_status (λ one. RunEnds one unread unwritten setting job (store_of words) before after) ending (subst (λ (name : Txt). RunEnds ending unread unwritten setting job name before after) store_is ends))

  pub tells_as_asked : (before after : KeeperState) → TellsOnceStarted store before after → TellsOnceStarted (store_of words) before after
  tells_as_asked before after tells = subst (λ (name : Txt). TellsOnceStarted name before after) store_is tells

  pub idle_as_asked : (before after : KeeperState) → IsIdle store before after → IsIdle (store_of words) before after
  idle_as_asked before after idle = subst (λ (name : Txt). IsIdle name before after) store_is idle

-- what a drill reports, if the job is a drill
summary_in : Option Job → Txt
summary_in (Some (Drill size number)) = summary size number
summary_in job = []

-- the drill that is run is the one that the words ask for
pub summary_as_asked : (words : List Txt) (call : Call) → call_of words ≡ Some call → (size number size' number' : ℕ) → call.job ≡ Drill size' number'
    → job_of words ≡ Some (Drill size number) → summary size' number' ≡ summary size number
unfolding summary_in
summary_as_asked words call asked size number size' number' is job =
    ap summary_in (sym (ap (λ (one : Option Call). option_map (λ (c : Call). c.job) one) asked ∙ ap Some is) ∙ job)

-- a line that was to be written is written whole at status 0, and a prefix of it at status 5
module _ (line : Txt) (ending : Ending) (before after : Option Txt) (faults faults' : ℕ)
    (says : ending ≢ NoMemory → Says Served line WriteFault ending before after faults faults') where
  pub said_whole : status_of ending ≡ 0 → Appends before after line
  said_whole zero = elim (says (λ short. omega (arith, sym zero ∙ ap status_of short))) [
    | inl whole ↦ whole.1
    | inr cut ↦ absurd (omega (arith, sym zero ∙ ap status_of cut.0))
  ]

  pub said_front : status_of ending ≡ 5 → AppendsFront before after line
  said_front five = elim (says (λ short. omega (arith, sym five ∙ ap status_of short))) [
    | inl whole ↦ absurd (omega (arith, sym five ∙ ap status_of whole.0))
    | inr cut ↦ cut.1
  ]
