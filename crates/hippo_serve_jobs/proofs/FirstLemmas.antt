-- The first line of a load: a line that sets the clock neither reads what is stored nor adds to it.
use Rattle.std.proofs.Common.{◌≡◌, ◌<◌, ℕ, Bool, true, false, List, [], ◌∷◌, ◌++◌, length, inl, inr, Option, Some, None, MatchOption, Ok, Err, codes, refl, sym, subst, arith}
use Rattle.std.proofs.lemmas.Bool.{lt-ltb}
use Rattle.std.specs.Bool.{then_some}
use Rattle.std.specs.Prelude.{nat_lt, int_lt, option_and_then}
use Rattle.hippo_values_text.specs.Dates.{moment_text}
use Rattle.hippo_values.specs.Texts.{Txt}
use Rattle.hippo_values.specs.declared.moments.Moment.{Moment}
use Rattle.hippo_values.specs.Results.{◌>>=◌}
use Rattle.hippo_io.specs.Lines.{LineText, text_line, lines}
use Rattle.hippo_stmt_lines.specs.Forms.{Form, sets_clock, form_by, at_of, line_form}
use Rattle.hippo_stmt_lines.specs.Words.{words_of, only}
use Rattle.hippo_model.specs.declared.entry.Entry.{Entry}
use Rattle.hippo_model.specs.Terms.{History}
use Rattle.hippo_keeper.specs.Keeping.{KeeperState, IsAfterCall}
use Rattle.hippo_report.specs.declared.speaker.Speaker.TheVariants.{Nobody}
use Rattle.hippo_report.specs.declared.refusal.Refusal.TheVariants.{MomentBack}
use Rattle.hippo_engine_sessions.specs.Worlds.{World}
use Rattle.hippo_stmt_lines.specs.Commands.{Command, clock_command, command_by, command_of}
use Rattle.hippo_engine.specs.declared.engine.Engine.{Engine}
use Rattle.hippo_engine_rules.specs.declared.faults.EngineFault.TheVariants.{Write}
use Rattle.hippo_engine.specs.Carrying.{AtWork, BreaksOff}
use Rattle.hippo_engine_checks.specs.Checks.{refused_if}
use Rattle.hippo_engine_checks.specs.Deeds as deeds
use Rattle.hippo_engine_rules.specs.Effects.{judgement_effect, effect_of}
use Rattle.hippo_engine_rules.specs.Ledgers.{reads_kept}
use Rattle.hippo_serve_args.specs.declared.calls.Job.{Job}
use Rattle.hippo_serve_args.specs.declared.calls.Setting.{Setting}
use Rattle.hippo_program_args.specs.declared.endings.Ending.{Ending}
use Rattle.hippo_program_args.specs.Endings.{part_as_call}
use Rattle.hippo_serve_jobs.specs.Endings.{EndsUnread}
use Rattle.hippo_serve_jobs.specs.Loads.{at_line, asked_lines}
use Rattle.hippo_serve_jobs.specs.Outside.{Told, Outside, outside}
use Rattle.hippo_serve_jobs.specs.Runs.{ForInput, HasReadFront, LinesEnd, HasReplied, Turn}
use Rattle.hippo_serve_jobs.proofs.RunLemmas.{replied_more, unwritten, undamaged}
use Rattle.hippo_serve_jobs.proofs.TurnLemmas.{by_turn, at_work_carried}

-- the form of `at` followed by a text
form_at : (text : Txt) (found : Bool) → found ≡ true → option_and_then (λ (first, remaining). form_by first remaining) (then_some found (codes "at", text)) ≡ at_of text
form_at text true is = refl
form_at text false is = absurd cc

at_form : (text : Txt) → line_form (codes "at " ++ text) ≡ at_of text
at_form text = form_at text (nat_lt 2 (length (codes "at " ++ text))) (lt-ltb 2 (length (codes "at " ++ text)) longer)
  where
    longer : 2 < length (codes "at " ++ text)
    longer = omega arith

-- a command that sets the clock, or is refused since it names no moment
clock_quiet : (moment : Option Moment) → reads_kept (clock_command moment) ≡ false
clock_quiet (Some moment) = refl
clock_quiet None = refl

clock_adds : (history : History) (world : World) (moment : Option Moment) → (effect_of history world (clock_command moment)).added ≡ []
clock_adds history world None = refl
clock_adds history world (Some moment) = at (int_lt moment world.clock)
  where
    at : (back : Bool) → (judgement_effect history world Nobody (refused_if back (MomentBack world.clock) >>= λ _. Ok (deeds.set_clock moment))).added ≡ []
    at true = refl
    at false = refl

module _ (Q : Command → Type 0) (clock : (moment : Option Moment) → Q (clock_command moment)) (unread : Q (command_by None)) where
  by_word : (word : Option Txt) → Q (command_by (option_and_then (λ moment. Some (sets_clock moment)) word))
  by_word None = unread
  by_word (Some moment) = clock _

  -- what holds of every command that sets the clock holds of a load's first one
  by_clock : (moment : Moment) → Q (command_of (text_line (at_line moment)))
  by_clock moment = subst (λ (form : Option Form). Q (command_by form)) (sym (at_form (moment_text moment))) (by_word (only (words_of (moment_text moment))))

first_quiet : (moment : Moment) → reads_kept (command_of (text_line (at_line moment))) ≡ false
first_quiet moment = by_clock (λ command. reads_kept command ≡ false) clock_quiet refl moment

first_adds : (history : History) (world : World) (moment : Moment) → (effect_of history world (command_of (text_line (at_line moment)))).added ≡ []
first_adds history world moment = by_clock (λ command. (effect_of history world command).added ≡ []) (clock_adds history world) refl moment

none_one : (added : History) (entry : Entry) → added ≡ [] → added ≡ entry ∷ [] → ⊥
none_one added entry none one = cc

not_both : (reads : Bool) → reads ≡ false → reads ≡ true → ⊥
not_both reads quiet e = cc

module _ (job : Job) (moment : Moment) (first : asked_lines job [] ≡ text_line (at_line moment) ∷ [])
    (engine engine' : Engine) (keeper keeper' : KeeperState) (output output' : Option Txt) (steps steps' : ℕ) where
  abbrev line : LineText
  line = text_line (at_line moment)

  -- the keeper cannot fail at this line
  unbroken : (history : History) → BreaksOff history (command_of line) engine keeper keeper' → ⊥
  unbroken history breaks = elim breaks [
    | inl adding ↦ none_one _ adding.entry (first_adds history _ moment) adding.adds
    | inr reading ↦ not_both _ (first_quiet moment) reading.reads
  ]

  module _ (result : Option Ending) (turn : Turn result (command_of line) engine engine' keeper keeper' output output' steps steps') where
    pub first_status : AtWork engine keeper → MatchOption result (AtWork engine' keeper') EndsUnread
    first_status at_work = by_turn engine engine' keeper keeper' output output' steps steps' (λ r. MatchOption r (AtWork engine' keeper') EndsUnread) (command_of line)
        (λ carries writes. at_work_carried engine engine' keeper keeper' output output' steps steps' (command_of line) carries at_work)
        (λ carries writes. (λ e. cc, λ e. cc, λ e. cc, λ e. cc, λ e. cc))
        (λ carries writes. (λ e. cc, λ e. cc, λ e. cc, λ e. cc, λ e. cc))
        (λ number carries. ((λ e. cc, λ e. cc, λ e. cc, λ e. cc, λ e. cc), (λ e. cc, λ e. cc, λ e. cc, λ e. cc, λ e. cc))) result turn

    pub first_call : IsAfterCall true false (part_as_call result) keeper keeper'
    first_call = by_turn engine engine' keeper keeper' output output' steps steps' (λ r. IsAfterCall true false (part_as_call r) keeper keeper') (command_of line)
        (λ carries writes. carries.call)
        (λ carries writes. carries.call)
        (λ carries writes. carries.call)
        (λ number carries. (carries.call, carries.call)) result turn

    pub first_served : (setting : Setting) (history : History) (before : Told) → HasReplied setting history [] before engine (outside before.left output keeper steps) → keeper'.tells
        → MatchOption result (HasReplied setting history (asked_lines job []) before engine' (outside before.left output' keeper' steps'))
        (λ ending. LinesEnd ending setting job history before (outside before.left output' keeper' steps'))
    first_served setting history before replied tells = by_turn engine engine' keeper keeper' output output' steps steps' Ends (command_of line)
        (λ carries writes. subst (λ (asked : List LineText). HasReplied setting history asked before engine' now) (sym first)
        (replied_more setting history [] before engine engine' before.left before.left output output' keeper keeper' steps steps' replied line tells (Ok tt) carries refl writes))
        (λ carries writes. absurd (unbroken _ (carries.failed refl tells _ replied.holds)))
        (λ carries writes. unwritten setting history [] before engine engine' before.left before.left output output' keeper keeper' steps steps' replied line tells (Err Write) carries refl job [] first none_read writes)
        (λ number carries.
        let never = undamaged setting history [] before engine engine' before.left before.left output output' keeper keeper' steps steps' replied line tells number carries in
        (absurd never, absurd never)) result turn
      where
        now : Outside
        now = outside before.left output' keeper' steps'

        Ends : Option Ending → Type 0
        Ends r = MatchOption r (HasReplied setting history (asked_lines job []) before engine' now) (λ ending. LinesEnd ending setting job history before now)

        none_read : ForInput before (λ input. HasReadFront [] input before.left)
        none_read input is = record { following = lines input; order = refl; taken = 0; within = omega arith; others = is; limit = omega arith }
