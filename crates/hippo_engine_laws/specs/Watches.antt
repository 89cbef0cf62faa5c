-- The alarms of a watch in the replies to questions.
use Rattle.std.specs.Prelude.{◌≡◌, ◌⊎◌, ℕ, ◌-◌, List, [], ◌∷◌, ◌++◌, flat_map, Option, Some, None, IfSome, option_to_list, Ok, Err}
use Rattle.std.specs.List.{enumerate_from, AllByRecursion}
use Rattle.std.specs.Option.{option_map_or}
use Rattle.hippo_values.specs.Texts.{Txt}
use Rattle.hippo_io.specs.Lines.{LineText}
use Rattle.hippo_model.specs.declared.audit.Audit.{Audit}
use Rattle.hippo_model.specs.declared.audit.Flag.{Flag}
use Rattle.hippo_model.specs.declared.entry.Entry.{Entry}
use Rattle.hippo_model.specs.Terms.{History}
use Rattle.hippo_model.specs.Audits.{flags_between}
use Rattle.hippo_typing.specs.Meanings.{meaning}
use Rattle.hippo_report.specs.declared.refusal.Refusal.TheVariants.{Memory}
use Rattle.hippo_report.specs.Refusals.{refusal_line}
use Rattle.hippo_report_flags.specs.AlarmLines.{alarm_text}
use Rattle.hippo_engine_sessions.specs.Worlds.{World, at_number}
use Rattle.hippo_stmt_lines.specs.Commands.{Command, who_commands}
use Rattle.hippo_engine_checks.specs.Deeds.{Deed, Question, question_act, next_entry}
use Rattle.hippo_engine_checks.specs.Deeds as deeds
use Rattle.hippo_engine_checks.specs.Checks.{Checked}
use Rattle.hippo_engine_checks.specs.Judging.{judged}
use Rattle.hippo_engine_rules.specs.Effects.{Effect, deed_effect}
use Rattle.hippo_engine_rules.specs.Runs.{history_after}
use Rattle.hippo_engine_laws.specs.Lines.{OfEachLine}

-- the alarm of the watch at a number for a flag
abbrev pub alarm_of : ℕ → Flag → Txt
alarm_of number flag = alarm_text number flag.seq flag.shared

-- the alarms of all watches, from the flag of each, if it has one
abbrev pub alarm_texts : List (Option Flag) → Txt
alarm_texts flags =
    flat_map (λ (number, flag). option_map_or (alarm_of number) flag []) (enumerate_from 1 flags)

-- the reply to a deed if no watch is set
abbrev pub answer_to : History → World → Deed → Txt
answer_to history world deed = (deed_effect history (record world { watches = [] }) deed).reply

-- the question that a deed answers, if it answers one
abbrev pub question_answered : Deed → Option Question
question_answered (deeds.answer_question question) = Some question
question_answered (deeds.open_cursor session number question) = Some question
question_answered (deeds.extract question) = Some question
question_answered deed = None

-- a question that was answered: its entry, and the flag that one watch gives it, if any
pub record Heard : Type 0 where
  pub entry : Entry
  pub flag : Option Flag

-- the question becomes the next entry, and its answer is followed by the alarms; the flag of the
-- watch at a number is among them
pub record IsAnsweredWithAlarms (number : ℕ) (history : History) (world : World) (deed : Deed)
    (question : Question)
    (effect : Effect) (heard : Heard) : Type 0 where
  pub entry_is : heard.entry ≡ next_entry history world (question_act question)
  pub added : effect.added ≡ heard.entry ∷ []
  pub flags : List (Option Flag)
  pub says : effect.reply ≡ answer_to history world deed ++ alarm_texts flags
  pub flag_is : at_number flags number ≡ heard.flag

-- a question is answered, or its reply is the out-of-memory refusal; other deeds are no question
abbrev pub DeedHeard : ℕ → History → World → Command → Deed → Option Question → Effect
    → Option Heard → Type 0
DeedHeard number history world command deed None effect heard = heard ≡ None
DeedHeard number history world command deed (Some question) effect heard =
    ((one : Heard) × (heard ≡ Some one) × IsAnsweredWithAlarms number history world deed question
    effect one)
    ⊎ ((effect.reply ≡ refusal_line (who_commands command) Memory) × (heard ≡ None))

-- a refused command is no question
abbrev pub JudgedHeard : ℕ → History → World → Command → Checked Deed → Effect → Option Heard
    → Type 0
JudgedHeard number history world command (Err refusal) effect heard = heard ≡ None
JudgedHeard number history world command (Ok deed) effect heard =
    DeedHeard number history world command deed (question_answered deed) effect heard

-- the question that a command asks, with the flag of the watch at a number
abbrev pub IsHeard : ℕ → History → World → Command → Effect → Option Heard → Type 0
IsHeard number history world command effect heard =
    JudgedHeard number history world command (judged history world command) effect heard

-- the flags that one DURING gives one entry, among the flags of a history
abbrev pub flags_at : History → Audit → Entry → List Flag
flags_at history audit entry = flags_between meaning history audit (entry.seq - 1) entry.seq

-- the lines of a run have as alarms of the watch at a number exactly what one DURING flags, in
-- any longer history, of the entries of the questions that were answered
pub record HasHeard (number : ℕ) (audit : Audit) (history : History) (world : World)
    (lines : List LineText)
    (effects : List Effect) : Type 0 where
  pub heard : List (Option Heard)
  pub each : OfEachLine (IsHeard number) history world lines effects heard
  pub flags : (later : History)
      → AllByRecursion (λ of_line. IfSome of_line
      (λ one. flags_at (history_after history effects ++ later) audit one.entry
      ≡ option_to_list one.flag)) heard
