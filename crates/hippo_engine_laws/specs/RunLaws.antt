-- Laws of runs.
use Rattle.std.specs.Prelude.{◌≡◌, ℕ, true, List, ◌∷◌, ◌++◌, map, Some, codes, option_and_then}
use Rattle.hippo_io.specs.Lines.{LineText}
use Rattle.hippo_model.specs.declared.audit.Audit.{Audit}
use Rattle.hippo_model.specs.Terms.{History}
use Rattle.hippo_model.specs.Audits.{flag_of}
use Rattle.hippo_model.specs.Validity.{is_valid}
use Rattle.hippo_typing.specs.Meanings.{meaning}
use Rattle.hippo_report.specs.Notices.{number_line}
use Rattle.hippo_engine_sessions.specs.Worlds.{World}
use Rattle.hippo_stmt_lines.specs.Commands.{Command, command_of}
use Rattle.hippo_engine_checks.specs.Deeds.{Deed, Question, question_act, next_entry}
use Rattle.hippo_engine_checks.specs.Deeds as deeds
use Rattle.hippo_engine_rules.specs.Effects.{Effect, deed_effect, flag_lines}
use Rattle.hippo_engine_rules.specs.Runs.{IsRun}
use Rattle.hippo_engine_laws.specs.Lines.{IsDone, NoneJudged}
use Rattle.hippo_engine_laws.specs.Jobs.{HasWritten, last_end, flags_in}
use Rattle.hippo_engine_laws.specs.Watches.{answer_to, alarm_texts, question_answered, HasHeard}

-- the steps of a job write its audit's flags of the history at its beginning, however the job is
-- cut and whatever lines come between. This holds after the line that begins the job, until it is
-- dropped.
abbrev pub AnyCut : Type 0
AnyCut =
    (history : History) (world : World) (line : LineText) (effect : Effect) (lines : List LineText)
    (effects : List Effect) (number : ℕ) (audit : Audit) → is_valid meaning history ≡ true
    → IsRun history world (line ∷ lines) (effect ∷ effects)
    → IsDone (deeds.begin_audit number audit) history world (command_of line) effect
    → NoneJudged (deeds.drop_job number) (history ++ effect.added) effect.world lines effects
    → HasWritten number audit history (history ++ effect.added) effect.world lines effects

-- the flags that an ended job has written, and its last line, are the reply that one DURING has
-- when the job begins. The last line says that the job has ended.
abbrev pub StepsReplyAsOneAudit : Type 0
StepsReplyAsOneAudit =
    (number : ℕ) (audit : Audit) (start history : History) (world : World) (lines : List LineText)
    (effects : List Effect) (written : HasWritten number audit start history world lines effects)
    (count : ℕ)
    → last_end written.portions ≡ Some count → (beginning : World)
    → (deed_effect start beginning (deeds.audit audit)).reply
    ≡ flag_lines beginning (flags_in written.portions) ++ number_line 0 (codes "end") count

-- the reply to a question is its answer, then the alarms of all watches. These are what the
-- watches' audits flag of the question's entry in any longer history.
abbrev pub AlarmsAreFlags : Type 0
AlarmsAreFlags =
    (history : History) (world : World) (command : Command) (effect : Effect) (deed : Deed)
    (question : Question)
    (later : History) → IsDone deed history world command effect
    → question_answered deed ≡ Some question
    → effect.reply
    ≡ answer_to history world deed
    ++ alarm_texts
    (map (option_and_then (λ audit. flag_of meaning (history ++ (effect.added ++ later)) audit
    (next_entry history world (question_act question)))) world.watches)

-- the alarms of a watch are what one DURING flags, at any later time, of the questions that were
-- answered. This holds after the line that sets the watch, until it is ended.
abbrev pub StandingAudits : Type 0
StandingAudits =
    (history : History) (world : World) (line : LineText) (effect : Effect) (lines : List LineText)
    (effects : List Effect) (number : ℕ) (audit : Audit)
    → IsRun history world (line ∷ lines) (effect ∷ effects)
    → IsDone (deeds.watch number audit) history world (command_of line) effect
    → NoneJudged (deeds.end_watch number) (history ++ effect.added) effect.world lines effects
    → HasHeard number audit (history ++ effect.added) effect.world lines effects
