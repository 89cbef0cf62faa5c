-- Properties of the command of each line.
use Rattle.std.proofs.Common.{◌≡◌, refl, ℕ, zero, suc, arith, codes, Option, Some, None, Result, Ok, Err}
use Rattle.std.specs.Prelude.{IsUtf8}
use Rattle.hippo_values.specs.Texts.{Txt}
use Rattle.hippo_values.specs.declared.moments.Moment.{Moment}
use Rattle.hippo_io.specs.Lines.{LineText, text_line, too_long_line, not_utf8_line}
use Rattle.hippo_stmt_ast.specs.declared.statement.Stmt.{Stmt}
use Rattle.hippo_report.specs.declared.refusal.Refusal.{Refusal}
use Rattle.hippo_report.specs.declared.speaker.Speaker.TheVariants.{Nobody}
use Rattle.hippo_report.specs.Speakers.{speaker_at}
use Rattle.hippo_stmt_lines.specs.Forms.{Form, says_nothing, sets_clock, makes_request, makes_statement, line_form}
use Rattle.hippo_stmt_lines.specs.Commands.{wrong, clock_command, state_command, statement_in, command_by, command_of, input_command}
use Rattle.hippo_stmt_lines.specs.Moments.{moment_in}
use Rattle.hippo_typing_laws.proofs.CommandTheorem.{commands_are_written}
use Rattle.hippo_engine.specs.Carrying.{IsText}
use Rattle.hippo_engine_checks.specs.Findings.{IsOfLine}
use Rattle.hippo_engine_checks.proofs.LengthLemmas.{plain_fits}

clock : (moment : Option Moment) → IsOfLine (clock_command moment)
clock (Some moment) = tt
clock None = plain_fits Nobody (codes "18 BadMoment") tt (omega arith)

-- a refusal of a line that begins with a number may be long
of_somebody : (number : ℕ) (refusal : Refusal) → IsOfLine (wrong (speaker_at number) refusal)
of_somebody zero refusal = tt
of_somebody (suc number) refusal = tt

module _ (line : Txt) (utf8 : IsUtf8 line) where
  statement : (session : ℕ) (text : Txt) (found : Result Stmt Refusal) → command_of (text_line line) ≡ state_command (speaker_at session) text found → IsOfLine (state_command (speaker_at session) text found)
  statement session text (Ok made) is = (line, commands_are_written line (speaker_at session) made text utf8 is)
  statement session text (Err refusal) is = of_somebody session refusal

  by_form : (form : Option Form) → command_of (text_line line) ≡ command_by form → IsOfLine (command_by form)
  by_form None is = plain_fits Nobody (codes "10 BadLine") tt (omega arith)
  by_form (Some says_nothing) is = tt
  by_form (Some (sets_clock moment)) is = clock (moment_in moment)
  by_form (Some (makes_request session request)) is = tt
  by_form (Some (makes_statement session text)) is = statement session text (statement_in text) is

-- a refusal of nobody's line is short, and the text of a statement is part of its line
IsOfLine-line : (line : LineText) → IsText (Some line) → IsOfLine (command_of line)
IsOfLine-line (text_line text) utf8 = by_form text utf8 (line_form text) refl
IsOfLine-line too_long_line utf8 = plain_fits Nobody (codes "11 LineTooLong") tt (omega arith)
IsOfLine-line not_utf8_line utf8 = plain_fits Nobody (codes "10 BadLine") tt (omega arith)

pub IsOfLine-input_command : (line : Option LineText) → IsText line → IsOfLine (input_command line)
IsOfLine-input_command None utf8 = tt
IsOfLine-input_command (Some line) utf8 = IsOfLine-line line utf8
