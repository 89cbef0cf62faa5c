-- Laws on the statements that lines command.
use Rattle.std.specs.Prelude.{◌≡◌, ℕ, ◌<◌, true, length, IsUtf8, Some}
use Rattle.hippo_values.specs.Texts.{Txt}
use Rattle.hippo_io.specs.Lines.{text_line}
use Rattle.hippo_stmt_ast.specs.declared.statement.RawSelect.{RawSelect}
use Rattle.hippo_stmt_ast.specs.declared.statement.Stmt.{Stmt}
use Rattle.hippo_report.specs.declared.speaker.Speaker.{Speaker}
use Rattle.hippo_typing_laws.specs.ReadingLaws.{select_place, ReadsByItself}
use Rattle.hippo_stmt_lines.specs.Commands.{make_statement, command_of}
use Rattle.hippo_typing_laws.specs.Written.{is_written}

-- a statement is well formed and is part of a UTF-8 text that is shorter than its line; a question
-- in it can be read on its own
pub record IsPartOfLine (line : Txt) (statement : Stmt) (text : Txt) : Type 0 where
  pub written : is_written statement ≡ true
  pub utf8 : IsUtf8 text
  pub shorter : length text < length line
  pub reads : (select : RawSelect) (start end : ℕ)
      → select_place statement ≡ Some (select, start, end)
      → ReadsByItself text select start end

-- this holds of every statement that a line commands
abbrev pub CommandsAreWritten : Type 0
CommandsAreWritten =
    (line : Txt) (who : Speaker) (statement : Stmt) (text : Txt) → IsUtf8 line
    → command_of (text_line line) ≡ make_statement who statement text
    → IsPartOfLine line statement text
