-- What a line of the input commands, by the forms of lines and the grammar alone, whatever the
-- history.
use Rattle.std.specs.Prelude.{◌≡◌, ◌⊎◌, ℕ, Bool, true, false, List, [], map, Option, Some, None, Result, Ok, Err, ok_or, slice_get}
use Rattle.std.specs.Option.{option_map_or}
use Rattle.std.specs.Char.{to_ascii_uppercase}
use Rattle.hippo_values.specs.Texts.{Txt}
use Rattle.hippo_values.specs.declared.moments.Moment.{Moment}
use Rattle.hippo_io.specs.Lines.{LineText, text_line, too_long_line, not_utf8_line}
use Rattle.hippo_lexer.specs.declared.faults.LexFault.{LexFault}
use Rattle.hippo_lexer.specs.declared.faults.LexFault.TheVariants as lexing
use Rattle.hippo_lexer.specs.declared.faults.SyntaxFault.{SyntaxFault}
use Rattle.hippo_lexer.specs.declared.faults.SyntaxFault.TheVariants as syntax
use Rattle.hippo_lexer.specs.declared.kinds.Token.{Token}
use Rattle.hippo_lexer.specs.declared.kinds.TokenKind.{TokenKind}
use Rattle.hippo_lexer.specs.declared.kinds.TokenKind.TheVariants as kinds
use Rattle.hippo_lexer.specs.Cutting.{outcome_of}
use Rattle.hippo_lexer.specs.Words.{words_check}
use Rattle.hippo_stmt_lines.specs.Forms.{Form, says_nothing, sets_clock, makes_request, makes_statement, Request, logs_out, closes, drops, unwatches, line_form}
use Rattle.hippo_stmt_ast.specs.declared.statement.Stmt.{Stmt}
use Rattle.hippo_stmt_reader.specs.StatementFinder.{statement_of}
use Rattle.hippo_report.specs.declared.refusal.Refusal.{Refusal}
use Rattle.hippo_report.specs.declared.refusal.Refusal.TheVariants.{BadLine, LineTooLong, BadToken, BadSyntax, Unsupported, TooDeep, NumberTooLarge, BadDate, BadMoment, Memory}
use Rattle.hippo_report.specs.declared.speaker.Speaker.{Speaker}
use Rattle.hippo_report.specs.declared.speaker.Speaker.TheVariants.{Nobody}
use Rattle.hippo_report.specs.Speakers.{speaker_at, is_somebody}
use Rattle.hippo_stmt_lines.specs.Moments.{moment_in}

-- what a line commands, whatever the history
pub data Command : Type 0 where
  -- an empty line, or a comment
  nothing : Command
  -- a line that is refused whatever the history; it may speak for somebody or nobody
  wrong : Speaker → Refusal → Command
  set_clock : Moment → Command
  -- the request that this speaker makes
  make_request : Speaker → Request → Command
  -- a statement, and the text that it is part of
  make_statement : Speaker → Stmt → Txt → Command

-- why a text has no tokens
abbrev pub lexing_refusal : LexFault → Refusal
lexing_refusal (lexing.BadToken place) = BadToken place
lexing_refusal (lexing.NumberTooLarge place) = NumberTooLarge place
lexing_refusal (lexing.BadDate place) = BadDate place
lexing_refusal lexing.Memory = Memory

-- a word of SQL that is refused, in upper case
abbrev pub refused_word : TokenKind → Txt
refused_word (kinds.Unsupported word) = map to_ascii_uppercase word
refused_word kind = []

abbrev pub word_at : List Token → ℕ → Txt
word_at tokens place = option_map_or (λ token. refused_word token.kind) (slice_get tokens place) []

-- why tokens do not form a statement
abbrev pub syntax_refusal : List Token → SyntaxFault → Refusal
syntax_refusal tokens syntax.TooDeep = TooDeep
syntax_refusal tokens (syntax.Unsupported place) = Unsupported (word_at tokens place)
syntax_refusal tokens syntax.BadSyntax = BadSyntax
syntax_refusal tokens syntax.Memory = Memory

-- the statement that the tokens form, if they pass the check of words
abbrev pub statement_by : List Token → Result (Unit {0}) SyntaxFault → Result Stmt Refusal
statement_by tokens (Ok checked) = ok_or (statement_of tokens) BadSyntax
statement_by tokens (Err fault) = Err (syntax_refusal tokens fault)

abbrev pub statement_among : Result (List Token) LexFault → Result Stmt Refusal
statement_among (Ok tokens) = statement_by tokens (words_check tokens)
statement_among (Err fault) = Err (lexing_refusal fault)

-- the statement that a text is, or why it is none
abbrev pub statement_in : Txt → Result Stmt Refusal
statement_in text = statement_among (outcome_of text)

abbrev pub state_command : Speaker → Txt → Result Stmt Refusal → Command
state_command who text (Ok stmt) = make_statement who stmt text
state_command who text (Err refusal) = wrong who refusal

abbrev pub clock_command : Option Moment → Command
clock_command (Some moment) = set_clock moment
clock_command None = wrong Nobody BadMoment

-- what a line of this form commands
abbrev pub command_by : Option Form → Command
command_by None = wrong Nobody BadLine
command_by (Some says_nothing) = nothing
command_by (Some (sets_clock moment)) = clock_command (moment_in moment)
command_by (Some (makes_request session request)) = make_request (speaker_at session) request
command_by (Some (makes_statement session text)) =
    state_command (speaker_at session) text (statement_in text)

-- what a line commands
abbrev pub command_of : LineText → Command
command_of (text_line text) = command_by (line_form text)
command_of too_long_line = wrong Nobody LineTooLong
command_of not_utf8_line = wrong Nobody BadLine

-- what a reader's result commands: a line as it says, the end of the input nothing
abbrev pub input_command : Option LineText → Command
input_command line = option_map_or command_of line nothing

-- for whom the line speaks
abbrev pub who_commands : Command → Speaker
who_commands nothing = Nobody
who_commands (wrong who refusal) = who
who_commands (set_clock moment) = Nobody
who_commands (make_request who request) = who
who_commands (make_statement who stmt text) = who

-- a request that ends something takes no memory
abbrev pub request_takes_memory : Request → Bool
request_takes_memory logs_out = false
request_takes_memory (closes cursor) = false
request_takes_memory (drops job) = false
request_takes_memory (unwatches watch) = false
request_takes_memory request = true

-- of the other lines, those that say nothing, set the clock, or are refused when nobody speaks take
-- no memory
abbrev pub takes_memory : Command → Bool
takes_memory nothing = false
takes_memory (wrong who refusal) = is_somebody who
takes_memory (set_clock moment) = false
takes_memory (make_request who request) = request_takes_memory request
takes_memory (make_statement who stmt text) = true

-- only the reading of a statement takes memory; such a line reads as a statement, or as a refusal
-- that speaks for somebody
abbrev pub may_run_out_of_memory : Command → Bool
may_run_out_of_memory (wrong who refusal) = is_somebody who
may_run_out_of_memory (make_statement who stmt text) = true
may_run_out_of_memory command = false

-- the result is the outcome, or out of memory
abbrev pub OrMemory : {A : Type 0} → Result A Refusal → Result A Refusal → Type 0
OrMemory outcome result = (result ≡ outcome) ⊎ (result ≡ Err Memory)

-- a line commands this, or it is refused as out of memory to read it
abbrev pub IsCommand : Command → Command → Type 0
IsCommand command found =
    (found ≡ command)
    ⊎ ((may_run_out_of_memory command ≡ true) × (found ≡ wrong (who_commands command) Memory))
