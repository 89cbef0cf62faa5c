-- What some lines command.
use Rattle.std.proofs.Common.{◌≡◌, ℕ, List, [], ◌∷◌, true, false, Some, None, Err, refl, codes}
use Rattle.hippo_io.specs.Lines.{too_long_line, not_utf8_line}
use Rattle.hippo_stmt_lines.specs.Forms.{logs_out, fetches, says_nothing, makes_request}
use Rattle.hippo_report.specs.declared.refusal.Refusal.TheVariants.{BadLine, LineTooLong, BadSyntax, BadMoment, Unsupported}
use Rattle.hippo_report.specs.declared.speaker.Speaker.TheVariants.{Nobody, Session}
use Rattle.hippo_lexer.specs.declared.kinds.TokenKind.TheVariants as kinds
use Rattle.hippo_lexer.specs.declared.faults.SyntaxFault.TheVariants as syntax
use Rattle.hippo_stmt_lines.specs.Commands.{nothing, wrong, make_request, command_by, command_of, clock_command, syntax_refusal, state_command, takes_memory}

too_long_is_nobodys : command_of too_long_line ≡ wrong Nobody LineTooLong
too_long_is_nobodys = refl

no_utf8_is_nobodys : command_of not_utf8_line ≡ wrong Nobody BadLine
no_utf8_is_nobodys = refl

formless_is_nobodys : command_by None ≡ wrong Nobody BadLine
formless_is_nobodys = refl

silence_commands_nothing : command_by (Some says_nothing) ≡ nothing
silence_commands_nothing = refl

no_moment_is_nobodys : clock_command None ≡ wrong Nobody BadMoment
no_moment_is_nobodys = refl

fetches_in_a_session : command_by (Some (makes_request 1 (fetches 2 10))) ≡ make_request (Session 1) (fetches 2 10)
fetches_in_a_session = refl

-- a refused statement speaks for its session
refused_in_a_session : (text : List ℕ) → state_command (Session 3) text (Err BadSyntax) ≡ wrong (Session 3) BadSyntax
refused_in_a_session text = refl

-- a refused word is reported in upper case
words_in_upper_case :
    syntax_refusal (record { kind = kinds.Unsupported (codes "sum"); start = 7; end = 10 } ∷ []) (syntax.Unsupported 0)
    ≡ Unsupported (codes "SUM")
words_in_upper_case = refl

-- a line that ends something takes no memory; one that is refused in a session may take some
logout_takes_none : takes_memory (make_request (Session 7) logs_out) ≡ false
logout_takes_none = refl

refusals_may_take_some : takes_memory (wrong (Session 3) BadSyntax) ≡ true
refusals_may_take_some = refl
