-- The statement that a line commands: where it begins, and how it reads.
use Rattle.std.proofs.Common.{◌≡◌, ℕ, ◌+◌, ◌<◌, Bool, true, false, List, [], ◌∷◌, length, get_or, Option, Some, None, Result, Ok, Err, option_map, if◌then◌else◌, codes, bytes_eq, refl, ap, subst, ◌∙◌, arith}
use Rattle.std.specs.Prelude.{IsUtf8, nat_lt, ok_or}
use Rattle.std.specs.Bool.{then_some}
use Rattle.std.specs.List.{position_or_len, before_first, after_first}
use Rattle.std.proofs.lemmas.Bool.{ltb-true, eqb-true}
use Rattle.std.proofs.lemmas.List.Sums.{passes_at_first}
use Rattle.std.proofs.lemmas.Str.{IsUtf8-drop, IsCharBoundary-after_ascii}
use Rattle.hippo_values.specs.Limits.{session_limit}
use Rattle.hippo_values.specs.Names.{lower_case}
use Rattle.hippo_values.specs.Texts.{Txt, is_space}
use Rattle.hippo_values.specs.declared.moments.Moment.{Moment}
use Rattle.hippo_values.specs.Options.{◌>>=◌}
use Rattle.hippo_lexer.specs.Cutting.{outcome_of}
use Rattle.hippo_lexer.specs.Words.{words_check}
use Rattle.hippo_lexer.specs.declared.faults.LexFault.{LexFault}
use Rattle.hippo_lexer.specs.declared.faults.SyntaxFault.{SyntaxFault}
use Rattle.hippo_lexer.specs.declared.kinds.Token.{Token}
use Rattle.hippo_stmt_lines.specs.Forms.{Request, Form, says_nothing, sets_clock, makes_request, makes_statement, short_word_of, request_by, form_in, form_with, session_form, at_of, is_silent, form_by, line_form}
use Rattle.hippo_stmt_lines.specs.Numbers.{numeral_value}
use Rattle.hippo_stmt_lines.specs.Words.{words_of, split_at_space, only}
use Rattle.hippo_stmt_lines.specs.declared.short_words.ShortWord.{ShortWord}
use Rattle.hippo_stmt_lines.proofs.FormLemmas.{makes_statement-within}
use Rattle.hippo_stmt_ast.specs.declared.statement.Stmt.{Stmt}
use Rattle.hippo_report.specs.declared.refusal.Refusal.{Refusal}
use Rattle.hippo_report.specs.declared.refusal.Refusal.TheVariants.{BadSyntax}
use Rattle.hippo_report.specs.declared.speaker.Speaker.{Speaker}
use Rattle.hippo_report.specs.Speakers.{speaker_at}
use Rattle.hippo_stmt_reader.specs.StatementFinder.{statement_of}
use Rattle.hippo_stmt_lines.specs.Commands.{make_statement, wrong, statement_by, statement_among, statement_in, state_command, clock_command, command_by}
use Rattle.hippo_stmt_lines.specs.Moments.{moment_in}
use Rattle.hippo_typing_laws.proofs.QuestionTheorem.{found_read_by_themselves}
use Rattle.hippo_typing_laws.specs.CommandLaws.{CommandsAreWritten}
use Rattle.hippo_typing_laws.proofs.TokenTheorem.{tokens_are_typed}
use Rattle.hippo_typing_laws.proofs.WrittenTheorem.{statements_are_written}

abbrev States : ℕ → Txt → Option Form → Type 0
States session text form = form ≡ Some (makes_statement session text)

-- the text of a statement
abbrev text_in : Option Form → Txt
text_in (Some (makes_statement session text)) = text
text_in form = []

stated : (session number : ℕ) (remaining text : Txt) (words : List Txt) → States session text (form_with number remaining words) → remaining ≡ text
stated session number remaining text [] found = let nothing : None ≡ Some (makes_statement session text) = found in cc
stated session number remaining text (word ∷ words) found = by_word (short_word_of word) found
  where
    by_request : (request : Option Request) → States session text (option_map (makes_request number) request) → remaining ≡ text
    by_request None e = let nothing : None ≡ Some (makes_statement session text) = e in cc
    by_request (Some request) e = let other : Some (makes_request number request) ≡ Some (makes_statement session text) = e in cc

    by_word : (short : Option ShortWord) → States session text (form_in number remaining short words) → remaining ≡ text
    by_word (Some short) e = by_request (request_by short remaining words) e
    by_word None e = ap text_in e

after_session : (session : ℕ) (first remaining text : Txt) → States session text (session_form first remaining) → remaining ≡ text
after_session session first remaining text found = by_number (numeral_value 0 session_limit first) found
  where
    by_number : (number : Option ℕ) → States session text (number >>= λ n. form_with n remaining (words_of remaining)) → remaining ≡ text
    by_number None e = let nothing : None ≡ Some (makes_statement session text) = e in cc
    by_number (Some number) e = stated session number remaining text (words_of remaining) e

after_first_word : (session : ℕ) (first remaining text : Txt) → States session text (form_by first remaining) → remaining ≡ text
after_first_word session first remaining text found = by_at (bytes_eq (codes "at") (lower_case first)) found
  where
    by_moment : (moment : Option Txt) → States session text (moment >>= λ m. Some (sets_clock m)) → remaining ≡ text
    by_moment None e = let nothing : None ≡ Some (makes_statement session text) = e in cc
    by_moment (Some moment) e = let other : Some (sets_clock moment) ≡ Some (makes_statement session text) = e in cc

    by_at : (at : Bool) → States session text (if at then at_of remaining else session_form first remaining) → remaining ≡ text
    by_at true e = by_moment (only (words_of remaining)) e
    by_at false e = after_session session first remaining text e

-- a statement begins after the first space of its line
record IsRestOf (line text : Txt) : Type 0 where
  some : position_or_len is_space line < length line
  rest : after_first is_space line ≡ text

line_states : (line text : Txt) (session : ℕ) → States session text (line_form line) → IsRestOf line text
line_states line text session found = by_silence (is_silent line) found
  where
    by_space : (space : Bool) → nat_lt (position_or_len is_space line) (length line) ≡ space
        → States session text (then_some space (before_first is_space line, after_first is_space line) >>= λ (first, rest). form_by first rest) → IsRestOf line text
    by_space false there e = let nothing : None ≡ Some (makes_statement session text) = e in absurd cc
    by_space true there e = record { some = ltb-true _ _ there; rest = after_first_word session (before_first is_space line) (after_first is_space line) text e }

    by_silence : (silent : Bool) → States session text (if silent then Some says_nothing else (split_at_space line >>= λ (first, rest). form_by first rest)) → IsRestOf line text
    by_silence true e = let other : Some says_nothing ≡ Some (makes_statement session text) = e in absurd cc
    by_silence false e = by_space (nat_lt (position_or_len is_space line) (length line)) refl e

-- in a UTF-8 line, the text after a space is UTF-8
text_utf8 : (line text : Txt) → IsUtf8 line → IsRestOf line text → IsUtf8 text
text_utf8 line text utf8 is =
    let place : ℕ = position_or_len is_space line in
    let space : get_or line place 0 ≡ 32 = eqb-true (get_or line place 0) 32 (passes_at_first is_space line 0 is.some) in
    let small : get_or line place 0 < 128 = omega arith in
    subst (λ (bytes : Txt). IsUtf8 bytes) is.rest (IsUtf8-drop line (place + 1) utf8 (IsCharBoundary-after_ascii line place utf8 is.some small))

-- the form of the line, and the statement that its text is
record IsCommanded (line : Txt) (statement : Stmt) (text : Txt) : Type 0 where
  session : ℕ
  form : line_form line ≡ Some (makes_statement session text)
  found : statement_in text ≡ Ok statement

by_statement : (line : Txt) (number : ℕ) (remaining : Txt) (who : Speaker) (statement : Stmt) (text : Txt) (read : Result Stmt Refusal) → line_form line ≡ Some (makes_statement number remaining) → statement_in remaining ≡ read
    → state_command (speaker_at number) remaining read ≡ make_statement who statement text → IsCommanded line statement text
by_statement line number remaining who statement text (Ok other) form found is =
    let same : make_statement (speaker_at number) other remaining ≡ make_statement who statement text = is in
    let statements : other ≡ statement = cc in
    let texts : remaining ≡ text = cc in
    record {
      session = number;
      form = form ∙ (λ i. Some (makes_statement number (texts i)));
      found = subst (λ (text : Txt). statement_in text ≡ Ok statement) texts (found ∙ (λ i. Ok (statements i)));
    }
by_statement line number remaining who statement text (Err refusal) form found is = let other : wrong (speaker_at number) refusal ≡ make_statement who statement text = is in absurd cc

by_moment : (line : Txt) (moment : Option Moment) (who : Speaker) (statement : Stmt) (text : Txt) → clock_command moment ≡ make_statement who statement text → IsCommanded line statement text
by_moment line None who statement text is = absurd cc
by_moment line (Some moment) who statement text is = absurd cc

by_form : (line : Txt) (form : Option Form) (who : Speaker) (statement : Stmt) (text : Txt) → line_form line ≡ form → command_by form ≡ make_statement who statement text → IsCommanded line statement text
by_form line None who statement text form is = absurd cc
by_form line (Some says_nothing) who statement text form is = absurd cc
by_form line (Some (sets_clock moment)) who statement text form is = by_moment line (moment_in moment) who statement text is
by_form line (Some (makes_request number request)) who statement text form is = absurd cc
by_form line (Some (makes_statement number remaining)) who statement text form is = by_statement line number remaining who statement text (statement_in remaining) form refl is

-- the tokens of a text, and the statement that they form
record IsRead (text : Txt) (statement : Stmt) : Type 0 where
  tokens : List Token
  cut : outcome_of text ≡ Ok tokens
  words : words_check tokens ≡ Ok tt
  found : statement_of tokens ≡ Some statement

by_words : (text : Txt) (tokens : List Token) (statement : Stmt) (checked : Result (Unit {0}) SyntaxFault) → outcome_of text ≡ Ok tokens → words_check tokens ≡ checked → statement_by tokens checked ≡ Ok statement → IsRead text statement
by_words text tokens statement (Err fault) cut words is = absurd cc
by_words text tokens statement (Ok checked) cut words is =
    elim (statement_of tokens) as (λ found. statement_of tokens ≡ found → ok_or found BadSyntax ≡ Ok statement → IsRead text statement) [
      | None ↦ λ e is. absurd cc
      | Some other ↦ λ e is. let same : other ≡ statement = cc in record { tokens = tokens; cut = cut; words = words; found = e ∙ ap Some same }
    ] refl is

by_outcome : (text : Txt) (statement : Stmt) (outcome : Result (List Token) LexFault) → outcome_of text ≡ outcome → statement_among outcome ≡ Ok statement → IsRead text statement
by_outcome text statement (Ok tokens) cut is = by_words text tokens statement (words_check tokens) cut refl is
by_outcome text statement (Err fault) cut is = absurd cc

-- the statement that a line commands is well formed, and a question in it can be read on its own
pub commands_are_written : CommandsAreWritten
commands_are_written line who statement text utf8 commands =
    let commanded = by_form line (line_form line) who statement text refl commands in
    let inside = text_utf8 line text utf8 (line_states line text commanded.session commanded.form) in
    let read = by_outcome text statement (outcome_of text) refl commanded.found in
    record {
      written = statements_are_written read.tokens statement (tokens_are_typed text read.tokens inside read.cut) read.found;
      utf8 = inside;
      shorter = (makes_statement-within line text commanded.session commanded.form).0;
      reads = λ select start end asks. found_read_by_themselves text read.tokens statement select start end read.cut read.words read.found asks;
    }
