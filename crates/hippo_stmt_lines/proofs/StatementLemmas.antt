-- The statement that tokens form, or why they form none.
use Rattle.std.proofs.Common.{◌≡◌, ◌⊎◌, inl, inr, List, Option, Some, None, Result, Ok, Err, refl, sym, ap, ◌∙◌}
use Rattle.std.specs.Prelude.{ℕ, ok_or}
use Rattle.std.specs.Result.{result_ok}
use Rattle.hippo_lexer.specs.declared.kinds.Token.{Token}
use Rattle.hippo_lexer.specs.declared.faults.SyntaxFault.{SyntaxFault}
use Rattle.hippo_lexer.specs.declared.faults.SyntaxFault.TheVariants as syntax
use Rattle.hippo_lexer.specs.declared.faults.LexFault.{LexFault}
use Rattle.hippo_lexer.specs.Grammar.{IsOutcome}
use Rattle.hippo_lexer.specs.Words.{words_check}
use Rattle.hippo_lexer.specs.Cutting.{outcome_of}
use Rattle.hippo_lexer.proofs.OutcomeLemmas.{outcome-one}
use Rattle.hippo_stmt_ast.specs.declared.statement.Stmt.{Stmt}
use Rattle.hippo_stmt_reader.specs.StatementFinder.{statement_of}
use Rattle.hippo_stmt_reader.specs.StatementGrammar.{IsStatement, IsRefusal}
use Rattle.hippo_stmt_reader.proofs.StatementTheorem.{found, complete}
use Rattle.hippo_report.specs.declared.refusal.Refusal.{Refusal}
use Rattle.hippo_report.specs.declared.refusal.Refusal.TheVariants.{BadSyntax, Memory}
use Rattle.hippo_stmt_lines.specs.Commands.{syntax_refusal, statement_by, statement_among, statement_in, OrMemory}
use Rattle.hippo_stmt_lines.specs.CommandLaws.{IsStatementText, StatementsAreRead}

-- a statement by the grammar is the one that is found
pub read : (tokens : List Token) (s : Stmt) → words_check tokens ≡ Ok tt → IsStatement tokens s → statement_by tokens (words_check tokens) ≡ Ok s
read tokens s passed is = rw (passed, complete tokens s is) refl

no_statement : (tokens : List Token) (one : Option Stmt) → statement_of tokens ≡ one → ((s : Stmt) → ¬ IsStatement tokens s) → ok_or one BadSyntax ≡ Err BadSyntax
no_statement tokens None is none = refl
no_statement tokens (Some s) is none = absurd (none s (found tokens s is))

-- the refusal by the grammar is the one that is reported, or out of memory
pub refused : (tokens : List Token) (fault : SyntaxFault) → IsRefusal tokens fault → OrMemory (statement_by tokens (words_check tokens)) (Err (syntax_refusal tokens fault))
refused tokens syntax.TooDeep is = inl (rw is refl)
refused tokens (syntax.Unsupported place) is = inl (rw is refl)
refused tokens syntax.BadSyntax is = inl (rw is.0 (sym (no_statement tokens (statement_of tokens) refl is.1)))
refused tokens syntax.Memory is = inr refl

-- the refusal that is made is that one, or out of memory
pub told : (tokens : List Token) (fault : SyntaxFault) (made : Refusal) → (made ≡ syntax_refusal tokens fault) ⊎ (made ≡ Memory) → OrMemory (statement_by tokens (words_check tokens)) (Err (syntax_refusal tokens fault)) → OrMemory (statement_by tokens (words_check tokens)) (Err made)
told tokens fault made (inr short) is = inr (ap Err short)
told tokens fault made (inl same) (inl is) = inl (ap Err same ∙ is)
told tokens fault made (inl same) (inr is) = inr (ap Err same ∙ is)

some_of : (one : Option Stmt) (s : Stmt) → ok_or one BadSyntax ≡ Ok s → one ≡ Some s
some_of None s e = absurd cc
some_of (Some other) s e = ap result_ok e

by_words : (text : List ℕ) (tokens : List Token) (checked : Result (Unit {0}) SyntaxFault) (s : Stmt) → IsOutcome text (Ok tokens) → words_check tokens ≡ checked → statement_by tokens checked ≡ Ok s → IsStatementText text s
by_words text tokens (Ok tt) s cut is e = record { tokens = tokens; cut = cut; words = is; reading = found tokens s (some_of (statement_of tokens) s e) }
by_words text tokens (Err fault) s cut is e = absurd cc

in_outcome : (text : List ℕ) (outcome : Result (List Token) LexFault) (s : Stmt) → IsOutcome text outcome → statement_among outcome ≡ Ok s → IsStatementText text s
in_outcome text (Ok tokens) s cut e = by_words text tokens (words_check tokens) s cut refl e
in_outcome text (Err fault) s cut e = absurd cc

out_of : (text : List ℕ) (s : Stmt) → IsStatementText text s → statement_in text ≡ Ok s
out_of text s is = rw (sym ((outcome-one text).1 (Ok is.tokens) is.cut), is.words, complete is.tokens s is.reading) refl

pub statements_are_read : StatementsAreRead
statements_are_read text s = (λ e. in_outcome text (outcome_of text) s (outcome-one text).0 e, out_of text s)
