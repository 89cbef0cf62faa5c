-- Laws on the texts of questions.
use Rattle.std.specs.Prelude.{◌≡◌, ℕ, ◌-◌, ◌<◌, ◌≤◌, List, length, slice_range, IsUtf8, IsCharBoundary, Option, Some, None, Ok}
use Rattle.hippo_values.specs.Texts.{Txt}
use Rattle.hippo_lexer.specs.declared.kinds.Token.{Token}
use Rattle.hippo_lexer.specs.Cutting.{outcome_of}
use Rattle.hippo_lexer.specs.Grammar.{IsOutcome}
use Rattle.hippo_lexer.specs.Words.{words_check}
use Rattle.hippo_stmt_ast.specs.declared.statement.RawSelect.{RawSelect}
use Rattle.hippo_stmt_ast.specs.declared.statement.Stmt.{Stmt}
use Rattle.hippo_stmt_ast.specs.declared.statement.Stmt.TheVariants as stmt
use Rattle.hippo_stmt_reader.specs.StatementFinder.{statement_of}
use Rattle.hippo_stmt_reader.specs.StatementGrammar.{IsStatement}
use Rattle.hippo_typing_catalog.specs.Catalogs.{KnownNames}
use Rattle.hippo_typing.specs.Meanings.{IsSelectText, select_in, query_in, meaning_in}

-- the select of a SELECT, an OPEN or an EXTRACT, and where its text begins and ends
abbrev pub select_place : Stmt → Option (RawSelect × ℕ × ℕ)
select_place (stmt.Select select start end) = Some (select, start, end)
select_place (stmt.Ask select start end) = Some (select, start, end)
select_place (stmt.Extract select start end) = Some (select, start, end)
select_place statement = None

-- a text is a question: it has tokens, which pass the checks of depth and of words, and by the
-- grammar they are a statement with this select, whose text lies between these places
pub record IsQuestion (text : Txt) (select : RawSelect) (start end : ℕ) : Type 0 where
  pub tokens : List Token
  pub statement : Stmt
  pub cut : IsOutcome text (Ok tokens)
  pub words : words_check tokens ≡ Ok tt
  pub reading : IsStatement tokens statement
  pub asks : select_place statement ≡ Some (select, start, end)

-- the part between two places of a text can be cut out, is on its own the text of this select, and
-- means the query that the select means, with any names
pub record ReadsByItself (text : Txt) (select : RawSelect) (start end : ℕ) : Type 0 where
  pub some : start < end
  pub within : end ≤ length text
  pub size : length (slice_range text start end) ≡ end - start
  pub from : IsUtf8 text → IsCharBoundary text start
  pub to : IsUtf8 text → IsCharBoundary text end
  pub reading : IsSelectText (slice_range text start end) select
  pub found : select_in (outcome_of (slice_range text start end)) ≡ Some select
  pub meant : (known : KnownNames) → meaning_in known (slice_range text start end)
      ≡ query_in known select

-- the text of a question can be read on its own as the question
abbrev pub QuestionsReadByThemselves : Type 0
QuestionsReadByThemselves =
    (text : Txt) (select : RawSelect) (start end : ℕ) →
    IsQuestion text select start end → ReadsByItself text select start end

-- the text of a question that the readers find can be read on its own as the question
abbrev pub FoundQuestionsReadByThemselves : Type 0
FoundQuestionsReadByThemselves =
    (text : Txt) (tokens : List Token) (statement : Stmt) (select : RawSelect) (start end : ℕ) →
    outcome_of text ≡ Ok tokens → words_check tokens ≡ Ok tt
    → statement_of tokens ≡ Some statement →
    select_place statement ≡ Some (select, start, end) → ReadsByItself text select start end
