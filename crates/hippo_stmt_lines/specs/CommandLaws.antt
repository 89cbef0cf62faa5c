-- Laws on the reading of lines.
use Rattle.std.specs.Prelude.{◌≡◌, ◌↔◌, List, Ok}
use Rattle.hippo_values.specs.Texts.{Txt}
use Rattle.hippo_values_text.specs.Dates.{IsMomentText}
use Rattle.hippo_values.specs.declared.moments.Moment.{Moment}
use Rattle.std.specs.Prelude.{Some}
use Rattle.hippo_lexer.specs.declared.kinds.Token.{Token}
use Rattle.hippo_lexer.specs.Grammar.{IsOutcome}
use Rattle.hippo_lexer.specs.Words.{words_check}
use Rattle.hippo_stmt_ast.specs.declared.statement.Stmt.{Stmt}
use Rattle.hippo_stmt_reader.specs.StatementGrammar.{IsStatement}
use Rattle.hippo_stmt_lines.specs.Moments.{moment_in}
use Rattle.hippo_stmt_lines.specs.Commands.{statement_in}

-- a text is a statement: it has tokens, which pass the checks of depth and of words, and by the
-- grammar all of them form this statement
pub record IsStatementText (text : Txt) (stmt : Stmt) : Type 0 where
  pub tokens : List Token
  pub cut : IsOutcome text (Ok tokens)
  pub words : words_check tokens ≡ Ok tt
  pub reading : IsStatement tokens stmt

-- the statement that is found in a text is the one that the text is by the grammar
abbrev pub StatementsAreRead : Type 0
StatementsAreRead =
    (text : Txt) (stmt : Stmt) → (statement_in text ≡ Ok stmt) ↔ IsStatementText text stmt

-- the moment that is found in a text is the one that the text writes
abbrev pub MomentsAreRead : Type 0
MomentsAreRead =
    (text : Txt) (moment : Moment) → (moment_in text ≡ Some moment) ↔ IsMomentText text moment
