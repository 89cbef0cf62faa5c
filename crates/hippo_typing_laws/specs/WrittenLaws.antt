-- Laws on what lexer and grammar find.
use Rattle.std.specs.Prelude.{◌≡◌, true, List, IsUtf8, Some, Ok}
use Rattle.std.specs.List.{list_all}
use Rattle.hippo_values.specs.Texts.{Txt}
use Rattle.hippo_lexer.specs.Cutting.{outcome_of}
use Rattle.hippo_lexer.specs.declared.kinds.Token.{Token}
use Rattle.hippo_stmt_ast.specs.declared.statement.Stmt.{Stmt}
use Rattle.hippo_spj_reader.specs.Front.{kinds}
use Rattle.hippo_stmt_reader.specs.StatementFinder.{statement_of}
use Rattle.hippo_typing_laws.specs.Written.{kind_is_typed, is_written}

-- a statement found in tokens that fit their types is well formed
abbrev pub StatementsAreWritten : Type 0
StatementsAreWritten =
    (tokens : List Token) (statement : Stmt) → list_all kind_is_typed (kinds tokens) ≡ true
    → statement_of tokens ≡ Some statement → is_written statement ≡ true

-- the tokens of a text fit their types
abbrev pub TokensAreTyped : Type 0
TokensAreTyped =
    (text : Txt) (tokens : List Token) → IsUtf8 text → outcome_of text ≡ Ok tokens
    → list_all kind_is_typed (kinds tokens) ≡ true
