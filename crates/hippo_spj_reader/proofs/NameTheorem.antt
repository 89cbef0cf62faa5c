-- The lists of names and of columns that are found are the grammar's.
use Rattle.std.proofs.Common.{◌≡◌, ℕ, suc, ◌<◌, List, length, Some, None, refl, arith}
use Rattle.hippo_lexer.specs.declared.kinds.Symbol.TheVariants.{Comma, Dot}
use Rattle.hippo_lexer.specs.declared.kinds.TokenKind.{TokenKind}
use Rattle.hippo_lexer.specs.declared.kinds.TokenKind.TheVariants.{Symbol}
use Rattle.hippo_stmt_ast.specs.declared.statement.RawColumn.{RawColumn}
use Rattle.hippo_spj_reader.specs.ConditionGrammar.{IsColumn}
use Rattle.hippo_spj_reader.specs.ConditionFinder.{leading_column}
use Rattle.hippo_spj_reader.specs.Front.{after_symbol, leading_name}
use Rattle.hippo_spj_reader.specs.ListGrammar.{IsName, name, IsListOf, last_part, more_parts}
use Rattle.hippo_spj_reader.specs.ListFinder.{leading_list}
use Rattle.hippo_spj_reader.proofs.FrontTheorem.{leading_name-some, after_symbol-some}
use Rattle.hippo_spj_reader.proofs.ListTheorem.{parts_found, list_complete}
use Rattle.hippo_spj_reader.proofs.OperandTheorem.{column_found, column_complete, column_shorter}

abbrev pub AreNames : List TokenKind → List (List ℕ) → List TokenKind → Type 0
AreNames tokens names rest = IsListOf IsName (Symbol Comma) tokens names rest

pub name_found : (tokens : List TokenKind) (n : List ℕ) (rest : List TokenKind) → leading_name tokens ≡ Some (n, rest) → IsName tokens n rest
name_found tokens n rest e = rw (leading_name-some tokens rest n e) name

name_complete : (tokens : List TokenKind) (n : List ℕ) (rest : List TokenKind) → IsName tokens n rest → Unit {0} → leading_name tokens ≡ Some (n, rest)
name_complete tokens n rest name follows = refl

name_shorter : (tokens : List TokenKind) (n : List ℕ) (rest : List TokenKind) → IsName tokens n rest → length rest < length tokens
name_shorter tokens n rest name = omega arith

pub names_found : (tokens : List TokenKind) (names : List (List ℕ)) (rest : List TokenKind) → leading_list leading_name (after_symbol Comma) tokens ≡ Some (names, rest) → AreNames tokens names rest
names_found tokens names rest e =
    parts_found leading_name (after_symbol Comma) IsName (Symbol Comma) (IsListOf IsName (Symbol Comma)) name_found (after_symbol-some Comma)
    (λ _ _ _ d. last_part d) (λ _ _ _ _ _ d ds. more_parts d ds) (suc (length tokens)) tokens names rest e

pub names_complete : (tokens : List TokenKind) (names : List (List ℕ)) (rest : List TokenKind) → AreNames tokens names rest → after_symbol Comma rest ≡ None → leading_list leading_name (after_symbol Comma) tokens ≡ Some (names, rest)
names_complete tokens names rest d no_comma =
    list_complete leading_name (after_symbol Comma) IsName (Symbol Comma) (λ _. Unit {0}) name_complete (λ _. tt) (λ _ _ _ _. refl) name_shorter tokens names rest d tt no_comma

pub columns_found : (tokens : List TokenKind) (columns : List RawColumn) (rest : List TokenKind) → leading_list leading_column (after_symbol Comma) tokens ≡ Some (columns, rest) → IsListOf IsColumn (Symbol Comma) tokens columns rest
columns_found tokens columns rest e =
    parts_found leading_column (after_symbol Comma) IsColumn (Symbol Comma) (IsListOf IsColumn (Symbol Comma)) column_found (after_symbol-some Comma)
    (λ _ _ _ d. last_part d) (λ _ _ _ _ _ d ds. more_parts d ds) (suc (length tokens)) tokens columns rest e

pub columns_complete : (tokens : List TokenKind) (columns : List RawColumn) (rest : List TokenKind) → IsListOf IsColumn (Symbol Comma) tokens columns rest → after_symbol Dot rest ≡ None → after_symbol Comma rest ≡ None →
    leading_list leading_column (after_symbol Comma) tokens ≡ Some (columns, rest)
columns_complete tokens columns rest ds no_dot no_comma =
    list_complete leading_column (after_symbol Comma) IsColumn (Symbol Comma) (λ rest. after_symbol Dot rest ≡ None) column_complete (λ _. refl) (λ _ _ _ _. refl) column_shorter tokens columns rest ds no_dot no_comma
