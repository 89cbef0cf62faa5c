-- The text of an inserted row reads back.
use Rattle.std.proofs.Common.{◌≡◌, ◌<◌, true, [], ◌∷◌, ◌++◌, length, map, refl, ap, subst, arith, codes}
use Rattle.std.specs.List.{list_all}
use Rattle.hippo_values.specs.Texts.{Txt}
use Rattle.hippo_values.specs.declared.names.Name.{Name}
use Rattle.hippo_values.specs.declared.values.Value.{Value}
use Rattle.hippo_values.specs.declared.values.Value.TheVariants as values
use Rattle.hippo_values.specs.declared.keywords.Keyword.TheVariants.{KInsert, KInto, KValues}
use Rattle.hippo_lexer.specs.declared.kinds.Symbol.TheVariants.{Comma, LeftParen, RightParen}
use Rattle.hippo_lexer.specs.declared.kinds.TokenKind.TheVariants.{Word, Keyword, Symbol}
use Rattle.hippo_stmt_ast.specs.declared.statement.Stmt.TheVariants as stmt
use Rattle.hippo_model.specs.declared.wanted.Wanted.TheVariants.{Add}
use Rattle.hippo_model.specs.Keepable.{is_folded_name, value_is_keepable}
use Rattle.hippo_model.specs.Rows.{key_of}
use Rattle.hippo_model.specs.Terms.{Row}
use Rattle.hippo_spj_reader.specs.ConditionGrammar.{IsLiteral}
use Rattle.hippo_spj_reader.specs.Front.{Kinds}
use Rattle.hippo_spj_reader.specs.ListGrammar.{IsListOf}
use Rattle.hippo_stmt_reader.specs.StatementGrammar.{insert}
use Rattle.hippo_report.specs.Cells.{comma}
use Rattle.hippo_history_statements.specs.Telling.{literal_text, literals_text, insert_text}
use Rattle.hippo_history_laws.specs.TellingLaws.{ReadsAs, InsertsReadBack}
use Rattle.hippo_history_laws.proofs.SayingLemmas.{Says, says-blank, says-word, says-name_first, says-nothing}
use Rattle.hippo_history_laws.proofs.SpellingLemmas.{EndsLiteral, literal_said, says-literal, literal-is, says-comma, says-opening, says-closing, insert-word, into-word, values-word}
use Rattle.hippo_history_laws.proofs.ListLemmas.{later_said, says-separated_text, list-read}
use Rattle.hippo_history_laws.proofs.FitLemmas.{is_calm, calm-append, front-fit}
use Rattle.hippo_history_laws.proofs.ReadingTheorem.{console-reads}

abbrev same : Value → Value
same value = value

map-same : (row : Row) → map same row ≡ row
map-same [] = refl
map-same (value ∷ row) = ap (λ (rest : Row). value ∷ rest) (map-same row)

-- the tokens of the literals after the first, and then `)`
abbrev others : Row → Kinds
others row =
    later_said literal_text literal_said same value_is_keepable EndsLiteral comma (Symbol Comma) row
    (Symbol RightParen ∷ [])

pub literal-calm : (value : Value) → list_all is_calm (literal_said value) ≡ true
literal-calm values.Null = refl
literal-calm (values.Int number) = refl
literal-calm (values.Text text) = refl
literal-calm (values.Day day) = refl

others-calm : (row : Row) → list_all is_calm (others row) ≡ true
others-calm [] = refl
others-calm (value ∷ row) =
    calm-append (literal_said value) (others row) (literal-calm value) (others-calm row)

row-says : (value : Value) (row : Row) → list_all value_is_keepable (value ∷ row) ≡ true
    → Says (literals_text (value ∷ row) ++ codes ")") (literal_said value ++ others row)
row-says value row kept =
    says-separated_text literal_text literal_said same value_is_keepable EndsLiteral comma (Symbol Comma)
    says-literal (λ rest said more. says-comma (32 ∷ rest) said (says-blank rest said more))
    (λ rest. (refl, refl))
    value row (codes ")") (Symbol RightParen ∷ []) kept (refl, refl)
    (says-closing [] [] says-nothing)

pub insert-reads : (table : Name) (row : Row) → is_folded_name table ≡ true → 0 < length row
    → list_all value_is_keepable row ≡ true
    → ReadsAs (insert_text table row) (stmt.Insert table row)
insert-reads table [] is some kept = absurd (omega (arith, some))
insert-reads table (value ∷ row) is some kept =
    let front : Kinds =
    Keyword KInsert ∷ Keyword KInto ∷ Word table ∷ Keyword KValues ∷ Symbol LeftParen ∷ [] in
    let inside : Txt = literals_text (value ∷ row) ++ codes ")" in
    let tail : Kinds = literal_said value ++ others row in
    let says : Says (insert_text table (value ∷ row)) (front ++ tail) =
    says-word (codes "INSERT") (codes "INTO " ++ (table ++ (codes " VALUES (" ++ inside))) KInsert _
    insert-word
    (says-word (codes "INTO") (table ++ (codes " VALUES (" ++ inside)) KInto _ into-word
    (says-name_first table (codes "VALUES (" ++ inside) _ is
    (says-word (codes "VALUES") (codes "(" ++ inside) KValues _ values-word
    (says-opening inside tail (row-says value row kept))))) in
    let calm : list_all is_calm tail ≡ true =
    calm-append (literal_said value) (others row) (literal-calm value) (others-calm row) in
    let read : IsListOf IsLiteral (Symbol Comma) tail (value ∷ row) (Symbol RightParen ∷ []) =
    subst (λ (r : Row). IsListOf IsLiteral (Symbol Comma) tail r (Symbol RightParen ∷ []))
    (map-same (value ∷ row))
    (list-read literal_text literal_said same value_is_keepable EndsLiteral comma
    (Symbol Comma) IsLiteral literal-is value row (Symbol RightParen ∷ [])) in
    console-reads _ (front ++ tail) _ says
    (front-fit front tail 1 refl (omega arith) refl refl calm) (insert read)

abbrev pub inserts_read_back : InsertsReadBack
inserts_read_back history schema table row known free is some kept = record {
  statement = stmt.Insert table row;
  reads = insert-reads table row is some kept;
  wanted = Add table row (key_of schema.key row);
  wants = rw known refl;
  comes = rw free refl;
}
