-- The operand that is found is the grammar's.
use Rattle.std.proofs.Common.{◌≡◌, ◌<◌, List, ◌∷◌, length, Bool, true, false, if◌then◌else◌, Some, None, refl, ap, arith}
use Rattle.std.proofs.lemmas.Option.{cond_some, none-some, same_Some, some_pair_parts}
use denote.Enum.Bare.{same_true}
use Rattle.hippo_values.specs.declared.values.Value.{Value}
use Rattle.hippo_values.specs.declared.values.Value.TheVariants as value
use Rattle.hippo_values.specs.declared.truths.CompareOp.{CompareOp}
use Rattle.hippo_stmt_ast.specs.declared.statement.RawColumn.{RawColumn}
use Rattle.hippo_stmt_ast.specs.declared.statement.RawOperand.{RawOperand}
use Rattle.hippo_stmt_ast.specs.declared.statement.RawOperand.TheVariants.{Column, Literal}
use Rattle.hippo_values.specs.contracts.keywords.Keyword as keywords
use Rattle.hippo_values.specs.declared.keywords.Keyword.TheVariants.{KNull, KNot}
use Rattle.hippo_values.specs.Options.{◌>>=◌}
use Rattle.hippo_lexer.specs.declared.kinds.Symbol as signs
use Rattle.hippo_lexer.specs.declared.kinds.Symbol.TheVariants.{Dot, LeftParen, Equal, NotEqual, Less, LessEqual, Greater, GreaterEqual}
use Rattle.hippo_lexer.specs.declared.kinds.TokenKind.{TokenKind}
use Rattle.hippo_lexer.specs.declared.kinds.TokenKind.TheVariants.{Keyword, Number, Quoted, Day, Symbol}
use Rattle.hippo_spj_reader.specs.Front.{after_keyword, after_symbol, same_keyword, leading_literal}
use Rattle.hippo_spj_reader.specs.ConditionGrammar.{IsColumn, bare, qualified, IsLiteral, number, quoted_literal, day, null, IsOperand, column, literal, IsOperator, equal, not_equal, less, less_equal, greater_sign, greater_equal}
use Rattle.hippo_spj_reader.specs.ConditionFinder.{leading_column, begins_with_name, leading_operand, operator_of, leading_operator}
use Rattle.hippo_spj_reader.proofs.FrontTheorem.{found_then, name_then, symbol_choice, read_as}

pub column_found : (tokens : List TokenKind) (c : RawColumn) (rest : List TokenKind) → leading_column tokens ≡ Some (c, rest) → IsColumn tokens c rest
column_found tokens c rest e =
    name_then tokens _ _ e (λ first remaining is_name e.
    symbol_choice Dot remaining _ _ _ e
    (λ after is_dot e. name_then after _ _ e (λ second left is_column e. rw (is_name, is_dot, is_column) (read_as IsColumn _ _ _ _ _ e qualified)))
    (λ none e. rw is_name (read_as IsColumn _ _ _ _ _ e bare)))

pub literal_found : (tokens : List TokenKind) (v : Value) (rest : List TokenKind) → leading_literal tokens ≡ Some (v, rest) → IsLiteral tokens v rest
literal_found (Number n ∷ remaining) v rest e = read_as IsLiteral _ _ _ _ _ e number
literal_found (Quoted text ∷ remaining) v rest e = read_as IsLiteral _ _ _ _ _ e quoted_literal
literal_found (Day d ∷ remaining) v rest e = read_as IsLiteral _ _ _ _ _ e day
literal_found (Keyword keyword ∷ remaining) v rest e =
    let p = cond_some (same_keyword keyword KNull) (value.Null, remaining) (v, rest) e in
    let same : keyword ≡ KNull = same_true keywords.the_type tt keyword KNull p.0 in
    rw same (read_as IsLiteral _ _ _ _ _ (ap Some p.1) null)
literal_found _ v rest e = absurd (none-some _ e)

operand_found-by : (begins : Bool) (tokens : List TokenKind) (o : RawOperand) (rest : List TokenKind) →
    (if begins then ◌>>=◌ {B = RawOperand × List TokenKind} (leading_column tokens) (λ found. Some (Column found.0, found.1)) else ◌>>=◌ {B = RawOperand × List TokenKind} (leading_literal tokens) (λ found. Some (Literal found.0, found.1))) ≡ Some (o, rest) → IsOperand tokens o rest
operand_found-by true tokens o rest e = found_then (leading_column tokens) _ _ e (λ x found e. read_as IsOperand tokens _ _ _ _ e (column (column_found tokens x.0 x.1 found)))
operand_found-by false tokens o rest e = found_then (leading_literal tokens) _ _ e (λ x found e. read_as IsOperand tokens _ _ _ _ e (literal (literal_found tokens x.0 x.1 found)))

pub operand_found : (tokens : List TokenKind) (o : RawOperand) (rest : List TokenKind) → leading_operand tokens ≡ Some (o, rest) → IsOperand tokens o rest
operand_found tokens o rest e = operand_found-by (begins_with_name tokens) tokens o rest e

operator_of-found : (sign : signs.Symbol) (op : CompareOp) → operator_of sign ≡ Some op → IsOperator sign op
operator_of-found Equal op e = rw (← same_Some _ op e) equal
operator_of-found NotEqual op e = rw (← same_Some _ op e) not_equal
operator_of-found Less op e = rw (← same_Some _ op e) less
operator_of-found LessEqual op e = rw (← same_Some _ op e) less_equal
operator_of-found Greater op e = rw (← same_Some _ op e) greater_sign
operator_of-found GreaterEqual op e = rw (← same_Some _ op e) greater_equal
operator_of-found _ op e = absurd (none-some op e)

pub operator_then : {P : Type 0} (tokens : List TokenKind) (op : CompareOp) (rest : List TokenKind) → leading_operator tokens ≡ Some (op, rest) →
    ((sign : signs.Symbol) → tokens ≡ Symbol sign ∷ rest → IsOperator sign op → P) → P
operator_then (Symbol sign ∷ remaining) op rest e next = found_then (operator_of sign) _ _ e (λ found is e.
    let whole = some_pair_parts found op remaining rest e in
    next sign (ap (λ (left : List TokenKind). Symbol sign ∷ left) whole.1) (rw whole.0 at (operator_of-found sign found is)))
operator_then _ op rest e next = absurd (none-some _ e)

pub column_complete : (tokens : List TokenKind) (c : RawColumn) (rest : List TokenKind) → IsColumn tokens c rest → after_symbol Dot rest ≡ None → leading_column tokens ≡ Some (c, rest)
column_complete tokens c rest bare ended = rw ended refl
column_complete tokens c rest qualified ended = refl

pub literal_complete : (tokens : List TokenKind) (v : Value) (rest : List TokenKind) → IsLiteral tokens v rest → leading_literal tokens ≡ Some (v, rest)
literal_complete tokens v rest number = refl
literal_complete tokens v rest quoted_literal = refl
literal_complete tokens v rest day = refl
literal_complete tokens v rest null = refl

pub operand_complete : (tokens : List TokenKind) (o : RawOperand) (rest : List TokenKind) → IsOperand tokens o rest → after_symbol Dot rest ≡ None → leading_operand tokens ≡ Some (o, rest)
operand_complete tokens o rest (column bare) ended = rw ended refl
operand_complete tokens o rest (column qualified) ended = refl
operand_complete tokens o rest (literal number) ended = refl
operand_complete tokens o rest (literal quoted_literal) ended = refl
operand_complete tokens o rest (literal day) ended = refl
operand_complete tokens o rest (literal null) ended = refl

pub operator_complete : (sign : signs.Symbol) (op : CompareOp) → IsOperator sign op → operator_of sign ≡ Some op
operator_complete sign op equal = refl
operator_complete sign op not_equal = refl
operator_complete sign op less = refl
operator_complete sign op less_equal = refl
operator_complete sign op greater_sign = refl
operator_complete sign op greater_equal = refl

pub column_shorter : (tokens : List TokenKind) (c : RawColumn) (rest : List TokenKind) → IsColumn tokens c rest → length rest < length tokens
column_shorter tokens c rest bare = omega arith
column_shorter tokens c rest qualified = omega arith

pub literal_shorter : (tokens : List TokenKind) (v : Value) (rest : List TokenKind) → IsLiteral tokens v rest → length rest < length tokens
literal_shorter tokens v rest number = omega arith
literal_shorter tokens v rest quoted_literal = omega arith
literal_shorter tokens v rest day = omega arith
literal_shorter tokens v rest null = omega arith

pub operand_shorter : (tokens : List TokenKind) (o : RawOperand) (rest : List TokenKind) → IsOperand tokens o rest → length rest < length tokens
operand_shorter tokens o rest (column c) = column_shorter tokens _ rest c
operand_shorter tokens o rest (literal l) = literal_shorter tokens _ rest l

-- an operand begins neither with a parenthesis nor with NOT
neither_stands : (tokens : List TokenKind) (o : RawOperand) (rest : List TokenKind) → IsOperand tokens o rest → (after_symbol LeftParen tokens ≡ None) × (after_keyword KNot tokens ≡ None)
neither_stands tokens o rest (column bare) = (refl, refl)
neither_stands tokens o rest (column qualified) = (refl, refl)
neither_stands tokens o rest (literal number) = (refl, refl)
neither_stands tokens o rest (literal quoted_literal) = (refl, refl)
neither_stands tokens o rest (literal day) = (refl, refl)
neither_stands tokens o rest (literal null) = (refl, refl)

pub no_parenthesis : (tokens : List TokenKind) (o : RawOperand) (rest : List TokenKind) → IsOperand tokens o rest → after_symbol LeftParen tokens ≡ None
no_parenthesis tokens o rest d = (neither_stands tokens o rest d).0

pub no_not : (tokens : List TokenKind) (o : RawOperand) (rest : List TokenKind) → IsOperand tokens o rest → after_keyword KNot tokens ≡ None
no_not tokens o rest d = (neither_stands tokens o rest d).1

-- no operator is a dot
pub no_operator-dot : (sign : signs.Symbol) (op : CompareOp) (rest : List TokenKind) → IsOperator sign op → after_symbol Dot (Symbol sign ∷ rest) ≡ None
no_operator-dot sign op rest equal = refl
no_operator-dot sign op rest not_equal = refl
no_operator-dot sign op rest less = refl
no_operator-dot sign op rest less_equal = refl
no_operator-dot sign op rest greater_sign = refl
no_operator-dot sign op rest greater_equal = refl
