-- The longest condition at the front of a list of tokens, part by part.
use Rattle.std.specs.Prelude.{ℕ, zero, suc, Bool, true, false, ◌∷◌, length, Option, Some, None, if◌then◌else◌}
use Rattle.hippo_values.specs.declared.truths.CompareOp.{CompareOp}
use Rattle.hippo_values.specs.declared.truths.CompareOp.TheVariants.{Eq, Ne, Lt, Le, Gt, Ge}
use Rattle.hippo_model.specs.declared.query.CondOf.{Not, Compare, Between, Among, Missing}
use Rattle.hippo_stmt_ast.specs.declared.statement.RawColumn.{RawColumn}
use Rattle.hippo_stmt_ast.specs.declared.statement.RawOperand.{RawOperand}
use Rattle.hippo_stmt_ast.specs.declared.statement.RawOperand.TheVariants.{Column, Literal}
use Rattle.hippo_values.specs.declared.keywords.Keyword.TheVariants.{KAnd, KBetween, KIn, KIs, KNot, KNull, KOr}
use Rattle.hippo_values.specs.Options.{◌>>=◌}
use Rattle.hippo_lexer.specs.declared.kinds.Symbol as signs
use Rattle.hippo_lexer.specs.declared.kinds.Symbol.TheVariants.{LeftParen, RightParen, Comma, Dot, Equal, NotEqual, Less, LessEqual, Greater, GreaterEqual}
use Rattle.hippo_lexer.specs.declared.kinds.TokenKind.TheVariants.{Word, Symbol}
use Rattle.hippo_spj_reader.specs.Promises.{either}
use Rattle.hippo_spj_reader.specs.Front.{Kinds, Finder, after_keyword, after_symbol, leading_name, leading_literal}
use Rattle.hippo_spj_reader.specs.ListFinder.{leading_list}
use Rattle.hippo_spj_reader.specs.ConditionGrammar.{RawCond, any_of, all_of}

abbrev pub leading_column : Finder RawColumn
leading_column tokens = do
  first ← leading_name tokens
  either (after_symbol Dot first.1) (λ remaining. do
    second ← leading_name remaining
    Some (record { table = Some first.0; column = second.0 }, second.1))
      (Some (record { table = None; column = first.0 }, first.1))

-- whether a name comes first
abbrev pub begins_with_name : Kinds → Bool
begins_with_name (Word name ∷ rest) = true
begins_with_name tokens = false

abbrev pub leading_operand : Finder RawOperand
leading_operand tokens =
    if begins_with_name tokens
    then leading_column tokens >>= (λ found. Some (Column found.0, found.1))
    else leading_literal tokens >>= λ found. Some (Literal found.0, found.1)

abbrev pub operator_of : signs.Symbol → Option CompareOp
operator_of Equal = Some Eq
operator_of NotEqual = Some Ne
operator_of Less = Some Lt
operator_of LessEqual = Some Le
operator_of Greater = Some Gt
operator_of GreaterEqual = Some Ge
operator_of sign = None

abbrev pub leading_operator : Finder CompareOp
leading_operator (Symbol sign ∷ rest) = operator_of sign >>= λ op. Some (op, rest)
leading_operator tokens = None

-- the comparison of an operand with the operand that comes first
unfoldable pub leading_comparison : RawOperand → CompareOp → Finder RawCond
leading_comparison left op tokens = do
  right ← leading_operand tokens
  Some (Compare op left right.0, right.1)

unfoldable pub leading_between : RawOperand → Finder RawCond
leading_between v tokens = do
  low ← leading_operand tokens
  remaining ← after_keyword KAnd low.1
  high ← leading_operand remaining
  Some (Between v low.0 high.0, high.1)

unfoldable pub leading_among : RawOperand → Finder RawCond
leading_among v tokens = do
  inside ← after_symbol LeftParen tokens
  list ← leading_list leading_operand (after_symbol Comma) inside
  rest ← after_symbol RightParen list.1
  Some (Among v list.0, rest)

-- the BETWEEN or IN that comes first
unfoldable pub leading_range : RawOperand → Finder RawCond
leading_range v tokens =
    either (after_keyword KBetween tokens) (leading_between v)
    (after_keyword KIn tokens >>= leading_among v)

unfoldable pub leading_null : RawOperand → Finder RawCond
leading_null v tokens =
    either (after_keyword KNot tokens) (λ remaining. do
      rest ← after_keyword KNull remaining
      Some (Not (Missing v), rest)) (do
        rest ← after_keyword KNull tokens
        Some (Missing v, rest))

abbrev pub negation : Option (RawCond × Kinds) → Option (RawCond × Kinds)
negation found = found >>= λ part. Some (Not part.0, part.1)

unfoldable pub leading_test : RawOperand → Finder RawCond
leading_test v tokens =
    either (after_keyword KNot tokens) (λ remaining. negation (leading_range v remaining))
    (either (after_keyword KIs tokens) (leading_null v)
    (either (leading_operator tokens) (λ op. leading_comparison v op.0 op.1)
    (leading_range v tokens)))

module _ (deeper : Finder RawCond) where
  abbrev pub conjunction_with : Finder RawCond
  conjunction_with tokens =
      leading_list deeper (after_keyword KAnd) tokens >>= λ parts. Some (all_of parts.0, parts.1)

  abbrev pub condition_with : Finder RawCond
  condition_with tokens =
      leading_list conjunction_with (after_keyword KOr) tokens >>=
      λ parts. Some (any_of parts.0, parts.1)

  abbrev pub primary_with : Finder RawCond
  primary_with tokens =
      either (after_symbol LeftParen tokens) (λ inside. do
        found ← condition_with inside
        rest ← after_symbol RightParen found.1
        Some (found.0, rest)) (do
          v ← leading_operand tokens
          leading_test v.0 v.1)

-- a negation with at most this many nested NOTs and parentheses
abbrev pub leading_negation : ℕ → Finder RawCond
leading_negation zero tokens = None
leading_negation (suc n) tokens =
    either (after_keyword KNot tokens) (λ remaining. negation (leading_negation n remaining))
    (primary_with (leading_negation n) tokens)

-- the longest condition at the front
unfoldable pub leading_condition : Finder RawCond
leading_condition tokens = condition_with (leading_negation (suc (length tokens))) tokens
