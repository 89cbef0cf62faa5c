-- The grammar of conditions. Each relation says that the tokens begin with such a part, how the
-- part reads, and what follows it.
use Rattle.std.specs.Prelude.{◌≡◌, List, [], ◌∷◌, Some, None}
use Rattle.hippo_values.specs.declared.names.Name.{Name}
use Rattle.hippo_values.specs.declared.truths.CompareOp.{CompareOp}
use Rattle.hippo_values.specs.declared.truths.CompareOp.TheVariants.{Eq, Ne, Lt, Le, Gt, Ge}
use Rattle.hippo_values.specs.declared.values.Value.{Value}
use Rattle.hippo_values.specs.declared.values.Value.TheVariants as value
use Rattle.hippo_model.specs.declared.query.CondOf.{CondOf, All, Any, Not, Compare, Between, Among, Missing}
use Rattle.hippo_stmt_ast.specs.declared.statement.RawColumn.{RawColumn}
use Rattle.hippo_stmt_ast.specs.declared.statement.RawOperand.{RawOperand}
use Rattle.hippo_stmt_ast.specs.declared.statement.RawOperand.TheVariants.{Column, Literal}
use Rattle.hippo_values.specs.declared.keywords.Keyword as words
use Rattle.hippo_values.specs.declared.keywords.Keyword.TheVariants.{KAnd, KBetween, KIn, KIs, KNot, KNull, KOr}
use Rattle.hippo_lexer.specs.declared.kinds.Symbol as signs
use Rattle.hippo_lexer.specs.declared.kinds.Symbol.TheVariants.{LeftParen, RightParen, Comma, Dot, Equal, NotEqual, Less, LessEqual, Greater, GreaterEqual}
use Rattle.hippo_lexer.specs.declared.kinds.TokenKind.TheVariants.{Word, Keyword, Number, Quoted, Day, Symbol}
use Rattle.hippo_spj_reader.specs.Front.{Kinds}
use Rattle.hippo_spj_reader.specs.ListGrammar.{IsListOf}

abbrev pub RawCond : Type 0
RawCond = CondOf RawOperand

-- column = c | t "." c
pub data IsColumn : Kinds → RawColumn → Kinds → Type 0 where
  bare : {column : Name} {rest : Kinds} →
      IsColumn (Word column ∷ rest) (record { table = None; column = column }) rest
  qualified : {table column : Name} {rest : Kinds} →
      IsColumn (Word table ∷ Symbol Dot ∷ Word column ∷ rest)
      (record { table = Some table; column = column }) rest

-- literal = number | quoted | day | NULL
pub data IsLiteral : Kinds → Value → Kinds → Type 0 where
  number : {n : _} {rest : Kinds} → IsLiteral (Number n ∷ rest) (value.Int n) rest
  quoted_literal : {text : _} {rest : Kinds} → IsLiteral (Quoted text ∷ rest) (value.Text text) rest
  day : {d : _} {rest : Kinds} → IsLiteral (Day d ∷ rest) (value.Day d) rest
  null : {rest : Kinds} → IsLiteral (Keyword KNull ∷ rest) value.Null rest

-- operand = column | literal
pub data IsOperand : Kinds → RawOperand → Kinds → Type 0 where
  column : {c : RawColumn} {tokens rest : Kinds} → IsColumn tokens c rest
      → IsOperand tokens (Column c) rest
  literal : {v : Value} {tokens rest : Kinds} → IsLiteral tokens v rest
      → IsOperand tokens (Literal v) rest

-- op = "=" | "<>" | "!=" | "<" | "<=" | ">" | ">="
pub data IsOperator : signs.Symbol → CompareOp → Type 0 where
  equal : IsOperator Equal Eq
  not_equal : IsOperator NotEqual Ne
  less : IsOperator Less Lt
  less_equal : IsOperator LessEqual Le
  greater_sign : IsOperator Greater Gt
  greater_equal : IsOperator GreaterEqual Ge

-- several parts of OR form one Any; a single part stays as it is
abbrev pub any_of : List RawCond → RawCond
any_of [] = Any []
any_of (part ∷ []) = part
any_of (part ∷ other ∷ parts) = Any (part ∷ other ∷ parts)

-- several parts of AND form one All; a single part stays as it is
abbrev pub all_of : List RawCond → RawCond
all_of [] = All []
all_of (part ∷ []) = part
all_of (part ∷ other ∷ parts) = All (part ∷ other ∷ parts)

mutual
  -- cond = conj {OR conj}
  pub data IsCondition : Kinds → RawCond → Kinds → Type 0 where
    disjunction : {condition : RawCond} {parts : List RawCond} {tokens rest : Kinds} →
        AreJoinedBy KOr tokens parts rest → condition ≡ any_of parts
        → IsCondition tokens condition rest

  -- conj = neg {AND neg}
  pub data IsConjunction : Kinds → RawCond → Kinds → Type 0 where
    conjunction : {condition : RawCond} {parts : List RawCond} {tokens rest : Kinds} →
        AreJoinedBy KAnd tokens parts rest → condition ≡ all_of parts
        → IsConjunction tokens condition rest

  -- part {keyword part}
  pub data AreJoinedBy : words.Keyword → Kinds → List RawCond → Kinds → Type 0 where
    last_joined : {keyword : words.Keyword} {part : RawCond} {tokens rest : Kinds} →
        IsJoinedBy keyword tokens part rest → AreJoinedBy keyword tokens (part ∷ []) rest
    more_joined : {keyword : words.Keyword} {part : RawCond} {parts : List RawCond}
        {tokens others rest : Kinds} →
        IsJoinedBy keyword tokens part (Keyword keyword ∷ others)
        → AreJoinedBy keyword others parts rest →
        AreJoinedBy keyword tokens (part ∷ parts) rest

  -- OR joins conjunctions, and AND negations
  pub data IsJoinedBy : words.Keyword → Kinds → RawCond → Kinds → Type 0 where
    disjunct : {part : RawCond} {tokens rest : Kinds} →
        IsConjunction tokens part rest → IsJoinedBy KOr tokens part rest
    conjunct : {part : RawCond} {tokens rest : Kinds} →
        IsNegation tokens part rest → IsJoinedBy KAnd tokens part rest

  -- neg = NOT neg | prim
  pub data IsNegation : Kinds → RawCond → Kinds → Type 0 where
    negated : {condition part : RawCond} {tokens rest : Kinds} →
        IsNegation tokens part rest → condition ≡ Not part
        → IsNegation (Keyword KNot ∷ tokens) condition rest
    plain : {condition : RawCond} {tokens rest : Kinds} →
        IsPrimary tokens condition rest → IsNegation tokens condition rest

  -- prim = "(" cond ")" | operand op operand | operand [NOT] BETWEEN operand AND operand
  --      | operand [NOT] IN "(" operand {"," operand} ")" | operand IS [NOT] NULL
  pub data IsPrimary : Kinds → RawCond → Kinds → Type 0 where
    parentheses : {condition : RawCond} {tokens rest : Kinds} →
        IsCondition tokens condition (Symbol RightParen ∷ rest)
        → IsPrimary (Symbol LeftParen ∷ tokens) condition rest
    comparison : {left right : RawOperand} {sign : signs.Symbol} {op : CompareOp}
        {tokens others rest : Kinds} →
        IsOperand tokens left (Symbol sign ∷ others) → IsOperator sign op
        → IsOperand others right rest →
        IsPrimary tokens (Compare op left right) rest
    between : {v low high : RawOperand} {tokens lows highs rest : Kinds} →
        IsOperand tokens v (Keyword KBetween ∷ lows) → IsOperand lows low (Keyword KAnd ∷ highs) →
        IsOperand highs high rest → IsPrimary tokens (Between v low high) rest
    not_between : {condition : RawCond} {v low high : RawOperand} {tokens lows highs rest : Kinds} →
        IsOperand tokens v (Keyword KNot ∷ Keyword KBetween ∷ lows)
        → IsOperand lows low (Keyword KAnd ∷ highs) →
        IsOperand highs high rest → condition ≡ Not (Between v low high)
        → IsPrimary tokens condition rest
    among : {v : RawOperand} {list : List RawOperand} {tokens others rest : Kinds} →
        IsOperand tokens v (Keyword KIn ∷ Symbol LeftParen ∷ others) →
        IsListOf IsOperand (Symbol Comma) others list (Symbol RightParen ∷ rest)
        → IsPrimary tokens (Among v list) rest
    not_among : {condition : RawCond} {v : RawOperand} {list : List RawOperand}
        {tokens others rest : Kinds} →
        IsOperand tokens v (Keyword KNot ∷ Keyword KIn ∷ Symbol LeftParen ∷ others) →
        IsListOf IsOperand (Symbol Comma) others list (Symbol RightParen ∷ rest) →
        condition ≡ Not (Among v list) → IsPrimary tokens condition rest
    missing : {v : RawOperand} {tokens rest : Kinds} →
        IsOperand tokens v (Keyword KIs ∷ Keyword KNull ∷ rest) → IsPrimary tokens (Missing v) rest
    present : {condition : RawCond} {v : RawOperand} {tokens rest : Kinds} →
        IsOperand tokens v (Keyword KIs ∷ Keyword KNot ∷ Keyword KNull ∷ rest) →
        condition ≡ Not (Missing v) → IsPrimary tokens condition rest
