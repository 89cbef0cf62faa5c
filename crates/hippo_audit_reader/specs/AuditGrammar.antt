-- The grammar of audit expressions. Each relation says that the tokens begin with such a part, how
-- the part reads, and what follows it.
use Rattle.std.specs.Prelude.{◌≡◌, Bool, true, false, List, [], ◌∷◌, Option, option_to_list}
use Rattle.hippo_values.specs.declared.names.Name.{Name}
use Rattle.hippo_model.specs.declared.audit.Pair.{Pair}
use Rattle.hippo_stmt_ast.specs.declared.statement.RawAudit.{RawAudit}
use Rattle.hippo_values.specs.declared.keywords.Keyword.TheVariants.{KAudit, KDuring, KFrom, KOtherthan, KShown, KTo}
use Rattle.hippo_lexer.specs.declared.kinds.Symbol.TheVariants.{Comma, LeftParen, RightParen}
use Rattle.hippo_lexer.specs.declared.kinds.TokenKind.TheVariants.{Word, Keyword, Quoted, Symbol}
use Rattle.hippo_spj_reader.specs.Front.{Kinds}
use Rattle.hippo_spj_reader.specs.ConditionGrammar.{RawCond, IsColumn}
use Rattle.hippo_spj_reader.specs.ListGrammar.{IsName, IsListOf}
use Rattle.hippo_spj_reader.specs.SelectGrammar.{IsWhere, whole_condition}

-- pair = "(" p "," r ")"
pub data IsPair : Kinds → Pair → Kinds → Type 0 where
  pair : {purpose recipient : Name} {rest : Kinds} →
      IsPair (Symbol LeftParen ∷ Word purpose ∷ Symbol Comma ∷ Word recipient ∷ Symbol RightParen
      ∷ rest)
      (record { purpose = purpose; recipient = recipient }) rest

-- [OTHERTHAN pair {"," pair}]
pub data AreExempt : Kinds → List Pair → Kinds → Type 0 where
  none_exempt : {rest : Kinds} → AreExempt rest [] rest
  otherthan : {pairs : List Pair} {tokens rest : Kinds} →
      IsListOf IsPair (Symbol Comma) tokens pairs rest
      → AreExempt (Keyword KOtherthan ∷ tokens) pairs rest

-- [SHOWN]
pub data IsShown : Kinds → Bool → Kinds → Type 0 where
  all_cells : {rest : Kinds} → IsShown rest false rest
  shown_cells : {rest : Kinds} → IsShown (Keyword KShown ∷ rest) true rest

-- audit = DURING quoted TO quoted [OTHERTHAN pair {"," pair}]
--         AUDIT [SHOWN] column {"," column} FROM t {"," t} [WHERE cond]
pub data IsAudit : Kinds → RawAudit → Kinds → Type 0 where
  audit_expression : {audit : RawAudit} {last : Option RawCond}
      {tokens audited listed named remaining rest : Kinds} →
      AreExempt tokens audit.exempt (Keyword KAudit ∷ audited) →
      IsShown audited audit.shown listed →
      IsListOf IsColumn (Symbol Comma) listed audit.columns (Keyword KFrom ∷ named) →
      IsListOf IsName (Symbol Comma) named audit.tables remaining →
      IsWhere remaining last rest →
      audit.cond ≡ whole_condition (option_to_list last) →
      IsAudit (Keyword KDuring ∷ Quoted audit.from ∷ Keyword KTo ∷ Quoted audit.to ∷ tokens) audit
      rest
