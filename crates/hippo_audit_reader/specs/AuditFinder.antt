-- The longest audit expression at the front of a list of tokens, part by part.
use Rattle.std.specs.Prelude.{Bool, true, false, List, [], ◌∷◌, Option, option_to_list, Some, None}
use Rattle.hippo_values.specs.Texts.{Txt}
use Rattle.hippo_values.specs.declared.names.Name.{Name}
use Rattle.hippo_model.specs.declared.audit.Pair.{Pair}
use Rattle.hippo_stmt_ast.specs.declared.statement.RawAudit.{RawAudit}
use Rattle.hippo_stmt_ast.specs.declared.statement.RawColumn.{RawColumn}
use Rattle.hippo_values.specs.declared.keywords.Keyword.TheVariants.{KAudit, KDuring, KFrom, KOtherthan, KShown, KTo}
use Rattle.hippo_values.specs.Options.{◌>>=◌}
use Rattle.hippo_lexer.specs.declared.kinds.Symbol.TheVariants.{Comma, LeftParen, RightParen}
use Rattle.hippo_lexer.specs.declared.kinds.TokenKind.TheVariants.{Quoted}
use Rattle.hippo_audit_reader.specs.declared.audits.Period.{Period}
use Rattle.hippo_spj_reader.specs.Promises.{either}
use Rattle.hippo_spj_reader.specs.ConditionGrammar.{RawCond}
use Rattle.hippo_spj_reader.specs.ConditionFinder.{leading_column}
use Rattle.hippo_spj_reader.specs.Front.{Finder, after_keyword, after_symbol, leading_name}
use Rattle.hippo_spj_reader.specs.ListFinder.{leading_list}
use Rattle.hippo_spj_reader.specs.SelectFinder.{leading_where}
use Rattle.hippo_spj_reader.specs.SelectGrammar.{whole_condition}

-- the quoted text at the front
abbrev pub leading_quoted : Finder Txt
leading_quoted (Quoted text ∷ rest) = Some (text, rest)
leading_quoted tokens = None

unfoldable pub leading_pair : Finder Pair
leading_pair tokens = do
  inside ← after_symbol LeftParen tokens
  purpose ← leading_name inside
  remaining ← after_symbol Comma purpose.1
  recipient ← leading_name remaining
  rest ← after_symbol RightParen recipient.1
  Some (record { purpose = purpose.0; recipient = recipient.0 }, rest)

unfoldable pub leading_exempt : Finder (List Pair)
leading_exempt tokens =
    either (after_keyword KOtherthan tokens) (leading_list leading_pair (after_symbol Comma))
    (Some ([], tokens))

abbrev pub period_of : Txt → Txt → Period
period_of from to = record { from = from; to = to }

unfoldable pub leading_period : Finder Period
leading_period tokens = do
  first ← after_keyword KDuring tokens
  start ← leading_quoted first
  second ← after_keyword KTo start.1
  end ← leading_quoted second
  Some (period_of start.0 end.0, end.1)

-- whether SHOWN comes first, and what follows it
unfoldable pub leading_shown : Finder Bool
leading_shown tokens =
    either (after_keyword KShown tokens) (λ rest. Some (true, rest)) (Some (false, tokens))

-- an audit from its parts; the condition, which comes last, may be absent
abbrev pub audit_with : Period → List Pair → Bool → List RawColumn → List Name → Option RawCond
    → RawAudit
audit_with period exempt shown columns tables last = record {
  from = period.from;
  to = period.to;
  exempt = exempt;
  shown = shown;
  columns = columns;
  tables = tables;
  cond = whole_condition (option_to_list last);
}

-- the longest audit expression at the front
unfoldable pub leading_audit : Finder RawAudit
leading_audit tokens = do
  period ← leading_period tokens
  exempt ← leading_exempt period.1
  audited ← after_keyword KAudit exempt.1
  shown ← leading_shown audited
  columns ← leading_list leading_column (after_symbol Comma) shown.1
  named ← after_keyword KFrom columns.1
  tables ← leading_list leading_name (after_symbol Comma) named
  last ← leading_where tables.1
  Some (audit_with period.0 exempt.0 shown.0 columns.0 tables.0 last.0, last.1)
