-- The audit expression that is found is the grammar's.
use Rattle.std.proofs.Common.{◌≡◌, ℕ, suc, ◌<◌, Bool, List, [], ◌∷◌, length, Option, Some, None, refl, arith}
use Rattle.std.proofs.lemmas.Option.{none-some, some_pair_parts}
use Rattle.hippo_model.specs.declared.audit.Pair.{Pair}
use Rattle.hippo_stmt_ast.specs.declared.statement.RawAudit.{RawAudit}
use Rattle.hippo_stmt_ast.specs.declared.statement.RawColumn.{RawColumn}
use Rattle.hippo_values.specs.declared.keywords.Keyword.TheVariants.{KAudit, KDuring, KFrom, KOtherthan, KShown, KTo, KWhere}
use Rattle.hippo_lexer.specs.declared.kinds.Symbol.TheVariants.{Comma, LeftParen, RightParen, Semicolon}
use Rattle.hippo_lexer.specs.declared.kinds.TokenKind.{TokenKind}
use Rattle.hippo_lexer.specs.declared.kinds.TokenKind.TheVariants.{Keyword, Quoted, Symbol}
use Rattle.hippo_spj_reader.specs.ConditionGrammar.{RawCond, IsColumn, bare, qualified}
use Rattle.hippo_spj_reader.specs.ConditionFinder.{leading_column}
use Rattle.hippo_spj_reader.specs.Front.{after_keyword, after_symbol, leading_name}
use Rattle.hippo_spj_reader.specs.ListGrammar.{IsListOf, last_part, more_parts}
use Rattle.hippo_spj_reader.specs.ListFinder.{leading_list}
use Rattle.hippo_spj_reader.specs.SelectGrammar.{IsWhere, no_where, condition}
use Rattle.hippo_spj_reader.specs.SelectFinder.{leading_where}
use Rattle.hippo_spj_reader.proofs.FrontTheorem.{found_then, keyword_then, symbol_then, name_then, keyword_choice, after_symbol-some, read_as}
use Rattle.hippo_spj_reader.proofs.ListTheorem.{parts_found, list_complete}
use Rattle.hippo_spj_reader.proofs.NameTheorem.{names_found, names_complete, columns_found, columns_complete}
use Rattle.hippo_spj_reader.proofs.SelectTheorem.{where_found, where_complete}
use Rattle.hippo_spj_reader.proofs.ConditionTheorem.{Ends}
use Rattle.hippo_audit_reader.specs.declared.audits.Period.{Period}
use Rattle.hippo_audit_reader.specs.AuditGrammar.{IsPair, pair, AreExempt, none_exempt, otherthan, IsShown, all_cells, shown_cells, IsAudit, audit_expression}
use Rattle.hippo_audit_reader.specs.AuditFinder.{leading_quoted, leading_pair, leading_exempt, period_of, leading_period, leading_shown, audit_with, leading_audit}

leading_quoted-some : (tokens rest : List TokenKind) (text : List ℕ) → leading_quoted tokens ≡ Some (text, rest) → tokens ≡ Quoted text ∷ rest
leading_quoted-some (Quoted first ∷ remaining) rest text e = let p = some_pair_parts first text remaining rest e in rw (p.0, p.1) refl
leading_quoted-some _ rest text e = absurd (none-some _ e)

pair_found : (tokens : List TokenKind) (p : Pair) (rest : List TokenKind) → leading_pair tokens ≡ Some (p, rest) → IsPair tokens p rest
unfolding leading_pair
pair_found tokens p rest e =
    symbol_then LeftParen tokens _ _ e (λ inside is_open e.
    name_then inside _ _ e (λ purpose remaining is_purpose e.
    symbol_then Comma remaining _ _ e (λ after is_comma e.
    name_then after _ _ e (λ recipient last is_recipient e.
    symbol_then RightParen last _ _ e (λ left is_close e.
    rw (is_open, is_purpose, is_comma, is_recipient, is_close) (read_as IsPair _ _ _ _ _ e pair))))))

pair_complete : (tokens : List TokenKind) (p : Pair) (rest : List TokenKind) → IsPair tokens p rest → Unit {0} → leading_pair tokens ≡ Some (p, rest)
unfolding leading_pair
pair_complete tokens p rest pair follows = refl

pair_shorter : (tokens : List TokenKind) (p : Pair) (rest : List TokenKind) → IsPair tokens p rest → length rest < length tokens
pair_shorter tokens p rest pair = omega arith

exempt_found : (tokens : List TokenKind) (pairs : List Pair) (rest : List TokenKind) → leading_exempt tokens ≡ Some (pairs, rest) → AreExempt tokens pairs rest
unfolding leading_exempt
exempt_found tokens pairs rest e =
    keyword_choice KOtherthan tokens _ _ _ e
    (λ remaining is_otherthan e. rw is_otherthan (otherthan
    (parts_found leading_pair (after_symbol Comma) IsPair (Symbol Comma) (IsListOf IsPair (Symbol Comma)) pair_found (after_symbol-some Comma)
    (λ _ _ _ d. last_part d) (λ _ _ _ _ _ d ds. more_parts d ds) (suc (length remaining)) remaining pairs rest e)))
    (λ _ e. read_as AreExempt tokens _ _ _ _ e none_exempt)

exempt_complete : (tokens : List TokenKind) (pairs : List Pair) (rest : List TokenKind) → AreExempt tokens pairs rest → after_symbol Comma rest ≡ None → after_keyword KOtherthan rest ≡ None → leading_exempt tokens ≡ Some (pairs, rest)
unfolding leading_exempt
exempt_complete tokens pairs rest none_exempt no_comma no_otherthan = rw no_otherthan refl
exempt_complete _ pairs rest (otherthan {tokens = tokens} ds) no_comma no_otherthan =
    list_complete leading_pair (after_symbol Comma) IsPair (Symbol Comma) (λ _. Unit {0}) pair_complete (λ _. tt) (λ _ _ _ _. refl) pair_shorter tokens pairs rest ds tt no_comma

shown_found : (tokens : List TokenKind) (shown : Bool) (rest : List TokenKind) → leading_shown tokens ≡ Some (shown, rest) → IsShown tokens shown rest
unfolding leading_shown
shown_found tokens shown rest e =
    keyword_choice KShown tokens _ _ _ e
    (λ remaining is_shown e. rw is_shown (read_as IsShown _ _ _ _ _ e shown_cells))
    (λ _ e. read_as IsShown tokens _ _ _ _ e all_cells)

columns-no_shown : (tokens : List TokenKind) (columns : List RawColumn) (rest : List TokenKind) → IsListOf IsColumn (Symbol Comma) tokens columns rest → after_keyword KShown tokens ≡ None
columns-no_shown tokens columns rest (last_part bare) = refl
columns-no_shown tokens columns rest (last_part qualified) = refl
columns-no_shown tokens columns rest (more_parts bare ds) = refl
columns-no_shown tokens columns rest (more_parts qualified ds) = refl

shown_complete : (tokens : List TokenKind) (shown : Bool) (rest : List TokenKind) → IsShown tokens shown rest → after_keyword KShown rest ≡ None → leading_shown tokens ≡ Some (shown, rest)
unfolding leading_shown
shown_complete tokens shown rest all_cells no_shown = rw no_shown refl
shown_complete tokens shown rest shown_cells no_shown = refl

period_then : {P : Type 0} (tokens : List TokenKind) (period : Period) (rest : List TokenKind) → leading_period tokens ≡ Some (period, rest) →
    (tokens ≡ Keyword KDuring ∷ Quoted period.from ∷ Keyword KTo ∷ Quoted period.to ∷ rest → P) → P
unfolding leading_period
period_then tokens period rest e next =
    keyword_then KDuring tokens _ _ e (λ first is_during e.
    found_then (leading_quoted first) _ _ e (λ from from_is e.
    keyword_then KTo from.1 _ _ e (λ second is_to e.
    found_then (leading_quoted second) _ _ e (λ to to_is e.
    let whole = some_pair_parts (period_of from.0 to.0) period to.1 rest e in
    next (rw (is_during, leading_quoted-some first from.1 from.0 from_is, is_to, leading_quoted-some second to.1 to.0 to_is, ← whole.0, whole.1) refl)))))

-- what is found is an audit expression of the grammar
pub found : (tokens : List TokenKind) (a : RawAudit) (rest : List TokenKind) → leading_audit tokens ≡ Some (a, rest) → IsAudit tokens a rest
unfolding leading_audit
found tokens a rest e =
    found_then (leading_period tokens) _ _ e (λ period period_is e.
    found_then (leading_exempt period.1) _ _ e (λ exempt exempt_is e.
    keyword_then KAudit exempt.1 _ _ e (λ audited is_audit e.
    found_then (leading_shown audited) _ _ e (λ shown shown_is e.
    found_then (leading_list leading_column (after_symbol Comma) shown.1) _ _ e (λ columns columns_is e.
    keyword_then KFrom columns.1 _ _ e (λ named is_from e.
    found_then (leading_list leading_name (after_symbol Comma) named) _ _ e (λ tables tables_is e.
    found_then (leading_where tables.1) _ _ e (λ last last_is e.
    period_then tokens period.0 period.1 period_is (λ is_during.
    let are_exempt : AreExempt period.1 exempt.0 (Keyword KAudit ∷ audited) = rw is_audit at (exempt_found period.1 exempt.0 exempt.1 exempt_is) in
    let are_columns : IsListOf IsColumn (Symbol Comma) shown.1 columns.0 (Keyword KFrom ∷ named) = rw is_from at (columns_found shown.1 columns.0 columns.1 columns_is) in
    rw is_during (read_as IsAudit _ _ _ _ _ e
    (audit_expression {audit = audit_with period.0 exempt.0 shown.0 columns.0 tables.0 last.0} are_exempt (shown_found audited shown.0 shown.1 shown_is) are_columns (names_found named tables.0 tables.1 tables_is) (where_found tables.1 last.0 last.1 last_is) refl)))))))))))

-- what cannot follow a whole audit expression
pub record AuditEnds (rest : List TokenKind) : Type 0 where
  pub condition_ends : Ends rest
  pub no_comma : after_symbol Comma rest ≡ None
  pub no_where : after_keyword KWhere rest ≡ None

where-no_comma : (tokens : List TokenKind) (last : Option RawCond) (rest : List TokenKind) → IsWhere tokens last rest → after_symbol Comma rest ≡ None → after_symbol Comma tokens ≡ None
where-no_comma tokens last rest no_where no_comma = no_comma
where-no_comma tokens last rest (condition d) no_comma = refl

-- nothing, or a semicolon, may follow it
pub ends-nothing : AuditEnds []
ends-nothing = record { condition_ends = record { no_dot = refl; no_and = refl; no_or = refl }; no_comma = refl; no_where = refl }

pub ends-semicolon : (rest : List TokenKind) → AuditEnds (Symbol Semicolon ∷ rest)
ends-semicolon rest = record { condition_ends = record { no_dot = refl; no_and = refl; no_or = refl }; no_comma = refl; no_where = refl }

-- the whole audit expression is found if nothing after it continues it
pub complete : (tokens : List TokenKind) (a : RawAudit) (rest : List TokenKind) → IsAudit tokens a rest → AuditEnds rest → leading_audit tokens ≡ Some (a, rest)
unfolding leading_audit leading_period
complete _ _ rest (audit_expression {audit = audit} {last = last} {tokens = tokens} {audited = audited} {listed = listed} {named = named} {remaining = remaining}
    are_exempt is_shown are_columns are_tables is_where is_whole) ends =
    rw (
      exempt_complete tokens audit.exempt (Keyword KAudit ∷ audited) are_exempt refl refl,
      shown_complete audited audit.shown listed is_shown (columns-no_shown listed audit.columns (Keyword KFrom ∷ named) are_columns),
      columns_complete listed audit.columns (Keyword KFrom ∷ named) are_columns refl refl,
      names_complete named audit.tables remaining are_tables (where-no_comma remaining last rest is_where ends.no_comma),
      where_complete remaining last rest is_where ends.condition_ends ends.no_where,
      ← is_whole,
    ) refl
