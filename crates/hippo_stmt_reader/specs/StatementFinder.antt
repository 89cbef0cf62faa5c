-- The statement that can be found in a list of tokens, part by part.
use Rattle.std.specs.Prelude.{ℕ, ℤ, pos, ◌-◌, Bool, true, false, ◌&&◌, nat_lt, nat_le, List, [], ◌∷◌, length, take, drop, Option, Some, None, slice_get, if◌then◌else◌, codes}
use Rattle.hippo_values.specs.declared.names.Name.{Name}
use Rattle.hippo_values.specs.Limits.{retention_limit}
use Rattle.hippo_values.specs.declared.values.Value.{Value}
use Rattle.hippo_model.specs.declared.entry.ItemKind.{ItemKind}
use Rattle.hippo_model.specs.declared.entry.ItemKind.TheVariants.{OptIn, OptOut}
use Rattle.hippo_model.specs.declared.schema.Column.{Column}
use Rattle.hippo_model.specs.declared.schema.ColumnKind.{ColumnKind}
use Rattle.hippo_model.specs.declared.schema.ColumnKind.TheVariants as kind
use Rattle.hippo_stmt_ast.specs.declared.statement.RawSelect.{RawSelect}
use Rattle.hippo_stmt_ast.specs.declared.statement.Stmt.{Stmt}
use Rattle.hippo_stmt_ast.specs.declared.statement.Stmt.TheVariants as stmt
use Rattle.hippo_values.specs.declared.keywords.Keyword as words
use Rattle.hippo_values.specs.declared.keywords.Keyword.TheVariants.{KAllow, KAnd, KAudit, KAuthorize, KBegin, KChoice, KCreate, KDate, KDeauthorize, KDelete, KDuring, KExplain, KFor, KFrom, KIn, KInsert, KInteger, KInto, KIs, KItem, KKey, KNo, KNot, KNull, KOn, KOpen, KOpt, KOut, KPrimary, KPurpose, KRecipient, KRevoke, KSelect, KSet, KSubject, KTable, KText, KTo, KUpdate, KValues, KWhere, KWith, KYes}
use Rattle.hippo_values.specs.Options.{◌>>=◌}
use Rattle.hippo_lexer.specs.declared.kinds.Symbol.TheVariants.{Comma, Equal, LeftParen, RightParen, Semicolon}
use Rattle.hippo_lexer.specs.declared.kinds.Token.{Token}
use Rattle.hippo_lexer.specs.declared.kinds.TokenKind.TheVariants.{Keyword, Number}
use Rattle.hippo_spj_reader.specs.Promises.{either}
use Rattle.hippo_spj_reader.specs.ConditionFinder.{begins_with_name}
use Rattle.hippo_spj_reader.specs.Front.{Kinds, Finder, kinds, after_keyword, after_symbol, after_word, leading_name, leading_literal}
use Rattle.hippo_spj_reader.specs.ListFinder.{leading_list}
use Rattle.hippo_spj_reader.specs.SelectFinder.{leading_select}
use Rattle.hippo_audit_reader.specs.AuditFinder.{leading_audit}
use Rattle.hippo_stmt_reader.specs.declared.changes.Assignments.{Assignments}
use Rattle.hippo_stmt_reader.specs.declared.policies.Disclosure.{Disclosure}
use Rattle.hippo_stmt_reader.specs.declared.policies.Grantee.{Grantee}
use Rattle.hippo_stmt_reader.specs.StatementGrammar.{assigned_columns, assigned_values}

abbrev pub nothing_left : Kinds → Option (Unit {0})
nothing_left [] = Some tt
nothing_left (first ∷ rest) = None

-- an optional ";", then nothing
abbrev pub end_left : Kinds → Option (Unit {0})
end_left tokens = either (after_symbol Semicolon tokens) nothing_left (nothing_left tokens)

-- what was read, if the statement ends after it
abbrev pub with_end : {A : Type 0} → A → Kinds → Option A
with_end read tokens = end_left tokens >>= λ end. Some read

-- a statement of one part, if the statement ends after that part
abbrev pub of_part : {A : Type 0} → (A → Stmt) → Option (A × Kinds) → Option Stmt
of_part statement part = part >>= λ read. with_end (statement read.0) read.1

-- the value of whichever of two keywords comes first
abbrev pub one_of : {A : Type 0} → words.Keyword → A → words.Keyword → A → Finder A
one_of first a second b tokens =
    either (after_keyword first tokens) (λ rest. Some (a, rest))
    (after_keyword second tokens >>= λ rest. Some (b, rest))

abbrev pub column_kind_of : words.Keyword → Option ColumnKind
column_kind_of KInteger = Some kind.Integer
column_kind_of KText = Some kind.Text
column_kind_of KDate = Some kind.Date
column_kind_of keyword = None

abbrev pub leading_column_kind : Finder ColumnKind
leading_column_kind (Keyword keyword ∷ rest) = column_kind_of keyword >>= λ k. Some (k, rest)
leading_column_kind tokens = None

unfoldable pub leading_column_def : Finder Column
leading_column_def tokens = do
  name ← leading_name tokens
  k ← leading_column_kind name.1
  either (after_keyword KNot k.1) (λ remaining. do
    rest ← after_keyword KNull remaining
    Some (record { name = name.0; kind = k.0; not_null = true }, rest))
      (Some (record { name = name.0; kind = k.0; not_null = false }, k.1))

-- what follows a comma, if a further column does
abbrev pub after_column : Kinds → Option (Kinds)
after_column tokens =
    after_symbol Comma tokens
    >>= λ remaining. if begins_with_name remaining then Some remaining else None

-- the name after this keyword
abbrev pub leading_name_after : words.Keyword → Finder Name
leading_name_after keyword tokens = after_keyword keyword tokens >>= leading_name

-- "(" c {"," c} ")"
unfoldable pub leading_names : Finder (List Name)
leading_names tokens = do
  inside ← after_symbol LeftParen tokens
  names ← leading_list leading_name (after_symbol Comma) inside
  rest ← after_symbol RightParen names.1
  Some (names.0, rest)

unfoldable pub leading_subject : Finder (Option Name)
leading_subject tokens =
    either (after_symbol Comma tokens) (λ remaining. do
      named ← after_keyword KSubject remaining
      c ← leading_name named
      Some (Some c.0, c.1)) (Some (None, tokens))

unfoldable pub leading_with_item : Finder (Option Name)
leading_with_item tokens =
    either (after_keyword KWith tokens) (λ remaining. leading_name remaining >>=
    λ i. Some (Some i.0, i.1))
    (Some (None, tokens))

-- the number at the front
abbrev pub leading_number : Finder ℤ
leading_number (Number n ∷ rest) = Some (n, rest)
leading_number tokens = None

-- a number of days, from 1 to the limit
abbrev pub days_of : ℤ → Option ℕ
days_of (pos days) = if nat_lt 0 days && nat_le days retention_limit then Some days else None
days_of number = None

unfoldable pub leading_retention : Finder (Option ℕ)
leading_retention tokens =
    either (after_word (codes "retain") tokens) (λ remaining. do
      number ← leading_number remaining
      days ← days_of number.0
      rest ← after_word (codes "days") number.1
      Some (Some days, rest)) (Some (None, tokens))

unfoldable pub leading_assignment : Finder (Name × Value)
leading_assignment tokens = do
  c ← leading_name tokens
  remaining ← after_symbol Equal c.1
  v ← leading_literal remaining
  Some ((c.0, v.0), v.1)

abbrev pub assignments_of : List (Name × Value) → Assignments
assignments_of list = record { columns = assigned_columns list; values = assigned_values list }

-- the assignments after this keyword, with this separator
abbrev pub leading_assigned : words.Keyword → (Kinds → Option Kinds) → Finder Assignments
leading_assigned keyword after tokens = do
  remaining ← after_keyword keyword tokens
  found ← leading_list leading_assignment after remaining
  Some (assignments_of found.0, found.1)

-- the rest of CREATE TABLE
unfoldable pub create_table_of : Kinds → Option Stmt
create_table_of tokens = do
  table ← leading_name tokens
  defs ← after_symbol LeftParen table.1
  columns ← leading_list leading_column_def after_column defs
  a ← after_symbol Comma columns.1
  b ← after_keyword KPrimary a
  c ← after_keyword KKey b
  key ← leading_names c
  subject ← leading_subject key.1
  rest ← after_symbol RightParen subject.1
  with_end (stmt.CreateTable table.0 columns.0 key.0 subject.0) rest

-- the rest of CREATE PURPOSE
unfoldable pub create_purpose_of : Kinds → Option Stmt
create_purpose_of tokens = of_part stmt.CreatePurpose (leading_name tokens)

-- the rest of CREATE RECIPIENT
unfoldable pub create_recipient_of : Kinds → Option Stmt
create_recipient_of tokens = of_part stmt.CreateRecipient (leading_name tokens)

-- the rest of CREATE ITEM
unfoldable pub create_item_of : Kinds → Option Stmt
create_item_of tokens = do
  item ← leading_name tokens
  remaining ← after_keyword KOpt item.1
  k ← one_of KIn OptIn KOut OptOut remaining
  with_end (stmt.CreateItem item.0 k.0) k.1

-- the rest of CREATE
unfoldable pub create_of : Kinds → Option Stmt
create_of tokens =
    either (after_keyword KTable tokens) create_table_of
    (either (after_keyword KPurpose tokens) create_purpose_of
    (either (after_keyword KRecipient tokens) create_recipient_of
    (after_keyword KItem tokens >>= create_item_of)))

-- u FOR p "," r
unfoldable pub leading_grant : Finder Grantee
leading_grant tokens = do
  user ← leading_name tokens
  purpose ← leading_name_after KFor user.1
  remaining ← after_symbol Comma purpose.1
  recipient ← leading_name remaining
  Some (record { user = user.0; purpose = purpose.0; recipient = recipient.0 }, recipient.1)

-- AUTHORIZE if the grant is given, otherwise DEAUTHORIZE
abbrev pub grant_statement : Bool → Grantee → Stmt
grant_statement is_given grant =
    if is_given then stmt.Authorize grant.user grant.purpose grant.recipient
    else stmt.Deauthorize grant.user grant.purpose grant.recipient

-- the rest of AUTHORIZE if the grant is given, otherwise of DEAUTHORIZE
unfoldable pub authorization_of : Bool → Kinds → Option Stmt
authorization_of is_given tokens = of_part (grant_statement is_given) (leading_grant tokens)

abbrev pub disclosure_of : Name → Name → Name → List Name → Disclosure
disclosure_of purpose recipient table columns =
    record { purpose = purpose; recipient = recipient; table = table; columns = columns }

-- p TO r ON t "(" c {"," c} ")"
unfoldable pub leading_disclosure : Finder Disclosure
leading_disclosure tokens = do
  purpose ← leading_name tokens
  recipient ← leading_name_after KTo purpose.1
  table ← leading_name_after KOn recipient.1
  columns ← leading_names table.1
  Some (disclosure_of purpose.0 recipient.0 table.0 columns.0, columns.1)

-- the rest of ALLOW
unfoldable pub allow_of : Kinds → Option Stmt
allow_of tokens = do
  rule ← leading_disclosure tokens
  item ← leading_with_item rule.1
  days ← leading_retention item.1
  with_end (stmt.Allow rule.0.purpose rule.0.recipient rule.0.table rule.0.columns item.0 days.0)
      days.1

-- the rest of REVOKE
unfoldable pub revoke_of : Kinds → Option Stmt
revoke_of tokens = do
  rule ← leading_disclosure tokens
  with_end (stmt.Revoke rule.0.purpose rule.0.recipient rule.0.table rule.0.columns) rule.1

-- the rest of CHOICE
unfoldable pub choice_of : Kinds → Option Stmt
choice_of tokens = do
  n ← leading_number tokens
  a ← after_keyword KOn n.1
  item ← leading_name a
  b ← after_keyword KIs item.1
  said ← one_of KYes true KNo false b
  with_end (stmt.Choice n.0 item.0 said.0) said.1

-- the rest of INSERT
unfoldable pub insert_of : Kinds → Option Stmt
insert_of tokens = do
  a ← after_keyword KInto tokens
  table ← leading_name a
  b ← after_keyword KValues table.1
  inside ← after_symbol LeftParen b
  values ← leading_list leading_literal (after_symbol Comma) inside
  rest ← after_symbol RightParen values.1
  with_end (stmt.Insert table.0 values.0) rest

-- the rest of UPDATE
unfoldable pub update_of : Kinds → Option Stmt
update_of tokens = do
  table ← leading_name tokens
  set ← leading_assigned KSet (after_symbol Comma) table.1
  keys ← leading_assigned KWhere (after_keyword KAnd) set.1
  with_end (stmt.Update table.0 set.0.columns set.0.values keys.0.columns keys.0.values) keys.1

-- the rest of DELETE
unfoldable pub delete_of : Kinds → Option Stmt
delete_of tokens = do
  table ← leading_name_after KFrom tokens
  keys ← leading_assigned KWhere (after_keyword KAnd) table.1
  with_end (stmt.Delete table.0 keys.0.columns keys.0.values) keys.1

-- the rest of EXPLAIN
unfoldable pub explain_of : Kinds → Option Stmt
explain_of tokens = of_part stmt.Explain (leading_number tokens)

unfoldable pub audit_statement_of : Kinds → Option Stmt
audit_statement_of tokens = of_part stmt.Audit (leading_audit tokens)

-- the rest of BEGIN AUDIT, from AUDIT onwards
unfoldable pub begin_audit_of : Kinds → Option Stmt
begin_audit_of tokens =
    after_keyword KAudit tokens >>= λ remaining. of_part stmt.BeginAudit (leading_audit remaining)

-- the rest of WATCH
unfoldable pub watch_of : Kinds → Option Stmt
watch_of tokens = of_part stmt.Watch (leading_audit tokens)

-- the rest of a statement of the console that begins with this keyword
unfoldable pub console_after : words.Keyword → Kinds → Option Stmt
console_after KCreate tokens = create_of tokens
console_after KAuthorize tokens = authorization_of true tokens
console_after KDeauthorize tokens = authorization_of false tokens
console_after KAllow tokens = allow_of tokens
console_after KRevoke tokens = revoke_of tokens
console_after KChoice tokens = choice_of tokens
console_after KInsert tokens = insert_of tokens
console_after KUpdate tokens = update_of tokens
console_after KDelete tokens = delete_of tokens
console_after KExplain tokens = explain_of tokens
console_after KBegin tokens = begin_audit_of tokens
console_after keyword tokens = None

abbrev pub console_by_keyword : Kinds → Option Stmt
console_by_keyword (Keyword keyword ∷ rest) = console_after keyword rest
console_by_keyword tokens = None

unfoldable pub console_of : Kinds → Option Stmt
console_of tokens =
    either (after_keyword KDuring tokens) (λ _. audit_statement_of tokens)
    (either (after_word (codes "watch") tokens) watch_of (console_by_keyword tokens))

-- a select up to the end, with the places where its text begins and ends
unfoldable pub placed_select_of : List Token → Option (RawSelect × ℕ × ℕ)
placed_select_of tokens = do
  found ← leading_select (kinds tokens)
  let text = take (length tokens - length found.1) tokens
  first ← slice_get text 0
  last ← slice_get text (length text - 1)
  end ← end_left found.1
  Some (found.0, first.start, last.end)

-- the rest of OPEN
unfoldable pub open_of : List Token → Option Stmt
open_of tokens = placed_select_of tokens >>= λ q. Some (stmt.Ask q.0 q.1 q.2)

-- the rest of EXTRACT
unfoldable pub extract_of : List Token → Option Stmt
extract_of tokens = placed_select_of tokens >>= λ q. Some (stmt.Extract q.0 q.1 q.2)

unfoldable pub select_of : List Token → Option Stmt
select_of tokens = placed_select_of tokens >>= λ q. Some (stmt.Select q.0 q.1 q.2)

unfoldable pub statement_of : List Token → Option Stmt
statement_of tokens =
    either (after_keyword KOpen (kinds tokens)) (λ _. open_of (drop 1 tokens))
    (either (after_keyword KSelect (kinds tokens)) (λ _. select_of tokens)
    (either (after_word (codes "extract") (kinds tokens)) (λ _. extract_of (drop 1 tokens))
    (console_of (kinds tokens))))
