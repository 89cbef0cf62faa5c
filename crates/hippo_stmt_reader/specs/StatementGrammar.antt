-- The grammar of statements. Each relation says that the tokens begin with such a part, how the
-- part reads, and what follows it.
use Rattle.std.specs.Prelude.{◌≡◌, ℕ, ◌<◌, ◌≤◌, ℤ, pos, ◌-◌, true, false, List, [], ◌∷◌, ◌++◌, length, map, Option, Some, None, Ok, Err, slice_get, codes}
use Rattle.hippo_values.specs.declared.names.Name.{Name}
use Rattle.hippo_values.specs.Limits.{retention_limit}
use Rattle.hippo_values.specs.declared.values.Value.{Value}
use Rattle.hippo_model.specs.declared.entry.ItemKind.TheVariants.{OptIn, OptOut}
use Rattle.hippo_model.specs.declared.schema.Column.{Column}
use Rattle.hippo_model.specs.declared.schema.ColumnKind.{ColumnKind}
use Rattle.hippo_model.specs.declared.schema.ColumnKind.TheVariants as kind
use Rattle.hippo_stmt_ast.specs.declared.statement.RawAudit.{RawAudit}
use Rattle.hippo_stmt_ast.specs.declared.statement.RawSelect.{RawSelect}
use Rattle.hippo_stmt_ast.specs.declared.statement.Stmt.{Stmt}
use Rattle.hippo_stmt_ast.specs.declared.statement.Stmt.TheVariants as stmt
use Rattle.hippo_lexer.specs.Words.{words_check}
use Rattle.hippo_lexer.specs.declared.faults.SyntaxFault.{SyntaxFault}
use Rattle.hippo_lexer.specs.declared.faults.SyntaxFault.TheVariants as fault
use Rattle.hippo_values.specs.declared.keywords.Keyword as words
use Rattle.hippo_values.specs.declared.keywords.Keyword.TheVariants.{KAllow, KAnd, KAudit, KAuthorize, KBegin, KChoice, KCreate, KDate, KDeauthorize, KDelete, KExplain, KFor, KFrom, KIn, KInsert, KInteger, KInto, KIs, KItem, KKey, KNo, KNot, KNull, KOn, KOpen, KOpt, KOut, KPrimary, KPurpose, KRecipient, KRevoke, KSet, KSubject, KTable, KText, KTo, KUpdate, KValues, KWhere, KWith, KYes}
use Rattle.hippo_lexer.specs.declared.kinds.Symbol.TheVariants.{Comma, Equal, LeftParen, RightParen, Semicolon}
use Rattle.hippo_lexer.specs.declared.kinds.Token.{Token}
use Rattle.hippo_lexer.specs.declared.kinds.TokenKind.TheVariants.{Word, Keyword, Number, Symbol}
use Rattle.hippo_spj_reader.specs.ConditionGrammar.{IsLiteral}
use Rattle.hippo_spj_reader.specs.Front.{Kinds, kinds}
use Rattle.hippo_spj_reader.specs.ListGrammar.{IsName, IsListOf}
use Rattle.hippo_spj_reader.specs.SelectGrammar.{IsSelect}
use Rattle.hippo_audit_reader.specs.AuditGrammar.{IsAudit}

-- INTEGER | TEXT | DATE
pub data IsColumnKind : words.Keyword → ColumnKind → Type 0 where
  integer : IsColumnKind KInteger kind.Integer
  text : IsColumnKind KText kind.Text
  date : IsColumnKind KDate kind.Date

-- coldef = c (INTEGER | TEXT | DATE) [NOT NULL]
pub data IsColumnDef : Kinds → Column → Kinds → Type 0 where
  nullable : {c : Name} {k : ColumnKind} {word : words.Keyword} {rest : Kinds}
      → IsColumnKind word k →
      IsColumnDef (Word c ∷ Keyword word ∷ rest) (record { name = c; kind = k; not_null = false })
      rest
  not_null : {c : Name} {k : ColumnKind} {word : words.Keyword} {rest : Kinds}
      → IsColumnKind word k →
      IsColumnDef (Word c ∷ Keyword word ∷ Keyword KNot ∷ Keyword KNull ∷ rest)
      (record { name = c; kind = k; not_null = true }) rest

-- ["," SUBJECT c]
pub data IsSubject : Kinds → Option Name → Kinds → Type 0 where
  no_subject : {rest : Kinds} → IsSubject rest None rest
  subject : {c : Name} {rest : Kinds} →
      IsSubject (Symbol Comma ∷ Keyword KSubject ∷ Word c ∷ rest) (Some c) rest

-- [WITH i]
pub data IsWith : Kinds → Option Name → Kinds → Type 0 where
  no_item : {rest : Kinds} → IsWith rest None rest
  with_item : {i : Name} {rest : Kinds} → IsWith (Keyword KWith ∷ Word i ∷ rest) (Some i) rest

-- [RETAIN n DAYS], from 1 day to the limit
pub data IsRetention : Kinds → Option ℕ → Kinds → Type 0 where
  no_retention : {rest : Kinds} → IsRetention rest None rest
  retain : {days : ℕ} {rest : Kinds} → 0 < days → days ≤ retention_limit →
      IsRetention (Word (codes "retain") ∷ Number (pos days) ∷ Word (codes "days") ∷ rest)
      (Some days) rest

-- c "=" literal
pub data IsAssignment : Kinds → Name × Value → Kinds → Type 0 where
  assignment : {c : Name} {v : Value} {tokens rest : Kinds} →
      IsLiteral tokens v rest → IsAssignment (Word c ∷ Symbol Equal ∷ tokens) (c, v) rest

-- c "=" literal {AND c "=" literal}
abbrev pub AreKeys : Kinds → List (Name × Value) → Kinds → Type 0
AreKeys tokens keys rest = IsListOf IsAssignment (Keyword KAnd) tokens keys rest

-- c "=" literal {"," c "=" literal}
abbrev pub AreSettings : Kinds → List (Name × Value) → Kinds → Type 0
AreSettings tokens settings rest = IsListOf IsAssignment (Symbol Comma) tokens settings rest

-- c {"," c}
abbrev pub AreNames : Kinds → List Name → Kinds → Type 0
AreNames tokens names rest = IsListOf IsName (Symbol Comma) tokens names rest

abbrev pub assigned_columns : List (Name × Value) → List Name
assigned_columns assignments = map (λ (assignment : Name × Value). assignment.0) assignments

abbrev pub assigned_values : List (Name × Value) → List Value
assigned_values assignments = map (λ (assignment : Name × Value). assignment.1) assignments

-- the statements of the console
pub data IsConsole : Kinds → Stmt → Kinds → Type 0 where
  -- CREATE TABLE t "(" coldef {"," coldef} "," PRIMARY KEY "(" c {"," c} ")" ["," SUBJECT c] ")"
  create_table : {table : Name} {columns : List Column} {key : List Name} {subject : Option Name}
      {defs keys remaining rest : Kinds} →
      IsListOf IsColumnDef (Symbol Comma) defs columns
      (Symbol Comma ∷ Keyword KPrimary ∷ Keyword KKey ∷ Symbol LeftParen ∷ keys) →
      AreNames keys key (Symbol RightParen ∷ remaining) →
      IsSubject remaining subject (Symbol RightParen ∷ rest) →
      IsConsole (Keyword KCreate ∷ Keyword KTable ∷ Word table ∷ Symbol LeftParen ∷ defs)
      (stmt.CreateTable table columns key subject) rest
  -- CREATE PURPOSE p | CREATE RECIPIENT r
  create_purpose : {purpose : Name} {rest : Kinds} →
      IsConsole (Keyword KCreate ∷ Keyword KPurpose ∷ Word purpose ∷ rest)
      (stmt.CreatePurpose purpose) rest
  create_recipient : {recipient : Name} {rest : Kinds} →
      IsConsole (Keyword KCreate ∷ Keyword KRecipient ∷ Word recipient ∷ rest)
      (stmt.CreateRecipient recipient) rest
  -- CREATE ITEM i OPT IN | CREATE ITEM i OPT OUT
  create_opt_in : {item : Name} {rest : Kinds} →
      IsConsole (Keyword KCreate ∷ Keyword KItem ∷ Word item ∷ Keyword KOpt ∷ Keyword KIn ∷ rest)
      (stmt.CreateItem item OptIn) rest
  create_opt_out : {item : Name} {rest : Kinds} →
      IsConsole (Keyword KCreate ∷ Keyword KItem ∷ Word item ∷ Keyword KOpt ∷ Keyword KOut ∷ rest)
      (stmt.CreateItem item OptOut) rest
  -- AUTHORIZE u FOR p "," r | DEAUTHORIZE u FOR p "," r
  authorize : {user purpose recipient : Name} {rest : Kinds} →
      IsConsole (Keyword KAuthorize ∷ Word user ∷ Keyword KFor ∷ Word purpose ∷ Symbol Comma
      ∷ Word recipient ∷ rest)
      (stmt.Authorize user purpose recipient) rest
  deauthorize : {user purpose recipient : Name} {rest : Kinds} →
      IsConsole (Keyword KDeauthorize ∷ Word user ∷ Keyword KFor ∷ Word purpose
      ∷ Symbol Comma ∷ Word recipient ∷ rest)
      (stmt.Deauthorize user purpose recipient) rest
  -- ALLOW p TO r ON t "(" c {"," c} ")" [WITH i] [RETAIN n DAYS]
  allow : {purpose recipient table : Name} {columns : List Name} {item : Option Name}
      {days : Option ℕ}
      {named remaining kept rest : Kinds} →
      AreNames named columns (Symbol RightParen ∷ remaining) →
      IsWith remaining item kept →
      IsRetention kept days rest →
      IsConsole (Keyword KAllow ∷ Word purpose ∷ Keyword KTo ∷ Word recipient
      ∷ Keyword KOn ∷ Word table ∷ Symbol LeftParen ∷ named)
      (stmt.Allow purpose recipient table columns item days) rest
  -- REVOKE p TO r ON t "(" c {"," c} ")"
  revoke : {purpose recipient table : Name} {columns : List Name} {named rest : Kinds} →
      AreNames named columns (Symbol RightParen ∷ rest) →
      IsConsole (Keyword KRevoke ∷ Word purpose ∷ Keyword KTo ∷ Word recipient
      ∷ Keyword KOn ∷ Word table ∷ Symbol LeftParen ∷ named)
      (stmt.Revoke purpose recipient table columns) rest
  -- CHOICE number ON i IS (YES | NO)
  choice_yes : {n : ℤ} {item : Name} {rest : Kinds} →
      IsConsole (Keyword KChoice ∷ Number n ∷ Keyword KOn ∷ Word item ∷ Keyword KIs ∷ Keyword KYes
      ∷ rest)
      (stmt.Choice n item true) rest
  choice_no : {n : ℤ} {item : Name} {rest : Kinds} →
      IsConsole (Keyword KChoice ∷ Number n ∷ Keyword KOn ∷ Word item ∷ Keyword KIs ∷ Keyword KNo
      ∷ rest)
      (stmt.Choice n item false) rest
  -- INSERT INTO t VALUES "(" literal {"," literal} ")"
  insert : {table : Name} {values : List Value} {tokens rest : Kinds} →
      IsListOf IsLiteral (Symbol Comma) tokens values (Symbol RightParen ∷ rest) →
      IsConsole (Keyword KInsert ∷ Keyword KInto ∷ Word table ∷ Keyword KValues ∷ Symbol LeftParen
      ∷ tokens)
      (stmt.Insert table values) rest
  -- UPDATE t SET c "=" literal {"," c "=" literal} WHERE keys
  update : {s : Stmt} {table : Name} {settings keys : List (Name × Value)}
      {tokens remaining rest : Kinds} →
      AreSettings tokens settings (Keyword KWhere ∷ remaining) →
      AreKeys remaining keys rest →
      s ≡ stmt.Update table (assigned_columns settings) (assigned_values settings)
      (assigned_columns keys)
      (assigned_values keys) →
      IsConsole (Keyword KUpdate ∷ Word table ∷ Keyword KSet ∷ tokens) s rest
  -- DELETE FROM t WHERE keys
  delete : {s : Stmt} {table : Name} {keys : List (Name × Value)} {tokens rest : Kinds} →
      AreKeys tokens keys rest →
      s ≡ stmt.Delete table (assigned_columns keys) (assigned_values keys) →
      IsConsole (Keyword KDelete ∷ Keyword KFrom ∷ Word table ∷ Keyword KWhere ∷ tokens) s rest
  -- EXPLAIN number
  console_explain : {n : ℤ} {rest : Kinds}
      → IsConsole (Keyword KExplain ∷ Number n ∷ rest) (stmt.Explain n) rest
  -- audit | BEGIN AUDIT audit | WATCH audit
  console_audit : {a : RawAudit} {tokens rest : Kinds} → IsAudit tokens a rest
      → IsConsole tokens (stmt.Audit a) rest
  console_begin_audit : {a : RawAudit} {tokens rest : Kinds} → IsAudit tokens a rest →
      IsConsole (Keyword KBegin ∷ Keyword KAudit ∷ tokens) (stmt.BeginAudit a) rest
  console_watch : {a : RawAudit} {tokens rest : Kinds} → IsAudit tokens a rest →
      IsConsole (Word (codes "watch") ∷ tokens) (stmt.Watch a) rest

-- [";"], then nothing
pub data IsEnd : Kinds → Type 0 where
  no_semicolon : IsEnd []
  semicolon : IsEnd (Symbol Semicolon ∷ [])

-- a select up to the end; its text runs from the first byte of its first token to the last byte of
-- its last token
pub data IsPlacedSelect : List Token → RawSelect → ℕ → ℕ → Type 0 where
  placed : {select : RawSelect} {tokens : List Token} {first last : Token} (text rest : List Token)
      →
      tokens ≡ text ++ rest →
      IsSelect (kinds tokens) select (kinds rest) →
      IsEnd (kinds rest) →
      slice_get text 0 ≡ Some first →
      slice_get text (length text - 1) ≡ Some last →
      IsPlacedSelect tokens select first.start last.end

-- statement = console [";"] | select [";"] | OPEN select [";"] | EXTRACT select [";"]
pub data IsStatement : List Token → Stmt → Type 0 where
  console : {s : Stmt} {tokens : List Token} {rest : Kinds} →
      IsConsole (kinds tokens) s rest → IsEnd rest → IsStatement tokens s
  select : {select : RawSelect} {start end : ℕ} {tokens : List Token} →
      IsPlacedSelect tokens select start end → IsStatement tokens (stmt.Select select start end)
  open_select : {select : RawSelect} {start end : ℕ} {first : Token} {tokens : List Token} →
      first.kind ≡ Keyword KOpen → IsPlacedSelect tokens select start end →
      IsStatement (first ∷ tokens) (stmt.Ask select start end)
  extract_select : {select : RawSelect} {start end : ℕ} {first : Token} {tokens : List Token} →
      first.kind ≡ Word (codes "extract") → IsPlacedSelect tokens select start end →
      IsStatement (first ∷ tokens) (stmt.Extract select start end)

-- the fault of the words, if they do not pass; if they pass, BadSyntax, only if the tokens form no
-- statement, or out of memory
abbrev pub IsRefusal : List Token → SyntaxFault → Type 0
IsRefusal tokens fault.TooDeep = words_check tokens ≡ Err fault.TooDeep
IsRefusal tokens (fault.Unsupported place) = words_check tokens ≡ Err (fault.Unsupported place)
IsRefusal tokens fault.BadSyntax =
    (words_check tokens ≡ Ok tt) × ((s : Stmt) → ¬ IsStatement tokens s)
IsRefusal tokens fault.Memory = words_check tokens ≡ Ok tt
