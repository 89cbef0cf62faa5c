-- Laws on the names of a history, and on what statements mean after some entries.
use Rattle.std.specs.Prelude.{◌≡◌, true, [], ◌∷◌, ◌++◌, length, count_by}
use Rattle.hippo_values.specs.declared.names.Name.{Name}
use Rattle.hippo_model.specs.declared.entry.Entry.{Entry}
use Rattle.hippo_stmt_ast.specs.declared.statement.RawAudit.{RawAudit}
use Rattle.hippo_stmt_ast.specs.declared.statement.RawSelect.{RawSelect}
use Rattle.hippo_model.specs.Histories.{schema_at, item_at}
use Rattle.hippo_model.specs.Terms.{History, Meaning}
use Rattle.hippo_model.specs.Validity.{is_purpose, is_recipient, creates_table, may_follow, is_valid}
use Rattle.hippo_typing_catalog.specs.declared.period.Period.{Period}
use Rattle.hippo_typing_catalog.specs.AuditExpressions.{audit_refused, audit_of}
use Rattle.hippo_typing_catalog.specs.Catalogs.{known_at, known_after, table_of, has_purpose, has_recipient, item_of, creates_new_names}
use Rattle.hippo_typing_catalog.specs.Selects.{select_refused, query_of}

-- a select that is not refused after some entries means the same query after more entries
abbrev pub SelectsKeepMeaning : Type 0
SelectsKeepMeaning =
    (history later : History) (select : RawSelect) → select_refused (known_at history) select ≡ []
    → (select_refused (known_at (history ++ later)) select ≡ [])
    × (query_of (known_at (history ++ later)) select ≡ query_of (known_at history) select)

-- so does an audit expression
abbrev pub AuditsKeepMeaning : Type 0
AuditsKeepMeaning =
    (history later : History) (period : Period) (audit : RawAudit)
    → audit_refused (known_at history) period audit ≡ []
    → (audit_refused (known_at (history ++ later)) period audit ≡ [])
    × (audit_of (known_at (history ++ later)) period audit
    ≡ audit_of (known_at history) period audit)

-- the names of a history are those of the history before its last entry, with what that entry
-- creates
abbrev pub NamesGrow : Type 0
NamesGrow =
    (history : History) (entry : Entry) → known_at (history ++ entry ∷ [])
    ≡ known_after (known_at history) entry.act

-- what is found among the names of a valid history is what the history says
pub record NamesAreThoseOf (history : History) : Type 0 where
  pub tables : (table : Name) → table_of (known_at history) table ≡ schema_at history table
  pub purposes : (purpose : Name) → has_purpose (known_at history) purpose
      ≡ is_purpose history purpose
  pub recipients : (recipient : Name) → has_recipient (known_at history) recipient
      ≡ is_recipient history recipient
  pub items : (item : Name) → item_of (known_at history) item ≡ item_at history item
  pub count : length (known_at history).tables ≡ count_by (λ entry. creates_table entry.act) history

abbrev pub ValidNames : Type 0
ValidNames =
    (meaning : Meaning) (history : History) → is_valid meaning history ≡ true
    → NamesAreThoseOf history

-- an entry that may follow a valid history creates no name that already exists
abbrev pub EntriesCreateAnew : Type 0
EntriesCreateAnew =
    (meaning : Meaning) (history : History) (entry : Entry) → is_valid meaning history ≡ true
    → may_follow meaning history entry ≡ true
    → creates_new_names (known_at history) entry.act ≡ true
