-- Laws on the rows that match an audit's conditions on one table.
use Rattle.std.specs.Prelude.{◌≡◌, ◌<◌, false, List, length, None}
use Rattle.hippo_model.specs.declared.audit.Audit.{Audit}
use Rattle.hippo_model.specs.declared.audit.SharedRow.{SharedRow}
use Rattle.hippo_model.specs.declared.entry.Entry.{Entry}
use Rattle.hippo_model.specs.declared.query.Query.{Query}
use Rattle.hippo_model.specs.Terms.{History, Meaning, Place}
use Rattle.hippo_model.specs.Histories.{before_entry}
use Rattle.hippo_model.specs.Verdicts.{Context}
use Rattle.hippo_model.specs.Audits.{audit_needs, serves, shared_by, is_flagged}
use Rattle.hippo_model.specs.Hits.{hits}

-- no row of one of an audit's tables matches the audit's conditions on that table
pub record HasNoHits (history : History) (audit : Audit) : Type 0 where
  pub table : Place
  pub within : table < length audit.tables
  pub none : hits history audit table ≡ 0

-- an audit without such rows needs no virtual tuple; so no tuple serves, no query shares a tuple
-- with it, and no entry is flagged
pub record NoHitsNoFlags : Type 0 where
  pub needs : (history : History) (audit : Audit) → HasNoHits history audit
      → (tuple : List SharedRow)
      → audit_needs history audit tuple ≡ false
  pub serve : (history : History) (audit : Audit) → HasNoHits history audit
      → (context : Context) (query : Query) (tuple : List SharedRow)
      → serves history context query audit tuple ≡ false
  pub share : (history : History) (audit : Audit) → HasNoHits history audit
      → (context : Context) (query : Query) → shared_by history context query audit ≡ None
  pub flag : (meaning : Meaning) (history : History) (audit : Audit) (entry : Entry)
      → HasNoHits (before_entry entry history) audit
      → is_flagged meaning history audit entry ≡ false
