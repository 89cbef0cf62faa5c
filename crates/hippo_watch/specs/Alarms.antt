-- The tuple that an audit shares with a question that is asked now.
use Rattle.std.specs.Prelude.{◌≡◌, ◌+◌, true, List, length, Option, Some}
use Rattle.hippo_values.specs.Texts.{Txt}
use Rattle.hippo_values.specs.declared.moments.Moment.{Moment}
use Rattle.hippo_values.specs.declared.names.Name.{Name}
use Rattle.hippo_model.specs.declared.audit.Audit.{Audit}
use Rattle.hippo_model.specs.declared.audit.Pair.{Pair}
use Rattle.hippo_model.specs.declared.audit.SharedRow.{SharedRow}
use Rattle.hippo_model.specs.declared.entry.Act.TheVariants.{Asked}
use Rattle.hippo_model.specs.declared.entry.Entry.{Entry}
use Rattle.hippo_model.specs.Columns.{names_all}
use Rattle.hippo_model.specs.Terms.{History}
use Rattle.hippo_model.specs.Audits.{shared_tuple, first_serving}
use Rattle.hippo_tables.specs.declared.tables.Tables.{Tables}
use Rattle.hippo_tables.specs.Standing.{TablesStandFor, are_created}
use Rattle.hippo_typing.specs.Meanings.{meaning}
use Rattle.hippo_model.specs.Verdicts.{context_of}
use Rattle.hippo_audit_job.specs.declared.past.Past.{Past}
use Rattle.hippo_audit_job.specs.Examining.{IsPastOf, IsAuditOf}
use Rattle.hippo_watch.specs.declared.alarms.AskedNow.{AskedNow}

-- these are the tables of some history
pub record AreOfSome (tables : Tables) : Type 0 where
  pub history : History
  pub stands : TablesStandFor tables history

-- names, policy, length and tables are those of a valid history
pub record IsPresentOf (past : Past) (tables : Tables) (history : History) : Type 0 where
  pub past_is : IsPastOf past history
  pub tables_are : TablesStandFor tables history

-- a question as the next entry
abbrev pub asked_next : History → Moment → Name → Pair → Txt → Entry
asked_next history moment user pair text = record {
  seq = length history + 1;
  moment = moment;
  act = Asked user pair.purpose pair.recipient text;
}

-- the first virtual tuple that serves a query that names each audited column and whose tables exist
abbrev pub ServesNow : AskedNow → Audit → Option (List SharedRow) → Type 0
ServesNow asked audit found =
    (history : History) → IsPresentOf asked.past asked.tables.now history → IsAuditOf history audit
    → names_all asked.query.now audit ≡ true → are_created history asked.query.now.tables ≡ true
    → found ≡ first_serving history (context_of asked.pair.now asked.moment) asked.query.now audit

-- an entry is this question, asked next in a history, and its text means the query
pub record IsAskedNext (asked : AskedNow) (history : History) (entry : Entry) : Type 0 where
  pub present : IsPresentOf asked.past asked.tables.now history
  pub user : Name
  pub text : Txt
  pub means : meaning history text ≡ Some asked.query.now
  pub is : entry ≡ asked_next history asked.moment user asked.pair.now text

-- the tuple that an audit shares with each such question
abbrev pub SharesNext : AskedNow → Audit → Option (List SharedRow) → Type 0
SharesNext asked audit found =
    (history : History) (entry : Entry) → IsAskedNext asked history entry
    → IsAuditOf history audit → found ≡ shared_tuple meaning history audit entry
