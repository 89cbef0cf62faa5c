-- What given rules in force, rows and choices say about a query and an audit.
use Rattle.std.specs.Prelude.{◌≡◌, List, Option}
use Rattle.hippo_model.specs.declared.audit.Audit.{Audit}
use Rattle.hippo_model.specs.declared.audit.SharedRow.{SharedRow}
use Rattle.hippo_model.specs.declared.policy.TableRules.{TableRules}
use Rattle.hippo_model.specs.declared.query.Query.{Query}
use Rattle.hippo_model.specs.declared.schema.Schema.{Schema}
use Rattle.hippo_model.specs.Terms.{History, Meaning}
use Rattle.hippo_model.specs.Masking.{Choices}
use Rattle.hippo_tables_keyed.specs.RowSets.{KeyedRows}
use Rattle.hippo_model.specs.Rules.{choice_at}
use Rattle.hippo_model.specs.Verdicts.{Context}
use Rattle.hippo_rewrite.specs.RewritingLaws.{rules_at, HasTables}
use Rattle.hippo_audit_search.specs.HistoryLaws.{sets_at}
use Rattle.hippo_audit_needs.specs.Seen.{AreCommonColumns}
use Rattle.hippo_model.specs.Audits.{first_serving}

-- the rules, rows and choices are those of a valid history; the query's tables are created, and it
-- has the tables of the audited columns
pub record AreOfHistory
    (meaning : Meaning) (history : History) (context : Context) (query : Query) (audit : Audit)
    (rules : List TableRules) (query_sets audit_sets : List KeyedRows) (choices : Choices)
    : Type 0 where
  pub schemas : List Schema
  pub tables : HasTables meaning history query schemas
  pub columns : AreCommonColumns history query audit
  pub rules_are : rules ≡ rules_at history context schemas
  pub query_rows : query_sets ≡ sets_at history query.tables
  pub audit_rows : audit_sets ≡ sets_at history audit.tables
  pub choices_are : choices ≡ choice_at history

-- the tuple is the first that serves in each history that has these rules, rows and choices
abbrev pub ServesFirst :
    Query → Audit → List TableRules → List KeyedRows → List KeyedRows → Choices
    → Option (List SharedRow) → Type 0
ServesFirst query audit rules query_sets audit_sets choices shared =
    (meaning : Meaning) (history : History) (context : Context)
    → AreOfHistory meaning history context query audit rules query_sets audit_sets choices
    → shared ≡ first_serving history context query audit
