-- Laws that relate what a query needs and an audit has over given rows to the model's definitions.
use Rattle.std.specs.Prelude.{◌≡◌, true, List, [], bytes_eq}
use Rattle.std.specs.List.{AllByRecursion, list_any}
use Rattle.hippo_model.specs.declared.audit.Audit.{Audit}
use Rattle.hippo_model.specs.declared.audit.SharedRow.{SharedRow}
use Rattle.hippo_model.specs.declared.query.Form.TheVariants.{Plain}
use Rattle.hippo_model.specs.declared.query.Query.{Query}
use Rattle.hippo_model.specs.declared.schema.Schema.{Schema}
use Rattle.hippo_model.specs.Terms.{History, Meaning}
use Rattle.hippo_model.specs.Rules.{choice_at}
use Rattle.hippo_model.specs.Verdicts.{Context}
use Rattle.hippo_model.specs.Audits.{query_needs, first_serving}
use Rattle.hippo_rewrite.specs.Rewriting.{rewritten_query}
use Rattle.hippo_rewrite.specs.RewritingLaws.{rules_at, HasTables}
use Rattle.hippo_audit_search.specs.Sharing.{query_has, first_shared}
use Rattle.hippo_audit_search.specs.Needs.{needs_by, first_needed}
use Rattle.hippo_audit_search.specs.HistoryLaws.{sets_at}
use Rattle.hippo_audit_needs.specs.Seen.{required_shown, AreCommonColumns}

-- a query of any form needs a tuple of rows of its tables exactly when its query rewritten by the
-- rules in force does, judged by removing combinations
abbrev pub QueryNeedsOverRows : Type 0
QueryNeedsOverRows =
    (meaning : Meaning) (history : History) (context : Context) (query : Query)
    (schemas : List Schema)
    (tuple : List SharedRow) → HasTables meaning history query schemas
    → AllByRecursion (λ shared. list_any (bytes_eq shared.table) query.tables ≡ true) tuple
    → query_needs history context query tuple
    ≡ needs_by (choice_at history) (rewritten_query (rules_at history context schemas) query)
    query.form
    (sets_at history query.tables) tuple

-- a plain query needs a tuple of rows of its tables exactly when its query rewritten by the rules
-- in force has it
abbrev pub QueryNeedsWhatItHas : Type 0
QueryNeedsWhatItHas =
    (meaning : Meaning) (history : History) (context : Context) (query : Query)
    (schemas : List Schema)
    (tuple : List SharedRow) → HasTables meaning history query schemas → query.form ≡ Plain
    → AllByRecursion (λ shared. list_any (bytes_eq shared.table) query.tables ≡ true) tuple
    → query_needs history context query tuple
    ≡ query_has (choice_at history) (rewritten_query (rules_at history context schemas) query) []
    (sets_at history query.tables) tuple

-- over the rows of a valid history, with the query rewritten by the rules in force, the first tuple
-- that a query of any form needs and an audit has is the first virtual tuple that serves
abbrev pub NeededServesFirst : Type 0
NeededServesFirst =
    (meaning : Meaning) (history : History) (context : Context) (query : Query)
    (schemas : List Schema)
    (audit : Audit) → HasTables meaning history query schemas → AreCommonColumns history query audit
    → let rules = rules_at history context schemas in
    first_needed (choice_at history) (rewritten_query rules query) query.form audit
    (required_shown rules query audit)
    (sets_at history query.tables) (sets_at history audit.tables)
    ≡ first_serving history context query audit

-- over the rows of a valid history, with the query rewritten by the rules in force, the first tuple
-- that a plain query and an audit share is the first virtual tuple that serves
abbrev pub SharedServesFirst : Type 0
SharedServesFirst =
    (meaning : Meaning) (history : History) (context : Context) (query : Query)
    (schemas : List Schema)
    (audit : Audit) → HasTables meaning history query schemas → query.form ≡ Plain
    → AreCommonColumns history query audit
    → let rules = rules_at history context schemas in
    first_shared (choice_at history) (rewritten_query rules query) audit
    (required_shown rules query audit)
    (sets_at history query.tables) (sets_at history audit.tables)
    ≡ first_serving history context query audit
