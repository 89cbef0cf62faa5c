-- The state of a history at a standpoint, from which answers are made.
use Rattle.std.specs.Prelude.{◌≡◌, true, List, length, take}
use Rattle.hippo_values.specs.declared.names.Name.{Name}
use Rattle.hippo_model.specs.declared.policy.TableRules.{TableRules}
use Rattle.hippo_model.specs.declared.query.Masked.{Masked}
use Rattle.hippo_model.specs.declared.query.Query.{Query}
use Rattle.hippo_model.specs.Answers.{answer}
use Rattle.hippo_model.specs.Terms.{History, Meaning, ShownRow}
use Rattle.hippo_model.specs.Validity.{is_valid}
use Rattle.hippo_model.specs.Verdicts.{context_of}
use Rattle.hippo_policy.specs.Books as books
use Rattle.hippo_join_implied.specs.Implied.{query_with_implied}
use Rattle.hippo_rewrite.specs.Rewriting.{rewritten_query}
use Rattle.hippo_rewrite.specs.RewritingLaws.{rules_at}
use Rattle.hippo_tables.specs.Standing as standing
use Rattle.hippo_eval_answer.specs.declared.standpoint.Standpoint.{Standpoint}

-- the standpoint's book and tables represent a valid history with `count` entries
pub record AreStateOf (meaning : Meaning) (standpoint : Standpoint) (history : History)
    : Type 0 where
  pub valid : is_valid meaning history ≡ true
  pub book : books.BookRepresents standpoint.book.now history
  pub tables : standing.TablesStandFor standpoint.tables.now history
  pub entries : standpoint.count ≡ length history

-- the rules in force of tables
abbrev pub rules_from : Standpoint → History → List Name → List TableRules
rules_from standpoint history names =
    rules_at (take standpoint.count history) (context_of standpoint.pair.now standpoint.moment)
    (standing.schemas_at history names)

-- a query whose tables exist, and the query with the rules in force written into it and with what
-- its condition then implies
pub record IsMasked (standpoint : Standpoint) (query : Query) (masked : Masked) : Type 0 where
  pub kept : standing.AreKeptTables standpoint.tables.now query.tables
  pub tables : masked.tables ≡ query.tables
  pub rules : (history : History) → books.BookRepresents standpoint.book.now history
      → standing.TablesStandFor standpoint.tables.now history
      → masked
      ≡ query_with_implied (rewritten_query (rules_from standpoint history query.tables) query)

-- the answer to a query
abbrev pub answer_from : Standpoint → History → Query → List ShownRow
answer_from standpoint history query =
    answer history (context_of standpoint.pair.now standpoint.moment) query
