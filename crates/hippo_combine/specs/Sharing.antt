-- The tables that are held when a logged query is examined.
use Rattle.std.specs.Prelude.{◌≡◌, ℕ, true, take, is_some, List}
use Rattle.std.specs.List.{AllByRecursion}
use Rattle.hippo_model.specs.declared.audit.Audit.{Audit}
use Rattle.hippo_model.specs.declared.query.Query.{Query}
use Rattle.hippo_model.specs.Columns.{names_all}
use Rattle.hippo_model.specs.Histories.{schema_at}
use Rattle.hippo_model.specs.Terms.{History}
use Rattle.hippo_model.specs.Validity.{is_valid}
use Rattle.hippo_policy.specs.declared.book.PolicyBook.{PolicyBook}
use Rattle.hippo_policy.specs.Books.{BookRepresents}
use Rattle.hippo_typing.specs.Meanings.{meaning}
use Rattle.hippo_audit_job.specs.Examining.{IsAuditOf}
use Rattle.hippo_intervals.specs.Living.{HeldLives}
use Rattle.hippo_combine.specs.Held.{AreHeldAt, TablesFit}

-- the tables of an audit, and of a query that names its columns, are held as they were after the
-- first entries of a valid history; the query's tables were created then
pub record HoldsBoth (book : PolicyBook) (tables : List HeldLives) (number : ℕ) (history : History)
    (query : Query)
    (audit : Audit) : Type 0 where
  pub valid : is_valid meaning history ≡ true
  pub book_is : BookRepresents book history
  pub fits : TablesFit tables history
  pub audit_is : IsAuditOf history audit
  pub names : names_all query audit ≡ true
  pub audit_held : AreHeldAt number audit.tables tables
  pub query_held : AreHeldAt number query.tables tables
  pub created : AllByRecursion (λ table. is_some (schema_at (take number history) table) ≡ true)
      query.tables
