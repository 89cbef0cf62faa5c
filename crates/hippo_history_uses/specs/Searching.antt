-- A logged query with what it was asked over: the tables and rules of its own time.
use Rattle.std.specs.Prelude.{◌≡◌, ◌<◌, true, List, [], ◌∷◌, ◌++◌, map, filter, length, slice_get, slice_index_or, Some, is_some, option_and_then, Bool, false, ◌&&◌}
use Rattle.hippo_values.specs.declared.names.Name.{Name}
use Rattle.hippo_model.specs.declared.audit.Audit.{Audit}
use Rattle.hippo_model.specs.declared.born_row.BornRow.{BornRow}
use Rattle.hippo_model.specs.declared.schema.Schema.{Schema}
use Rattle.hippo_model.specs.Audits.{first_serving}
use Rattle.hippo_model.specs.Rows.{table_rows}
use Rattle.hippo_model.specs.Terms.{History, Place}
use Rattle.hippo_model.specs.Validity.{is_valid}
use Rattle.hippo_policy.specs.Books.{BookRepresents}
use Rattle.hippo_rewrite.specs.RewritingLaws.{rules_at}
use Rattle.hippo_tables.specs.declared.tables.Tables.{Tables}
use Rattle.hippo_tables.specs.Standing.{TablesStandFor, are_created}
use Rattle.hippo_typing.specs.Meanings.{meaning}
use Rattle.hippo_audit_common.specs.Commons.{place_in}
use Rattle.hippo_history_formats.specs.declared.access.Access.{Access}
use Rattle.hippo_history_uses.specs.declared.searching.Search.{Search}
use Rattle.hippo_history_uses.specs.declared.lending.LentTables.{LentTables}
use Rattle.hippo_history_uses.specs.declared.asked.AskedThen.{AskedThen}
use Rattle.hippo_history_uses.specs.Accesses.{asker_context, access_to, table_accesses, query_accesses}
use Rattle.hippo_history_uses.specs.Asking.{asker_of, front_of}
use Rattle.hippo_history_uses.specs.Lending.{AreThoseOf}
use Rattle.hippo_history_uses.specs.Uses.{is_patients_row, uses_row, used_rows}

-- the policy is that of a history, whose first entries, those before the query, are valid; the
-- tables and rules are those of the first entries
pub record IsSearchOf (search : Search) (history : History) : Type 0 where
  pub valid : is_valid meaning (front_of search.asked.now history) ≡ true
  pub book : BookRepresents search.asked.now.book.now history
  pub tables : AreThoseOf (front_of search.asked.now history) search.asked.now.query.now.tables search.lent
  pub rules_are : search.rules
      ≡ rules_at (front_of search.asked.now history) (asker_context (asker_of search.asked.now))
      search.lent.schemas

-- a search over lent tables, by the rules in force
pub record IsBegun (asked : AskedThen) (lent : LentTables) (search : Search) : Type 0 where
  pub asked_is : search.asked.now ≡ asked
  pub lent_is : search.lent ≡ lent
  pub rules_are : (history : History) → BookRepresents asked.book.now history
      → search.rules
      ≡ rules_at (front_of asked history) (asker_context (asker_of asked)) lent.schemas

-- there is a schema and a set of rows for each table of the query
pub record HoldsEachTable (search : Search) : Type 0 where
  pub schemas : length search.lent.schemas ≡ length search.asked.now.query.now.tables
  pub sets : length search.lent.sets ≡ length search.asked.now.query.now.tables

-- the name of the table at a place in the query's FROM list
abbrev pub table_there : Search → Place → Name
table_there search place = slice_index_or search.asked.now.query.now.tables place []

-- the first table with its name in the query's FROM list is at this place
pub record IsSeat (search : Search) (place : Place) : Type 0 where
  pub within : place < length search.asked.now.query.now.tables
  pub first : place_in search.asked.now.query.now.tables (table_there search place) ≡ place

-- an audit of this table alone, and of no column
pub record IsAlone (search : Search) (place : Place) (audit : Audit) : Type 0 where
  pub seat : IsSeat search place
  pub tables : audit.tables ≡ table_there search place ∷ []
  pub columns : audit.columns ≡ []

-- the table at a place has this SUBJECT column
abbrev pub IsSubjectOf : Search → Place → Place → Type 0
IsSubjectOf search place subject =
    option_and_then (λ schema. schema.subject) (slice_get search.lent.schemas place) ≡ Some subject

-- the query and an audit share a tuple, or none
abbrev pub SharesThen : Search → Audit → Bool → Type 0
SharesThen search audit shared =
    (history : History) → IsSearchOf search history
    → shared ≡ is_some (first_serving (front_of search.asked.now history)
    (asker_context (asker_of search.asked.now)) search.asked.now.query.now audit)

-- a table at this place has this schema in this history
pub record IsTableOf (search : Search) (place : Place) (history : History) (schema : Schema)
    : Type 0 where
  pub search_is : IsSearchOf search history
  pub schema_is : slice_get search.lent.schemas place ≡ Some schema

-- whether the query used a row of the table at a place
abbrev pub UsesThen : Search → Place → BornRow → Bool → Type 0
UsesThen search place kept used =
    (history : History) (schema : Schema) → IsTableOf search place history schema
    → (at : Place) → slice_get (table_rows schema (front_of search.asked.now history)) at ≡ Some kept
    → used ≡ uses_row (front_of search.asked.now history) (asker_context (asker_of search.asked.now))
    search.asked.now.query.now schema kept

-- whether the query used some row about the patient in the table at a place; if the result is
-- false, it used none
abbrev pub UsesAny : Search → Place → Bool → Type 0
UsesAny search place used =
    (history : History) (schema : Schema) → IsTableOf search place history schema
    → used ≡ false → used_rows (front_of search.asked.now history)
    (asker_context (asker_of search.asked.now)) search.asked.now.query.now search.asked.now.patient schema ≡ []

-- what the query saw of those among some rows that are about the patient and that it used
abbrev pub rows_accesses : Search → History → Schema → List BornRow → List Access
rows_accesses search front schema rows =
    let asker = asker_of search.asked.now in
    let query = search.asked.now.query.now in
    map (access_to front asker query schema)
    (filter (λ kept. is_patients_row search.asked.now.patient schema kept
    && uses_row front (asker_context asker) query schema kept) rows)

-- the access to a row is added, if there is one
abbrev pub AddsRow : Search → Place → BornRow → List Access → List Access → Type 0
AddsRow search place kept old new =
    (history : History) (schema : Schema) → IsTableOf search place history schema
    → (at : Place) → slice_get (table_rows schema (front_of search.asked.now history)) at ≡ Some kept
    → new ≡ old ++ rows_accesses search (front_of search.asked.now history) schema (kept ∷ [])

-- the accesses to the rows of the table at a place are added
abbrev pub AddsTable : Search → Place → List Access → List Access → Type 0
AddsTable search place old new =
    (history : History) (schema : Schema) → IsTableOf search place history schema
    → new ≡ old ++ table_accesses (front_of search.asked.now history) (asker_of search.asked.now)
    search.asked.now.query.now search.asked.now.patient schema

-- the accesses to the rows of all tables are added
abbrev pub AddsAll : Search → List Access → List Access → Type 0
AddsAll search old new =
    (history : History) → IsSearchOf search history
    → new ≡ old ++ query_accesses (front_of search.asked.now history) (asker_of search.asked.now)
    search.asked.now.patient search.asked.now.query.now

-- the query was asked over these tables, those of the first entries of a history with this policy
pub record IsAskedOver (asked : AskedThen) (tables : Tables) (history : History) : Type 0 where
  pub valid : is_valid meaning (front_of asked history) ≡ true
  pub book : BookRepresents asked.book.now history
  pub tables_are : TablesStandFor tables (front_of asked history)
  pub created : are_created (front_of asked history) asked.query.now.tables ≡ true

-- the accesses of a query over some tables are added
abbrev pub AddsQuery : AskedThen → Tables → List Access → List Access → Type 0
AddsQuery asked tables old new =
    (history : History) → IsAskedOver asked tables history
    → new ≡ old ++ query_accesses (front_of asked history) (asker_of asked) asked.patient
    asked.query.now
