-- From tables that exist and rules in force to the tuple that an audit shares with a question that
-- is asked next.
use Rattle.std.proofs.Common.{◌≡◌, ◌∙◌, sym, ap, refl, subst, arith, ℤ, ◌+◌, ◌-◌, Bool, true, false, List, [], ◌∷◌, map, length, take, Option, None, Some}
use Rattle.std.specs.Prelude.{◌&&◌, is_some, option_and_then, if◌then◌else◌}
use Rattle.std.specs.List.{AllByRecursion, cons_option}
use Rattle.std.specs.Option.{option_map_or}
use Rattle.std.proofs.lemmas.Bool.{and_parts, false≢true, and_from}
use Rattle.std.proofs.lemmas.List.{take_all}
use Rattle.hippo_values.specs.Texts.{Txt}
use Rattle.hippo_values.specs.declared.names.Name.{Name}
use Rattle.hippo_model.specs.declared.audit.Audit.{Audit}
use Rattle.hippo_model.specs.declared.audit.SharedRow.{SharedRow}
use Rattle.hippo_model.specs.declared.entry.Entry.{Entry}
use Rattle.hippo_model.specs.declared.policy.TableRules.{TableRules}
use Rattle.hippo_model.specs.declared.query.Query.{Query}
use Rattle.hippo_model.specs.declared.schema.Schema.{Schema}
use Rattle.hippo_model.specs.Audits.{is_candidate, shared_by, shared_tuple, first_serving}
use Rattle.hippo_model.specs.Columns.{names_all}
use Rattle.hippo_model.specs.Histories.{schema_at}
use Rattle.hippo_model.specs.Masking.{Choices}
use Rattle.hippo_tables_keyed.specs.RowSets.{KeyedRows, kept_at}
use Rattle.hippo_model.specs.Rules.{choice_at}
use Rattle.hippo_model.specs.Terms.{History}
use Rattle.hippo_model.specs.Verdicts.{Context, context_of}
use Rattle.hippo_tables.specs.declared.tables.Tables.{Tables}
use Rattle.hippo_tables.specs.Standing.{TablesStandFor, AreKeptTables, are_created, schemas_at}
use Rattle.hippo_typing.specs.Meanings.{meaning}
use Rattle.hippo_rewrite.specs.RewritingLaws.{rules_at}
use Rattle.hippo_tables.proofs.NamedLemmas.{are_created-AreKeptTables, schemas_are}
use Rattle.hippo_audit_search.specs.Sharing.{HaveSameRows}
use Rattle.hippo_audit_search.specs.HistoryLaws.{sets_at}
use Rattle.hippo_audit_needs.specs.Examining.{AreOfHistory}
use Rattle.hippo_audit_needs.specs.Seen.{AreCommonColumns}
use Rattle.hippo_audit_needs.proofs.RowLemmas.{same_rows}
use Rattle.hippo_audit_job.specs.declared.past.Past.{Past}
use Rattle.hippo_audit_job.specs.Examining.{IsAuditOf}
use Rattle.hippo_audit_needs.proofs.PastLemmas.{created_by_meaning, are_common}
use Rattle.hippo_watch.specs.declared.alarms.AskedNow.{AskedNow}
use Rattle.hippo_watch.specs.Alarms.{AreOfSome, IsPresentOf, asked_next, IsAskedNext, ServesNow, SharesNext}

-- ---- tables that exist
all_created : (history : History) (names : List Name) → AllByRecursion (λ table. is_some (schema_at history table) ≡ true) names → are_created history names ≡ true
all_created history [] all = refl
all_created history (name ∷ names) all =
    and_from (is_some (schema_at history name)) (are_created history names) all.0 (all_created history names all.1)

abbrev set_of : History → Option Schema → KeyedRows
set_of history found = option_map_or (λ schema. kept_at schema history) found (record { key = []; rows = [] })

first_set : (history : History) (found : Option Schema) (schemas : List Schema) (sets : List KeyedRows) → is_some found ≡ true → map (λ schema. kept_at schema history) schemas ≡ sets
    → map (λ schema. kept_at schema history) (cons_option found schemas) ≡ set_of history found ∷ sets
first_set history None schemas sets some rest = absurd (false≢true some)
first_set history (Some schema) schemas sets some rest = λ i. kept_at schema history ∷ rest i

sets_named : (history : History) (names : List Name) → are_created history names ≡ true → map (λ schema. kept_at schema history) (schemas_at history names) ≡ sets_at history names
sets_named history [] all = refl
sets_named history (name ∷ names) all =
    let both = and_parts (is_some (schema_at history name)) (are_created history names) all in
    first_set history (schema_at history name) (schemas_at history names) (sets_at history names) both.0 (sets_named history names both.1)

module _ (tables : Tables) (query audit : List Name) (query_sets audit_sets : List KeyedRows) (query_kept : AreKeptTables tables query) (audit_kept : AreKeptTables tables audit)
    (query_is : (history : History) → TablesStandFor tables history → query_sets ≡ map (λ schema. kept_at schema history) (schemas_at history query))
    (audit_is : (history : History) → TablesStandFor tables history → audit_sets ≡ map (λ schema. kept_at schema history) (schemas_at history audit)) where
  query_at : (history : History) → TablesStandFor tables history → query_sets ≡ sets_at history query
  query_at history stands = query_is history stands ∙ sets_named history query (are_created-AreKeptTables tables query history query_kept stands)

  audit_at : (history : History) → TablesStandFor tables history → audit_sets ≡ sets_at history audit
  audit_at history stands = audit_is history stands ∙ sets_named history audit (are_created-AreKeptTables tables audit history audit_kept stands)

  -- both sides have the same rows, since each table has its rows by its name
  pub rows_same : HaveSameRows query query_sets audit audit_sets
  rows_same =
      let history : History = query_kept.history in
      subst (λ (sets : List KeyedRows). HaveSameRows query sets audit audit_sets) (sym (query_at history query_kept.stands))
      (subst (λ (sets : List KeyedRows). HaveSameRows query (sets_at history query) audit sets) (sym (audit_at history query_kept.stands))
      (same_rows (λ table. set_of history (schema_at history table)) query audit))

-- rules, rows and choices of tables that exist are those of the history
pub those_of : (past : Past) (tables : Tables) (query : Query) (audit : Audit) (query_sets audit_sets : List KeyedRows) → AreKeptTables tables query.tables → AreKeptTables tables audit.tables
    → ((history : History) → TablesStandFor tables history → query_sets ≡ map (λ schema. kept_at schema history) (schemas_at history query.tables))
    → ((history : History) → TablesStandFor tables history → audit_sets ≡ map (λ schema. kept_at schema history) (schemas_at history audit.tables))
    → (history : History) → IsPresentOf past tables history → IsAuditOf history audit → names_all query audit ≡ true → (context : Context) (schemas : List Schema) → schemas ≡ schemas_at history query.tables
    → (rules : List TableRules) → rules ≡ rules_at (take past.count history) context schemas
    → (choices : Choices) → ((subject : ℤ) (item : Name) → choices subject item ≡ choice_at (take past.count history) subject item)
    → AreOfHistory meaning history context query audit rules query_sets audit_sets choices
those_of past tables query audit query_sets audit_sets query_kept audit_kept query_is audit_is history present its names context schemas schemas_is rules rules_are choices choices_are =
    let count = present.past_is.count in
    let whole : take past.count history ≡ history = take_all past.count history (omega (arith, count)) in
    let created = are_created-AreKeptTables tables query.tables history query_kept present.tables_are in
    let chosen : choices ≡ choice_at (take past.count history) = λ i subject item. choices_are subject item i in
    record {
      schemas = schemas_at history query.tables;
      tables = record { valid = present.past_is.valid; schemas_are = schemas_are history query.tables created };
      columns = subst (λ (h : History). AreCommonColumns h query audit) whole (are_common history past.count present.past_is.valid query audit its names);
      rules_are = rules_are ∙ (λ i. rules_at (whole i) context (schemas_is i));
      query_rows = query_at tables query.tables audit.tables query_sets audit_sets query_kept audit_kept query_is audit_is history present.tables_are;
      audit_rows = audit_at tables query.tables audit.tables query_sets audit_sets query_kept audit_kept query_is audit_is history present.tables_are;
      choices_are = chosen ∙ ap (λ (h : History). choice_at h) whole;
    }

-- ---- whether all tables exist
module _ (asked : AskedNow) (audit : Audit) (answer : Bool)
    (at_hand : (history : History) → TablesStandFor asked.tables.now history → answer ≡ (are_created history audit.tables && are_created history asked.query.now.tables)) where
  module _ (some : AreOfSome asked.tables.now) (is : answer ≡ true) where
    both : (are_created some.history audit.tables ≡ true) × (are_created some.history asked.query.now.tables ≡ true)
    both = and_parts (are_created some.history audit.tables) (are_created some.history asked.query.now.tables) (sym (at_hand some.history some.stands) ∙ is)

    pub audit_kept : AreKeptTables asked.tables.now audit.tables
    audit_kept = record { history = some.history; stands = some.stands; created = both.0 }

    pub query_kept : AreKeptTables asked.tables.now asked.query.now.tables
    query_kept = record { history = some.history; stands = some.stands; created = both.1 }

  -- they do, if the history has created them
  pub nothing_missing : answer ≡ false → ServesNow asked audit None
  nothing_missing none = λ history present its names created.
      absurd (false≢true (sym none ∙ at_hand history present.tables_are
      ∙ and_from (are_created history audit.tables) (are_created history asked.query.now.tables) (all_created history audit.tables its.created) created))

-- ---- the question as the next entry
front_is : (history : History) → take (length history + 1 - 1) history ≡ history
front_is history = take_all (length history + 1 - 1) history (omega arith)

module _ (asked : AskedNow) (audit : Audit) where
  abbrev pub query : Query
  query = asked.query.now

  abbrev pub context : Context
  context = context_of asked.pair.now asked.moment

  shared_next : (history : History) (user : Name) (text : Txt) → meaning history text ≡ Some query → shared_tuple meaning history audit (asked_next history asked.moment user asked.pair.now text) ≡ shared_by history context query audit
  shared_next history user text means =
      ap (λ (h : History). option_and_then (λ q. shared_by h context q audit) (meaning h text)) (front_is history)
      ∙ ap (option_and_then (λ q. shared_by history context q audit)) means

  abbrev where_candidate : History → Bool → Option (List SharedRow)
  where_candidate history test = if test then first_serving history context query audit else None

  pub shared_then : (history : History) (entry : Entry) → IsAskedNext asked history entry → shared_tuple meaning history audit entry ≡ shared_by history context query audit
  shared_then history entry next = ap (shared_tuple meaning history audit) next.is ∙ shared_next history next.user next.text next.means

  -- a candidate shares the first tuple that serves
  pub shares_first : is_candidate context query audit ≡ true → (found : Option (List SharedRow)) → ServesNow asked audit found → SharesNext asked audit found
  shares_first candidate found serves = λ history entry next its.
      let names = (and_parts _ _ candidate).1 in
      let created = all_created history query.tables (created_by_meaning history next.text query next.present.past_is.valid next.means) in
      serves history next.present its names created ∙ sym (shared_then history entry next ∙ ap (where_candidate history) candidate)

  -- a question that is no candidate shares nothing
  pub shares_nothing : is_candidate context query audit ≡ false → SharesNext asked audit None
  shares_nothing none = λ history entry next its.
      sym (shared_then history entry next ∙ ap (where_candidate history) none)
