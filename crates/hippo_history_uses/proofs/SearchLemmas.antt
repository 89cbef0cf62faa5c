-- The accesses to the rows of a table, and of all tables of a query.
use Rattle.std.proofs.Common.{◌≡◌, ◌∙◌, sym, ap, refl, subst, ℕ, zero, suc, ◌<◌, ◌+◌, Bool, true, false, cond, List, [], ◌∷◌, ◌++◌, map, filter, length, drop, get_or, Option, None, Some, append_assoc, append-nil, arith}
use Rattle.std.specs.Prelude.{◌&&◌, is_some, option_and_then, slice_get, slice_index_or, flat_map, bytes_eq}
use Rattle.std.specs.List.{list_any}
use Rattle.std.specs.Option.{option_map_or}
use Rattle.std.proofs.lemmas.Bool.{false≢true, or_left, or_right}
use Rattle.std.proofs.lemmas.List.{map-append, get_or-map}
use Rattle.std.proofs.lemmas.List.Elements.{filter-append}
use Rattle.std.proofs.lemmas.Option.{none-some, same_Some}
use Rattle.std.proofs.lemmas.Slice.Eq.{bytes_eq-Decides}
use Rattle.hippo_values.specs.declared.names.Name.{Name}
use Rattle.hippo_values.specs.declared.values.Value.TheVariants.{Int}
use Rattle.hippo_model.specs.declared.audit.Audit.{Audit}
use Rattle.hippo_model.specs.declared.born_row.BornRow.{BornRow}
use Rattle.hippo_model.specs.declared.query.CondOf.{CondOf}
use Rattle.hippo_model.specs.declared.query.Operand.{Operand}
use Rattle.hippo_model.specs.declared.schema.Schema.{Schema}
use Rattle.hippo_model.specs.Audits.{first_serving}
use Rattle.hippo_model.specs.Histories.{schema_at}
use Rattle.hippo_model.specs.Rows.{table_rows}
use Rattle.hippo_model.specs.Terms.{History, Place}
use Rattle.hippo_tables_keyed.specs.RowSets.{KeyedRows, kept_at}
use Rattle.hippo_model.specs.Validity.{is_valid}
use Rattle.hippo_policy.specs.Books.{BookRepresents}
use Rattle.hippo_tables.specs.declared.tables.Tables.{Tables}
use Rattle.hippo_tables.proofs.StandingLemmas.{schema_at-named}
use Rattle.hippo_rewrite.specs.RewritingLaws.{rules_at}
use Rattle.hippo_typing.specs.Meanings.{meaning}
use Rattle.hippo_typing_catalog.proofs.ListLemmas.{drop_at_item}
use Rattle.hippo_audit_common.specs.Commons.{place_in}
use Rattle.hippo_audit_search.specs.HistoryLaws.{AuditNeedsWhatItHas}
use Rattle.hippo_audit_search.proofs.CommonLemmas.{same_as_itself, place-found}
use Rattle.hippo_history_formats.specs.declared.access.Access.{Access}
use Rattle.hippo_history_uses.specs.declared.asked.AskedThen.{AskedThen}
use Rattle.hippo_history_uses.specs.declared.lending.LentTables.{LentTables}
use Rattle.hippo_history_uses.specs.declared.searching.Search.{Search}
use Rattle.hippo_history_uses.specs.Accesses.{asker_context, access_to, table_accesses, query_accesses}
use Rattle.hippo_history_uses.specs.Asking.{asker_of, front_of}
use Rattle.hippo_history_uses.specs.Conditions.{column_is, key_is, audit_of_rows}
use Rattle.hippo_history_uses.specs.Lending.{AreThoseOf, LendsEach, LendsTables}
use Rattle.hippo_history_uses.specs.Searching.{IsSearchOf, IsAskedOver, IsBegun, AddsQuery, HoldsEachTable, IsSeat, IsSubjectOf, IsTableOf, SharesThen, UsesThen, UsesAny, AddsTable, AddsAll, rows_accesses, table_there}
use Rattle.hippo_history_uses.specs.Uses.{is_patients_row, uses_row, used_rows}
use Rattle.hippo_history_uses.proofs.RowLemmas.{any_at}
use Rattle.hippo_history_uses.proofs.SharingLemmas.{got}
use Rattle.hippo_history_uses.proofs.UseLemmas.{uses-by_key, none-by_number, none-without}

-- the member of a mapped list at a place
mapped_at : {A B : Type 0} (f : A → B) (members : List A) (place : Place) (member : A) → slice_get members place ≡ Some member → slice_get (map f members) place ≡ Some (f member)
mapped_at f [] place member at = absurd (none-some member at)
mapped_at f (first ∷ rest) zero member at = ap (λ m. Some (f m)) (same_Some first member at)
mapped_at f (first ∷ rest) (suc place) member at = mapped_at f rest place member at

-- the name at a place is in the list
stands_in : (names : List Name) (place : Place) → place < length names → list_any (bytes_eq (slice_index_or names place [])) names ≡ true
stands_in [] place within = absurd (omega (arith, within))
stands_in (name ∷ names) zero within = or_left (bytes_eq name name) (list_any (bytes_eq name) names) (same_as_itself name)
stands_in (name ∷ names) (suc place) within =
    or_right (bytes_eq (slice_index_or names place []) name) (list_any (bytes_eq (slice_index_or names place [])) names) (stands_in names place (omega (arith, within)))

module _ (search : Search) (place : Place) (seat : IsSeat search place) (history : History) (schema : Schema) (its : IsTableOf search place history schema) where
  abbrev names : List Name
  names = search.asked.now.query.now.tables

  abbrev front : History
  front = front_of search.asked.now history

  -- the table was created with this schema
  pub created_there : schema_at front (table_there search place) ≡ Some schema
  created_there =
      sym (get_or-map (schema_at front) names place [] None seat.within)
      ∙ ap (λ (found : List (Option Schema)). get_or found place None) its.search_is.tables.schemas
      ∙ got (map Some search.lent.schemas) place (Some schema) None (mapped_at Some search.lent.schemas place schema its.schema_is)

  pub named : table_there search place ≡ schema.name
  named = sym ((bytes_eq-Decides schema.name (table_there search place)).0 (schema_at-named front (table_there search place) schema created_there))

  pub created_so : schema_at front schema.name ≡ Some schema
  created_so = ap (schema_at front) (sym named) ∙ created_there

  pub among : list_any (bytes_eq schema.name) names ≡ true
  among = subst (λ (name : Name). list_any (bytes_eq name) names ≡ true) named (stands_in names place seat.within)

  -- the rows of the table are those that are lent
  pub rows_are : (set : KeyedRows) → slice_get search.lent.sets place ≡ Some set → set.rows ≡ table_rows schema front
  rows_are set at =
      ap (λ (s : KeyedRows). s.rows)
      (same_Some set (kept_at schema front)
      (sym at ∙ ap (λ (sets : List KeyedRows). slice_get sets place) its.search_is.tables.sets ∙ mapped_at (λ (s : Schema). kept_at s front) search.lent.schemas place schema its.schema_is))

-- ---- uses
module _ (law : AuditNeedsWhatItHas) (search : Search) (place : Place) (seat : IsSeat search place) where
  abbrev audit_there : CondOf Operand → Audit
  audit_there condition = audit_of_rows (table_there search place) search.asked.now.moment [] condition

  abbrev shared_then : History → Name → CondOf Operand → Bool
  shared_then history name condition =
      is_some (first_serving (front_of search.asked.now history) (asker_context (asker_of search.asked.now)) search.asked.now.query.now (audit_of_rows name search.asked.now.moment [] condition))

  -- an audit of a row's key shares something exactly where the query used the row
  pub uses_then : (schema : Schema) (kept : BornRow) (used : Bool) → slice_get search.lent.schemas place ≡ Some schema → SharesThen search (audit_there (key_is schema.key kept.row)) used → UsesThen search place kept used
  uses_then schema kept used at shares = λ history other its row there.
      let same : other ≡ schema = same_Some other schema (sym its.schema_is ∙ at) in
      shares history its.search_is
      ∙ ap (λ (name : Name). shared_then history name (key_is schema.key kept.row)) (named search place seat history other its)
      ∙ ap (λ (s : Schema). shared_then history other.name (key_is s.key kept.row)) (sym same)
      ∙ uses-by_key law (front_of search.asked.now history) (asker_context (asker_of search.asked.now)) search.asked.now.query.now other search.asked.now.moment
      (created_so search place seat history other its) (among search place seat history other its) row kept there

  -- if an audit of the patient's number shares nothing, the query used no row about the patient
  pub uses_any : (subject : Place) (used : Bool) → IsSubjectOf search place subject → SharesThen search (audit_there (column_is subject (Int search.asked.now.patient))) used → UsesAny search place used
  uses_any subject used is shares = λ history schema its none.
      none-by_number law (front_of search.asked.now history) (asker_context (asker_of search.asked.now)) search.asked.now.query.now schema search.asked.now.moment
      (created_so search place seat history schema its) (among search place seat history schema its) subject search.asked.now.patient
      (sym (ap (option_and_then (λ (s : Schema). s.subject)) its.schema_is) ∙ is)
      (sym (ap (λ (name : Name). shared_then history name (column_is subject (Int search.asked.now.patient))) (named search place seat history schema its)) ∙ sym (shares history its.search_is) ∙ none)

-- ---- rows
module _ (search : Search) (front : History) (schema : Schema) where
  abbrev access : BornRow → Access
  access kept = access_to front (asker_of search.asked.now) search.asked.now.query.now schema kept

  abbrev counts : BornRow → Bool
  counts kept = is_patients_row search.asked.now.patient schema kept && uses_row front (asker_context (asker_of search.asked.now)) search.asked.now.query.now schema kept

  pub rows-append : (first rest : List BornRow) → rows_accesses search front schema (first ++ rest) ≡ rows_accesses search front schema first ++ rows_accesses search front schema rest
  rows-append first rest = ap (map access) (filter-append counts first rest) ∙ map-append access (filter counts first) (filter counts rest)

  -- the accesses to one more row
  pub row_turn : (rows : List BornRow) (place : Place) (kept : BornRow) (accesses more whole : List Access) → slice_get rows place ≡ Some kept
      → accesses ++ rows_accesses search front schema (drop place rows) ≡ whole → more ≡ accesses ++ rows_accesses search front schema (kept ∷ [])
      → more ++ rows_accesses search front schema (drop (place + 1) rows) ≡ whole
  row_turn rows place kept accesses more whole at so_far added =
      ap (λ l. l ++ rows_accesses search front schema (drop (place + 1) rows)) added
      ∙ append_assoc accesses (rows_accesses search front schema (kept ∷ [])) (rows_accesses search front schema (drop (place + 1) rows))
      ∙ ap (λ l. accesses ++ l) (sym (rows-append (kept ∷ []) (drop (place + 1) rows)))
      ∙ ap (λ (left : List BornRow). accesses ++ rows_accesses search front schema left) (sym (drop_at_item rows place kept at))
      ∙ so_far

  none_left : (rows : List BornRow) → drop (length rows) rows ≡ []
  none_left [] = refl
  none_left (kept ∷ rows) = none_left rows

  -- after the last row, all accesses are added
  pub rows_done : (rows : List BornRow) (row : ℕ) (accesses whole : List Access) → row ≡ length rows → accesses ++ rows_accesses search front schema (drop row rows) ≡ whole → accesses ≡ whole
  rows_done rows row accesses whole end so_far =
      sym (append-nil accesses)
      ∙ ap (λ (left : List BornRow). accesses ++ rows_accesses search front schema left) (sym (ap (λ (n : ℕ). drop n rows) end ∙ none_left rows))
      ∙ so_far

  one_counts : (kept : BornRow) (test : Bool) → counts kept ≡ test → rows_accesses search front schema (kept ∷ []) ≡ cond test (access kept ∷ []) []
  one_counts kept true is = ap (λ b. map access (cond b (kept ∷ []) [])) is
  one_counts kept false is = ap (λ b. map access (cond b (kept ∷ []) [])) is

  -- a row that does not count adds nothing
  pub not_added : (kept : BornRow) (old : List Access) → counts kept ≡ false → old ≡ old ++ rows_accesses search front schema (kept ∷ [])
  not_added kept old is = sym (append-nil old) ∙ ap (λ l. old ++ l) (sym (one_counts kept false is))

  pub one_added : (kept : BornRow) (old new : List Access) (made : Access) → counts kept ≡ true → made ≡ access kept → new ≡ old ++ made ∷ [] → new ≡ old ++ rows_accesses search front schema (kept ∷ [])
  one_added kept old new made is same added = added ∙ ap (λ (a : Access). old ++ a ∷ []) same ∙ ap (λ l. old ++ l) (sym (one_counts kept true is))

-- ---- tables
-- no row is used, so nothing is added
pub none_added : (search : Search) (place : Place) (accesses : List Access)
    → ((history : History) (schema : Schema) → IsTableOf search place history schema → used_rows (front_of search.asked.now history) (asker_context (asker_of search.asked.now)) search.asked.now.query.now search.asked.now.patient schema ≡ [])
    → AddsTable search place accesses accesses
none_added search place accesses none = λ history schema its.
    sym (append-nil accesses) ∙ ap (λ (rows : List BornRow). accesses ++ map (access_to (front_of search.asked.now history) (asker_of search.asked.now) search.asked.now.query.now schema) rows) (sym (none history schema its))

pub none_without : (search : Search) (place : Place) (schema : Schema) (accesses : List Access) → slice_get search.lent.schemas place ≡ Some schema → schema.subject ≡ None → AddsTable search place accesses accesses
none_without search place schema accesses at none =
    none_added search place accesses (λ history other its.
    none-without (front_of search.asked.now history) (asker_context (asker_of search.asked.now)) search.asked.now.query.now search.asked.now.patient other
    (ap (λ (s : Schema). s.subject) (same_Some other schema (sym its.schema_is ∙ at)) ∙ none))

-- ---- all tables
pub seat_of : (search : Search) (index : Place) (table : Name) → slice_get search.asked.now.query.now.tables index ≡ Some table → IsSeat search (place_in search.asked.now.query.now.tables table)
seat_of search index table at =
    let found = place-found search.asked.now.query.now.tables table (any_at (bytes_eq table) search.asked.now.query.now.tables index table at (same_as_itself table)) in
    record { within = found.0; first = ap (place_in search.asked.now.query.now.tables) found.1 }

abbrev pub of_table : Search → History → Name → List Access
of_table search history table =
    option_map_or (table_accesses (front_of search.asked.now history) (asker_of search.asked.now) search.asked.now.query.now search.asked.now.patient) (schema_at (front_of search.asked.now history) table) []

module _ (search : Search) (whole : HoldsEachTable search) (history : History) (its : IsSearchOf search history) where
  schema_in : (schemas : List Schema) (place : Place) → place < length schemas → ((schema : Schema) × (slice_get schemas place ≡ Some schema))
  schema_in [] place within = absurd (omega (arith, within))
  schema_in (schema ∷ rest) zero within = (schema, refl)
  schema_in (schema ∷ rest) (suc place) within = schema_in rest place (omega (arith, within))

  -- the accesses to the rows of one more table
  pub table_turn : (index : Place) (table : Name) (accesses more all : List Access) → slice_get search.asked.now.query.now.tables index ≡ Some table
      → accesses ++ flat_map (of_table search history) (drop index search.asked.now.query.now.tables) ≡ all
      → AddsTable search (place_in search.asked.now.query.now.tables table) accesses more
      → more ++ flat_map (of_table search history) (drop (index + 1) search.asked.now.query.now.tables) ≡ all
  table_turn index table accesses more all at so_far adds =
      let tables = search.asked.now.query.now.tables in
      let place = place_in tables table in
      let seat = seat_of search index table at in
      let found = place-found tables table (any_at (bytes_eq table) tables index table at (same_as_itself table)) in
      let schema = schema_in search.lent.schemas place (omega (arith, whole.schemas, found.0)) in
      let its_table : IsTableOf search place history schema.0 = record { search_is = its; schema_is = schema.1 } in
      let created : schema_at (front_of search.asked.now history) table ≡ Some schema.0 = ap (schema_at (front_of search.asked.now history)) (sym found.1) ∙ created_there search place seat history schema.0 its_table in
      ap (λ l. l ++ flat_map (of_table search history) (drop (index + 1) tables)) (adds history schema.0 its_table)
      ∙ append_assoc accesses _ (flat_map (of_table search history) (drop (index + 1) tables))
      ∙ ap (λ l. accesses ++ (l ++ flat_map (of_table search history) (drop (index + 1) tables)))
      (sym (ap (λ found. option_map_or (table_accesses (front_of search.asked.now history) (asker_of search.asked.now) search.asked.now.query.now search.asked.now.patient) found []) created))
      ∙ ap (λ (left : List Name). accesses ++ flat_map (of_table search history) left) (sym (drop_at_item tables index table at))
      ∙ so_far

-- ---- a query over its tables
module _ (asked : AskedThen) (tables : Tables) (lent : LentTables) (search : Search) (lends : LendsEach tables asked.query.now.tables lent) (begun : IsBegun asked lent search) where
  pub whole_of : HoldsEachTable search
  whole_of = record {
    schemas = (λ i. length (begun.lent_is i).schemas) ∙ lends.schemas_many ∙ sym (λ i. length (begun.asked_is i).query.now.tables);
    sets = (λ i. length (begun.lent_is i).sets) ∙ lends.sets_many ∙ sym (λ i. length (begun.asked_is i).query.now.tables);
  }

  search_of : (history : History) → IsAskedOver asked tables history → IsSearchOf search history
  search_of history its = record {
    valid = subst (λ (a : AskedThen). is_valid meaning (front_of a history) ≡ true) (sym begun.asked_is) its.valid;
    book = subst (λ (a : AskedThen). BookRepresents a.book.now history) (sym begun.asked_is) its.book;
    tables = subst (λ (l : LentTables). AreThoseOf (front_of search.asked.now history) search.asked.now.query.now.tables l) (sym begun.lent_is)
        (subst (λ (a : AskedThen). AreThoseOf (front_of a history) a.query.now.tables lent) (sym begun.asked_is) (lends.are_those (front_of asked history) its.tables_are));
    rules_are = begun.rules_are history its.book
        ∙ (λ i. rules_at (front_of (sym begun.asked_is i) history) (asker_context (asker_of (sym begun.asked_is i))) (sym begun.lent_is i).schemas);
  }

  -- what a search adds is what the query adds
  pub adds_query : (old new : List Access) → AddsAll search old new → AddsQuery asked tables old new
  adds_query old new adds = λ history its.
      subst (λ (a : AskedThen). new ≡ old ++ query_accesses (front_of a history) (asker_of a) a.patient a.query.now) begun.asked_is (adds history (search_of history its))

-- a query whose tables do not all exist was not asked over them
pub not_lent : (asked : AskedThen) (tables : Tables) (accesses : List Access) → LendsTables tables asked.query.now.tables None → AddsQuery asked tables accesses accesses
not_lent asked tables accesses none = λ history its.
    absurd (false≢true (sym (none (front_of asked history) its.tables_are) ∙ its.created))
