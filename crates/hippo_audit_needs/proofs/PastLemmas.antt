-- Tables of a valid history, and of its first entries.
use Rattle.std.proofs.Common.{◌≡◌, ◌≢◌, ◌∙◌, sym, ap, refl, subst, arith, ℕ, zero, suc, ◌<◌, Bool, true, false, ◌&&◌, ◌||◌, List, [], ◌∷◌, ◌++◌, map, length, take, drop, Option, None, Some}
use Rattle.std.specs.Prelude.{IfSome, is_none, is_some, flat_map, nat_lt, slice_index_or, bytes_eq}
use Rattle.std.specs.Bool.{then_some}
use Rattle.std.specs.List.{AllByRecursion, list_any, list_all}
use Rattle.std.specs.Option.{option_or, option_map_or}
use Rattle.std.proofs.lemmas.Bool.{and_parts, false≢true, or_left, or_right}
use Rattle.std.proofs.lemmas.Bool.Decides.{nat_tests}
use Rattle.std.proofs.lemmas.List.{take-append-drop}
use Rattle.std.proofs.lemmas.Option.{none-some}
use Rattle.std.proofs.lemmas.Slice.Eq.{bytes_eq-Decides}
use Rattle.hippo_values.specs.Names.{begins_with_letter}
use Rattle.hippo_values.specs.Texts.{Txt}
use Rattle.hippo_values.specs.declared.names.Name.{Name}
use Rattle.hippo_model.specs.declared.audit.Audit.{Audit}
use Rattle.hippo_model.specs.declared.entry.Act.{Act}
use Rattle.hippo_model.specs.declared.entry.Act.TheVariants.{Create, Insert, Update, Delete}
use Rattle.hippo_model.specs.declared.entry.Entry.{Entry}
use Rattle.hippo_model.specs.declared.name_fault.NameFault.{NameFault}
use Rattle.hippo_model.specs.declared.name_fault.NameFault.TheVariants.{UnknownTable}
use Rattle.hippo_model.specs.declared.query.Query.{Query}
use Rattle.hippo_model.specs.declared.query.Ref.{Ref}
use Rattle.hippo_model.specs.declared.schema.Schema.{Schema}
use Rattle.hippo_stmt_ast.specs.declared.statement.RawSelect.{RawSelect}
use Rattle.hippo_model.specs.Columns.{named_column, query_columns, same_column, names_all}
use Rattle.hippo_model.specs.Histories.{schema_created, schema_at}
use Rattle.hippo_model.specs.Keepable.{act_is_keepable}
use Rattle.hippo_model.specs.Rows.{table_rows}
use Rattle.hippo_tables_keyed.specs.RowSets.{KeyedRows, kept_at}
use Rattle.hippo_model.specs.StoredForms.{table_changed}
use Rattle.hippo_model.specs.Terms.{History, Place}
use Rattle.hippo_model.specs.Validity.{is_acceptable, is_valid, table_passes}
use Rattle.hippo_model.specs.Versions.{is_version}
use Rattle.hippo_model.proofs.LastWords.{last_word-append}
use Rattle.hippo_model_laws.proofs.ValidFronts.{front_is_valid, holds_of_each_valid}
use Rattle.hippo_typing_catalog.specs.Catalogs.{KnownNames, known_at, table_of}
use Rattle.hippo_typing_catalog.specs.Refusals.{fault_if, unknown_table}
use Rattle.hippo_typing_catalog.specs.Selects.{select_refused}
use Rattle.hippo_typing.specs.Meanings.{meaning}
use Rattle.hippo_typing.specs.ResolutionLaws.{NamesAreThoseOf}
use Rattle.hippo_typing.proofs.CatalogTheorem.{valid_names}
use Rattle.hippo_typing.proofs.MeaningTheorem.{Means-found}
use Rattle.hippo_backlog.specs.Backlogs.{is_version_of, versions_of}
use Rattle.hippo_backlog.proofs.VersionsTheorem.{kept_at-versions, stands_at, may_there, schemas_last}
use Rattle.hippo_audit_job.specs.Examining.{IsColumnOf, IsAuditOf}
use Rattle.hippo_audit_needs.specs.Seen.{IsCommon, AreCommonColumns}

module _ (history : History) (number : ℕ) (valid : is_valid meaning history ≡ true) where
  both_parts : take number history ++ drop number history ≡ history
  both_parts = take-append-drop number history

  -- the first entries of a valid history are valid
  pub front_valid : is_valid meaning (take number history) ≡ true
  front_valid = front_is_valid meaning (take number history) (drop number history) (ap (is_valid meaning) both_parts ∙ valid)

  -- a table keeps the schema that it had then
  pub lasting : (table : Name) (schema : Schema) → schema_at (take number history) table ≡ Some schema → schema_at history table ≡ Some schema
  lasting table schema is =
      ap (λ (h : History). schema_at h table) (sym both_parts)
      ∙ schemas_last meaning (take number history) (drop number history) table schema (ap (is_valid meaning) both_parts ∙ valid) is

-- ---- no rows before a table is created
some_of : {A : Type 0} (test : A → Bool) (found : Option A) → option_map_or test found false ≡ true → is_some found ≡ true
some_of test None passes = absurd (false≢true passes)
some_of test (Some x) passes = refl

module _ (front : History) (valid : is_valid meaning front ≡ true) (table : Name) where
  version_created : (earlier : History) (act : Act) → (is_version act && bytes_eq (table_changed act) table) ≡ true → is_acceptable meaning earlier act ≡ true → is_some (schema_at earlier table) ≡ true
  version_created earlier (Insert other row) passes fits = ap (λ (name : Name). is_some (schema_at earlier name)) (sym ((bytes_eq-Decides other table).0 passes)) ∙ some_of _ (schema_at earlier other) fits
  version_created earlier (Update other row) passes fits = ap (λ (name : Name). is_some (schema_at earlier name)) (sym ((bytes_eq-Decides other table).0 passes)) ∙ some_of _ (schema_at earlier other) fits
  version_created earlier (Delete other key) passes fits = ap (λ (name : Name). is_some (schema_at earlier name)) (sym ((bytes_eq-Decides other table).0 passes)) ∙ some_of _ (schema_at earlier other) fits
  version_created earlier act passes fits = absurd (false≢true passes)

  refuted : schema_at front table ≡ None → (earlier later : History) → front ≡ earlier ++ later → (found : Option Schema) → schema_at earlier table ≡ found → is_some found ≡ true → ⊥
  refuted none earlier later parts None is some = false≢true some
  refuted none earlier later parts (Some schema) is some =
      none-some schema (sym none ∙ ap (λ (h : History). schema_at h table) parts ∙ schemas_last meaning earlier later table schema (ap (is_valid meaning) (sym parts) ∙ valid) is)

  none_of : schema_at front table ≡ None → (found : History) → versions_of table front ≡ found → found ≡ []
  none_of none [] is = refl
  none_of none (entry ∷ later) is =
      let there = stands_at (is_version_of table) front [] later entry is in
      let may = may_there meaning there.front there.remaining entry (ap (is_valid meaning) (sym there.whole) ∙ valid) in
      let made = version_created there.front entry.act there.passes (and_parts _ _ may).1 in
      absurd (refuted none there.front (entry ∷ there.remaining) there.whole (schema_at there.front table) refl made)

  pub no_rows_yet : (schema : Schema) → schema.name ≡ table → schema_at front table ≡ None → (kept_at schema front).rows ≡ []
  no_rows_yet schema named none =
      ap (λ (set : KeyedRows). set.rows) (kept_at-versions schema front)
      ∙ ap (table_rows schema) (ap (λ (name : Name). versions_of name front) named ∙ none_of none (versions_of table front) refl)

-- ---- the tables of a query that a text means
front_none : {A : Type 0} (front rest : List A) → front ++ rest ≡ [] → front ≡ []
front_none [] rest none = refl
front_none (first ∷ front) rest none = absurd cc

not_refused : (test : Bool) (fault : NameFault) (rest : List NameFault) → fault_if test fault ++ rest ≡ [] → (test ≡ false) × (rest ≡ [])
not_refused true fault rest none = absurd cc
not_refused false fault rest none = (refl, none)

some_if : {A : Type 0} (found : Option A) → is_none found ≡ false → is_some found ≡ true
some_if None is = absurd cc
some_if (Some value) is = refl

abbrev IsCreated : History → Name → Type 0
IsCreated history table = is_some (schema_at history table) ≡ true

-- tables that are not refused are created
unrefused : (history : History) (names : List Name) → NamesAreThoseOf history → flat_map (unknown_table (known_at history)) names ≡ [] → AllByRecursion (IsCreated history) names
unrefused history [] known none = tt
unrefused history (name ∷ names) known none =
    let parts = not_refused (is_none (table_of (known_at history) name)) (UnknownTable name) (flat_map (unknown_table (known_at history)) names) none in
    (ap is_some (sym (known.tables name)) ∙ some_if (table_of (known_at history) name) parts.0, unrefused history names known parts.1)

tables_known : (known : KnownNames) (select : RawSelect) → select_refused known select ≡ [] → flat_map (unknown_table known) select.tables ≡ []
tables_known known select none = front_none _ _ (front_none _ _ (front_none _ _ (front_none _ _ (front_none _ _ (front_none _ _ none)))))

-- the tables of a query that a text means are created
pub created_by_meaning : (front : History) (text : Txt) (query : Query) → is_valid meaning front ≡ true → meaning front text ≡ Some query → AllByRecursion (λ (table : Name). is_some (schema_at front table) ≡ true) query.tables
created_by_meaning front text query valid is =
    let means = Means-found (known_at front) text query is in
    subst (λ (q : Query). AllByRecursion (IsCreated front) q.tables) (sym means.meant)
    (unrefused front means.select.tables (valid_names meaning front valid) (tables_known (known_at front) means.select means.right))

-- ---- the audited columns
then_some-false : {A : Type 0} (value : A) (test : Bool) → test ≡ false → then_some test value ≡ None
then_some-false value test is = rw is refl

nameless : (act : Act) → act_is_keepable act ≡ true → schema_created [] act ≡ None
nameless (Create schema) keepable =
    elim (bytes_eq schema.name []) as (λ same. bytes_eq schema.name [] ≡ same → then_some same schema ≡ None) [
      | true ↦ λ same.
          let folded = (and_parts _ _ (and_parts _ _ (and_parts _ _ keepable).0).0).0 in
          let name = (and_parts _ _ folded).0 in
          let word = (and_parts _ _ (and_parts _ _ name).0).0 in
          let letter = (and_parts _ _ word).0 in
          absurd (not_empty schema.name ((bytes_eq-Decides schema.name []).0 same) letter)
      | false ↦ λ same. refl
    ] refl
  where
    not_empty : (name : Name) → name ≡ [] → begins_with_letter name ≡ true → ⊥
    not_empty [] is letter = false≢true letter
    not_empty (byte ∷ rest) is letter = absurd cc
nameless act keepable = refl

-- no table of a valid history has the empty name
pub all_named : (history : History) → is_valid meaning history ≡ true → schema_at history [] ≡ None
all_named history valid =
    holds_of_each_valid meaning (λ h. schema_at h [] ≡ None)
    (λ h entry good so_far may.
    let keepable = (and_parts _ _ (and_parts _ _ (and_parts _ _ may).0).0).0 in
    last_word-append (λ (e : Entry). schema_created [] e.act) h entry
    ∙ ap (λ word. option_or word (schema_at h [])) (nameless entry.act (and_parts _ _ keepable).1) ∙ so_far)
    refl history valid

or_parts : (first second : Bool) → (first || second) ≡ true → (first ≡ false → second ≡ true)
or_parts true second e is = absurd cc
or_parts false second e is = e

-- a name at a place is in the list, or it is empty
stands : (names : List Name) (place : Place) (table : Name) → table ≢ [] → bytes_eq table (slice_index_or names place []) ≡ true → list_any (bytes_eq table) names ≡ true
stands [] place table some same = absurd (some ((bytes_eq-Decides table []).0 same))
stands (name ∷ names) zero table some same = or_left (bytes_eq table name) (list_any (bytes_eq table) names) same
stands (name ∷ names) (suc place) table some same = or_right (bytes_eq table name) (list_any (bytes_eq table) names) (stands names place table some same)

module _ (tables : List Name) (table : Name) (place : Place) (some : table ≢ []) where
  table_named : (columns : List Ref) → list_any (same_column (table, place)) (map (named_column tables) columns) ≡ true → list_any (bytes_eq table) tables ≡ true
  table_named [] any = absurd (false≢true any)
  table_named (column ∷ columns) any =
      elim (same_column (table, place) (named_column tables column)) as (λ first. same_column (table, place) (named_column tables column) ≡ first → list_any (bytes_eq table) tables ≡ true) [
        | true ↦ λ is. stands tables column.table table some (and_parts _ _ is).0
        | false ↦ λ is. table_named columns (or_parts _ _ any is)
      ] refl

below : (low high : ℕ) → nat_lt low high ≡ true → low < high
below low high is = grind (arith, is)

module _ (history : History) (number : ℕ) (valid : is_valid meaning history ≡ true) (query : Query) where
  is_common : (audit : Audit) → (column : Ref) → IsColumnOf history audit.tables column → list_any (same_column (named_column audit.tables column)) (query_columns query) ≡ true → IsCommon (take number history) query audit column
  is_common audit column its names =
      let table : Name = slice_index_or audit.tables column.table [] in
      let made = some_of _ (schema_at history table) its.within in
      let some : table ≢ [] = λ e. false≢true (sym (ap (λ (name : Name). is_some (schema_at history name)) e ∙ ap is_some (all_named history valid)) ∙ made) in
      (its.table, table_named query.tables table column.column some _ names, within table (schema_at (take number history) table) refl its.within)
    where
      within : (table : Name) (found : Option Schema) → schema_at (take number history) table ≡ found → table_passes history (λ schema. nat_lt column.column (length schema.columns)) table ≡ true → IfSome found (λ schema. column.column < length schema.columns)
      within table None is passes = tt
      within table (Some schema) is passes =
          below column.column (length schema.columns) (sym (ap (λ found. option_map_or (λ (s : Schema). nat_lt column.column (length s.columns)) found false) (lasting history number valid table schema is)) ∙ passes)

-- the query has the tables of the audited columns
pub are_common : (history : History) (number : ℕ) → is_valid meaning history ≡ true → (query : Query) (audit : Audit) → IsAuditOf history audit → names_all query audit ≡ true → AreCommonColumns (take number history) query audit
are_common history number valid query audit its names = each audit.columns its.columns names
  where
    each : (columns : List Ref) → AllByRecursion (IsColumnOf history audit.tables) columns → list_all (λ (column : Ref). list_any (same_column (named_column audit.tables column)) (query_columns query)) columns ≡ true → AllByRecursion (IsCommon (take number history) query audit) columns
    each [] all names = tt
    each (column ∷ columns) all names =
        let both = and_parts _ _ names in
        (is_common history number valid query audit column all.0 both.0, each columns all.1 both.1)

-- ---- empty lists
pub no_length : {A : Type 0} (rows : List A) → nat_lt 0 (length rows) ≡ false → rows ≡ []
no_length [] is = refl
no_length (row ∷ rows) is = absurd (false≢true (sym is ∙ some_length (length rows)))
  where
    some_length : (n : ℕ) → nat_lt 0 (suc n) ≡ true
    some_length n = grind (arith, nat_tests)

pub flat_map_none : {A B : Type 0} (f : A → List B) → ((x : A) → f x ≡ []) → (xs : List A) → flat_map f xs ≡ []
flat_map_none f none [] = refl
flat_map_none f none (x ∷ xs) = λ i. (none x i) ++ flat_map_none f none xs i
