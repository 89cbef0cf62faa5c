-- What an audit expression means if it is not refused.
use Rattle.std.proofs.Common.{◌≡◌, ◌∙◌, sym, ap, refl, subst, arith, ℕ, zero, suc, ◌+◌, ◌<◌, Bool, true, false, cond, List, [], ◌∷◌, ◌++◌, map, length, Option, None, Some}
use Rattle.std.specs.Prelude.{nat_lt, slice_get, slice_index_or, position, is_some, is_none, filter_map, unwrap_or, option_map, bytes_eq}
use Rattle.std.specs.List.{AllByRecursion, flat_map, cons_option, enumerate_from}
use Rattle.std.specs.Option.{option_map_or}
use Rattle.std.proofs.lemmas.Bool.{lt-ltb}
use Rattle.std.proofs.lemmas.List.Quantifiers.{position-Some}
use Rattle.hippo_values.specs.declared.names.Name.{Name}
use Rattle.hippo_model.specs.declared.name_fault.NameFault.TheVariants.{UnknownTable}
use Rattle.hippo_model.specs.declared.query.Ref.{Ref}
use Rattle.hippo_model.specs.declared.schema.Column.{Column}
use Rattle.hippo_model.specs.declared.schema.Schema.{Schema}
use Rattle.hippo_stmt_ast.specs.declared.statement.RawAudit.{RawAudit}
use Rattle.hippo_stmt_ast.specs.declared.statement.RawColumn.{RawColumn}
use Rattle.hippo_model.specs.Terms.{History, Place}
use Rattle.hippo_model.specs.Histories.{schema_at}
use Rattle.hippo_model.specs.Validity.{is_valid}
use Rattle.hippo_typing_catalog.specs.declared.period.Period.{Period}
use Rattle.hippo_typing_catalog.specs.AuditExpressions.{audit_refused, audit_of}
use Rattle.hippo_typing_catalog.specs.Catalogs.{KnownNames, known_at, table_of, schemas_of}
use Rattle.hippo_typing_catalog.specs.Refusals.{fault_if, unknown_table}
use Rattle.hippo_typing_catalog.proofs.DifferLemmas.{none_of_both, names_differ, distinct_so}
use Rattle.hippo_typing_catalog.specs.WrittenColumns.{place_of, may_belong_to, home_in, candidate_columns, homes_refused, column_refused, column_of}
use Rattle.hippo_typing.specs.ResolutionLaws.{NamesAreThoseOf}
use Rattle.hippo_typing.specs.Meanings.{meaning}
use Rattle.hippo_typing.proofs.CatalogTheorem.{valid_names}
use Rattle.hippo_typing.proofs.LastingNames.{extends_later, audit_lasts}
use Rattle.hippo_audit_job.specs.Examining.{IsColumnOf, IsAuditOf}

-- the column is in the schema of its table; the places of the tables count from this one
record StandsAfter (place : ℕ) (schemas : List Schema) (column : Ref) : Type 0 where
  offset : ℕ
  table_is : column.table ≡ place + offset
  schema : Schema
  there : slice_get schemas offset ≡ Some schema
  within : nat_lt column.column (length schema.columns) ≡ true

one_further : (place : ℕ) (first : Schema) (rest : List Schema) (column : Ref) → StandsAfter (place + 1) rest column → StandsAfter place (first ∷ rest) column
one_further place first rest column stands =
    let table_is = stands.table_is in
    record {
      offset = suc stands.offset;
      table_is = omega (arith, table_is);
      schema = stands.schema;
      there = stands.there;
      within = stands.within;
    }

all_further : (place : ℕ) (first : Schema) (rest : List Schema) (columns : List Ref) → AllByRecursion (StandsAfter (place + 1) rest) columns → AllByRecursion (StandsAfter place (first ∷ rest)) columns
all_further place first rest [] all = tt
all_further place first rest (column ∷ columns) all = (one_further place first rest column all.0, all_further place first rest columns all.1)

found_within : (schema : Schema) (name : Name) (place : Place) → place_of schema name ≡ Some place → nat_lt place (length schema.columns) ≡ true
found_within schema name place found = by schema.columns refl
  where
    by : (columns : List Column) → schema.columns ≡ columns → nat_lt place (length schema.columns) ≡ true
    by [] same =
        let none = sym (ap (position (λ (known : Column). bytes_eq name known.name)) same) ∙ found in
        absurd cc
    by (first ∷ rest) same = lt-ltb place (length schema.columns) (position-Some (λ (known : Column). bytes_eq name known.name) schema.columns place first found).0

homes_there : (written : RawColumn) (place : ℕ) (schemas : List Schema) → AllByRecursion (StandsAfter place schemas) (filter_map (λ (at, schema). home_in written at schema) (enumerate_from place schemas))
homes_there written place [] = tt
homes_there written place (schema ∷ rest) =
    let later = all_further place schema rest _ (homes_there written (place + 1) rest) in
    with_home (may_belong_to written.table schema.name) (place_of schema written.column) refl _ later
  where
    with_home : (may : Bool) (found : Option Place) → place_of schema written.column ≡ found → (columns : List Ref) → AllByRecursion (StandsAfter place (schema ∷ rest)) columns
        → AllByRecursion (StandsAfter place (schema ∷ rest)) (cons_option (cond may (option_map (λ column. record { table = place; column = column }) found) None) columns)
    with_home false found is columns later = later
    with_home true None is columns later = later
    with_home true (Some column) is columns later = (record { offset = 0; table_is = omega arith; schema = schema; there = refl; within = found_within schema written.column column is }, later)

-- a column that the statement names is found there
found_there : (schemas : List Schema) (written : RawColumn) → column_refused schemas written ≡ [] → StandsAfter 0 schemas (column_of schemas written)
found_there schemas written none = by (candidate_columns schemas written) (homes_there written 0 schemas) refl
  where
    by : (found : List Ref) → AllByRecursion (StandsAfter 0 schemas) (candidate_columns schemas written) → candidate_columns schemas written ≡ found → StandsAfter 0 schemas (column_of schemas written)
    by [] all is =
        let none_there = sym (ap (homes_refused written) is) ∙ none in
        absurd cc
    by (home ∷ rest) all is =
        let first : column_of schemas written ≡ home = ap (λ (l : List Ref). unwrap_or (slice_get l 0) (record { table = 0; column = 0 })) is in
        subst (StandsAfter 0 schemas) (sym first) (subst (AllByRecursion (StandsAfter 0 schemas)) is all).0

module _ (known : KnownNames) where
  known_table : (table : Name) → unknown_table known table ≡ [] → ((schema : Schema) × (table_of known table ≡ Some schema))
  known_table table none = by (table_of known table) refl
    where
      by : (found : Option Schema) → table_of known table ≡ found → ((schema : Schema) × (table_of known table ≡ Some schema))
      by None is =
          let some = sym (ap (λ (o : Option Schema). fault_if (is_none o) (UnknownTable table)) is) ∙ none in
          absurd cc
      by (Some schema) is = (schema, is)

  -- the schema at a place is that of the table at that place
  table_there : (tables : List Name) → flat_map (unknown_table known) tables ≡ [] → (place : ℕ) (schema : Schema) → slice_get (schemas_of known tables) place ≡ Some schema → (place < length tables) × (table_of known (slice_index_or tables place []) ≡ Some schema)
  table_there [] none place schema is = absurd cc
  table_there (table ∷ rest) none place schema is =
      let both = none_of_both (unknown_table known table) (flat_map (unknown_table known) rest) none in
      let first = known_table table both.0 in
      let schemas : schemas_of known (table ∷ rest) ≡ first.0 ∷ schemas_of known rest = ap (λ (o : Option Schema). cons_option o (schemas_of known rest)) first.1 in
      by place first.0 first.1 both.1 (sym (ap (λ (l : List Schema). slice_get l place) schemas) ∙ is) (λ later. table_there rest both.1 later schema)
    where
      by : (place : ℕ) (first : Schema) → table_of known table ≡ Some first → flat_map (unknown_table known) rest ≡ [] → slice_get (first ∷ schemas_of known rest) place ≡ Some schema → ((later : ℕ) → slice_get (schemas_of known rest) later ≡ Some schema → (later < length rest) × (table_of known (slice_index_or rest later []) ≡ Some schema)) → (place < length (table ∷ rest)) × (table_of known (slice_index_or (table ∷ rest) place []) ≡ Some schema)
      by zero first is none same others = (omega arith, is ∙ same)
      by (suc later) first is none same others =
          let remaining = others later same in
          (omega (arith, remaining.0), remaining.1)

module _ (history : History) (names : NamesAreThoseOf history) (tables : List Name) (none : flat_map (unknown_table (known_at history)) tables ≡ []) where
  is_column : (column : Ref) → StandsAfter 0 (schemas_of (known_at history) tables) column → IsColumnOf history tables column
  is_column column stands =
      let remaining = stands.table_is in
      let table_is : column.table ≡ stands.offset = omega (arith, remaining) in
      let there = table_there (known_at history) tables none stands.offset stands.schema stands.there in
      let passes : Option Schema → Bool = λ found. option_map_or (λ schema. nat_lt column.column (length schema.columns)) found false in
      record {
        table = subst (λ (n : ℕ). n < length tables) (sym table_is) there.0;
        within = ap passes (sym (names.tables (slice_index_or tables column.table [])) ∙ ap (λ (n : ℕ). table_of (known_at history) (slice_index_or tables n [])) table_is ∙ there.1) ∙ stands.within;
      }

  are_columns : (written : List RawColumn) → flat_map (column_refused (schemas_of (known_at history) tables)) written ≡ [] → AllByRecursion (IsColumnOf history tables) (map (column_of (schemas_of (known_at history) tables)) written)
  are_columns [] fine = tt
  are_columns (first ∷ rest) fine =
      let schemas = schemas_of (known_at history) tables in
      let both = none_of_both (column_refused schemas first) (flat_map (column_refused schemas) rest) fine in
      (is_column (column_of schemas first) (found_there schemas first both.0), are_columns rest both.1)

are_created : (history : History) (names : NamesAreThoseOf history) (tables : List Name) → flat_map (unknown_table (known_at history)) tables ≡ [] → AllByRecursion (λ table. is_some (schema_at history table) ≡ true) tables
are_created history names [] none = tt
are_created history names (table ∷ rest) none =
    let both = none_of_both (unknown_table (known_at history) table) (flat_map (unknown_table (known_at history)) rest) none in
    (ap is_some (sym (names.tables table) ∙ (known_table (known_at history) table both.0).1), are_created history names rest both.1)

is_audit : (history : History) (period : Period) (audit : RawAudit) → is_valid meaning history ≡ true → audit_refused (known_at history) period audit ≡ [] → IsAuditOf history (audit_of (known_at history) period audit)
is_audit history period audit valid none =
    let names = valid_names meaning history valid in
    let parts = (none_of_both _ _ none).0 in
    let texts = (none_of_both _ _ parts).0 in
    let kinds = (none_of_both _ _ texts).0 in
    let operands = (none_of_both _ _ kinds).0 in
    let columns = none_of_both _ _ (none_of_both _ _ operands).0 in
    let repeats = none_of_both _ _ columns.0 in
    let tables = (none_of_both _ _ repeats.0).0 in
    record {
      differ = distinct_so bytes_eq audit.tables (names_differ audit.tables repeats.1);
      created = are_created history names audit.tables tables;
      columns = are_columns history names audit.tables tables audit.columns columns.1;
    }

pub unrefused_is_audit : (history later : History) (period : Period) (audit : RawAudit) → is_valid meaning (history ++ later) ≡ true → audit_refused (known_at history) period audit ≡ [] → IsAuditOf (history ++ later) (audit_of (known_at history) period audit)
unrefused_is_audit history later period audit valid none =
    let lasts = audit_lasts (known_at history) (known_at (history ++ later)) (extends_later history later) period audit none in
    subst (IsAuditOf (history ++ later)) lasts.1 (is_audit (history ++ later) period audit valid lasts.0)
