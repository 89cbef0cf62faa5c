-- What the checks guarantee of a row that is inserted, updated or deleted.
use Rattle.std.proofs.Common.{◌≡◌, zero, suc, ◌≤◌, true, false, List, [], ◌∷◌, ◌++◌, length, Option, Some, None, refl, sym, ap, subst, ◌∙◌, arith}
use Rattle.std.specs.Prelude.{◌==◌, nat_le, nat_eq, filter_map, slice_get, slice_set, option_and_then}
use Rattle.std.specs.Cmp.Lexicographic.{pointwise}
use Rattle.std.specs.List.{list_any, list_all, zip, cons_option}
use Rattle.std.specs.Option.{option_map_or}
use Rattle.std.specs.Str.{is_utf8}
use Rattle.std.proofs.lemmas.Bool.{and_parts, and_from, or_parts, lt-ltb, eqb-true, eqb-false, not_from_false}
use Rattle.std.proofs.lemmas.List.{get_or-set_other}
use Rattle.std.proofs.lemmas.List.Concat.{flat_map-append}
use Rattle.hippo_values.specs.Limits.{text_limit}
use Rattle.hippo_values.specs.Texts.{is_plain, keeps_text_rule}
use Rattle.hippo_values.specs.declared.names.Name.{Name}
use Rattle.hippo_values.specs.declared.values.Value.{Value}
use Rattle.hippo_values.specs.declared.values.Value.TheVariants.{Null, Int, Text, Day}
use Rattle.hippo_model.specs.declared.name_fault.NameFault.{NameFault}
use Rattle.hippo_model.specs.declared.name_fault.NameFault.TheVariants.{TypeMismatch, NullNotAllowed, BadText, WrongCount, KeyChanged}
use Rattle.hippo_model.specs.declared.schema.Column.{Column}
use Rattle.hippo_model.specs.declared.schema.Schema.{Schema}
use Rattle.hippo_model.specs.Keepable.{value_is_keepable, cells_are_keepable}
use Rattle.hippo_model.specs.Rows.{cell_at, key_of}
use Rattle.hippo_model.specs.Terms.{Row, Place}
use Rattle.hippo_model.specs.Validity.{column_passes, key_column_fits}
use Rattle.hippo_model.specs.Values.{has_kind, fits}
use Rattle.hippo_model.specs.Versions.{row_fits}
use Rattle.hippo_typing_catalog.specs.ChangesRefused.{places_named, unknown_columns, in_column, column_named, kind_refused, null_refused, text_refused, row_refused, assigned_refused, assignments_refused, count_refused, insert_refused, key_changed, is_of_key}
use Rattle.hippo_typing_catalog.specs.Refusals.{fault_if}
use Rattle.hippo_typing_catalog.specs.WrittenColumns.{place_of}
use Rattle.hippo_tables.specs.Finished.{written_row}
use Rattle.hippo_typing_laws.specs.Written.{is_typed}
use Rattle.hippo_typing_laws.proofs.PlaceLemmas.{found_at, parted}
use Rattle.hippo_typing_laws.proofs.RefusalLemmas.{none_of_both, not_refused, passed}

-- a value is not refused for a column
pub record IsUnrefused (column : Column) (value : Value) : Type 0 where
  pub kind : kind_refused column value ≡ []
  pub null : null_refused column value ≡ []
  pub text : text_refused column value ≡ []

pub value_fits : (column : Column) (value : Value) → IsUnrefused column value → fits column value ≡ true
value_fits column Null u = not_from_false column.not_null (not_refused column.not_null (NullNotAllowed column.name) u.null)
value_fits column (Text text) u = and_from _ _ (passed (has_kind column.kind (Text text)) TypeMismatch u.kind) (passed (keeps_text_rule text) BadText u.text)
value_fits column (Int number) u = passed (has_kind column.kind (Int number)) TypeMismatch u.kind
value_fits column (Day day) u = passed (has_kind column.kind (Day day)) TypeMismatch u.kind

-- a value that fits its column and its type can be stored
value_kept : (column : Column) (value : Value) → fits column value ≡ true → is_typed value ≡ true → value_is_keepable value ≡ true
value_kept column Null fit typed = refl
value_kept column (Int number) fit typed = typed
value_kept column (Text text) fit typed =
    let rule = (and_parts (has_kind column.kind (Text text)) (keeps_text_rule text) fit).1 in
    and_from _ _ (and_parts (nat_le (length text) text_limit) (list_all is_plain text) rule).0 typed
value_kept column (Day day) fit typed = typed

-- a value that can be stored fits its type
value_typed : (value : Value) → value_is_keepable value ≡ true → is_typed value ≡ true
value_typed Null kept = refl
value_typed (Int number) kept = kept
value_typed (Text text) kept = (and_parts (nat_le (length text) text_limit) (is_utf8 text) kept).1
value_typed (Day day) kept = kept

typed_kept : (columns : List Column) (row : Row) → pointwise fits columns row ≡ true → list_all is_typed row ≡ true → (list_all value_is_keepable row ≡ true) × (length row ≡ length columns)
typed_kept [] [] fit typed = (refl, refl)
typed_kept [] (value ∷ row) fit typed = absurd cc
typed_kept (column ∷ columns) [] fit typed = absurd cc
typed_kept (column ∷ columns) (value ∷ row) fit typed =
    let fits_here = and_parts (fits column value) (pointwise fits columns row) fit in
    let types = and_parts (is_typed value) (list_all is_typed row) typed in
    let later = typed_kept columns row fits_here.1 types.1 in
    (and_from _ _ (value_kept column value fits_here.0 types.0) later.0, ap suc later.1)

-- a row that fits a table of at most 64 columns can be stored
pub row_kept : (schema : Schema) (row : Row) → length schema.columns ≤ 64 → row_fits schema row ≡ true → list_all is_typed row ≡ true → cells_are_keepable row ≡ true
row_kept schema row few fit typed =
    let kept = typed_kept schema.columns row fit typed in
    and_from _ _ (lt-ltb (length row) 256 (omega (arith, kept.1))) kept.0

pub row_typed : (row : Row) → list_all value_is_keepable row ≡ true → list_all is_typed row ≡ true
row_typed [] kept = refl
row_typed (value ∷ row) kept =
    let parts = and_parts (value_is_keepable value) (list_all value_is_keepable row) kept in
    and_from _ _ (value_typed value parts.0) (row_typed row parts.1)

-- the values of an inserted row fit
values_fit : (columns : List Column) (values : Row) → length values ≡ length columns
    → row_refused kind_refused columns values ≡ [] → row_refused null_refused columns values ≡ [] → row_refused text_refused columns values ≡ [] → pointwise fits columns values ≡ true
values_fit [] [] count kinds nulls texts = refl
values_fit [] (value ∷ values) count kinds nulls texts = absurd (omega arith)
values_fit (column ∷ columns) [] count kinds nulls texts = absurd (omega arith)
values_fit (column ∷ columns) (value ∷ values) count kinds nulls texts =
    let kind = none_of_both (kind_refused column value) (row_refused kind_refused columns values) kinds in
    let null = none_of_both (null_refused column value) (row_refused null_refused columns values) nulls in
    let text = none_of_both (text_refused column value) (row_refused text_refused columns values) texts in
    let later : length values ≡ length columns = omega arith in
    and_from _ _ (value_fits column value (record { kind = kind.0; null = null.0; text = text.0 })) (values_fit columns values later kind.1 null.1 text.1)

pub inserted_fits : (schema : Schema) (values : Row) → insert_refused values schema ≡ [] → row_fits schema values ≡ true
inserted_fits schema values none =
    let first = none_of_both (count_refused schema values ++ row_refused kind_refused schema.columns values ++ row_refused null_refused schema.columns values) (row_refused text_refused schema.columns values) none in
    let second = none_of_both (count_refused schema values ++ row_refused kind_refused schema.columns values) (row_refused null_refused schema.columns values) first.0 in
    let third = none_of_both (count_refused schema values) (row_refused kind_refused schema.columns values) second.0 in
    let count = eqb-true (length values) (length schema.columns) (passed (length values == length schema.columns) (WrongCount (length schema.columns)) third.0) in
    values_fit schema.columns values count third.1 second.1 first.1

-- a row with one value set
pointwise-set : (columns : List Column) (row : Row) (place : Place) (column : Column) (value : Value) → slice_get columns place ≡ Some column → fits column value ≡ true → pointwise fits columns row ≡ true → pointwise fits columns (slice_set row place value) ≡ true
pointwise-set [] [] place column value at fit all = refl
pointwise-set [] (first ∷ row) place column value at fit all = absurd cc
pointwise-set (one ∷ columns) [] place column value at fit all = absurd cc
pointwise-set (one ∷ columns) (first ∷ row) zero column value at fit all =
    let same : one ≡ column = cc in
    and_from _ _ (subst (λ (c : Column). fits c value ≡ true) (sym same) fit) (and_parts (fits one first) (pointwise fits columns row) all).1
pointwise-set (one ∷ columns) (first ∷ row) (suc place) column value at fit all =
    let parts = and_parts (fits one first) (pointwise fits columns row) all in
    and_from _ _ parts.0 (pointwise-set columns row place column value at fit parts.1)

typed-set : (row : Row) (place : Place) (value : Value) → is_typed value ≡ true → list_all is_typed row ≡ true → list_all is_typed (slice_set row place value) ≡ true
typed-set [] place value typed all = refl
typed-set (first ∷ row) zero value typed all = and_from _ _ typed (and_parts (is_typed first) (list_all is_typed row) all).1
typed-set (first ∷ row) (suc place) value typed all =
    let parts = and_parts (is_typed first) (list_all is_typed row) all in
    and_from _ _ parts.0 (typed-set row place value typed parts.1)

-- a row with values written into it fits its types
pub written_typed : (places : List Place) (values : List Value) (row : Row) → list_all is_typed values ≡ true → list_all is_typed row ≡ true → list_all is_typed (written_row places values row) ≡ true
written_typed [] values row types all = all
written_typed (place ∷ places) [] row types all = all
written_typed (place ∷ places) (value ∷ values) row types all =
    let parts = and_parts (is_typed value) (list_all is_typed values) types in
    written_typed places values (slice_set row place value) parts.1 (typed-set row place value parts.0 all)

module _ (schema : Schema) where
  -- assigned values are not refused
  pub record AreUnrefused (assigned : List (Name × Value)) : Type 0 where
    pub kinds : assigned_refused kind_refused schema assigned ≡ []
    pub nulls : assigned_refused null_refused schema assigned ≡ []
    pub texts : assigned_refused text_refused schema assigned ≡ []

  in_found : (refusals : Column → Value → List NameFault) (name : Name) (value : Value) (place : Place) (column : Column) → place_of schema name ≡ Some place → slice_get schema.columns place ≡ Some column
      → in_column schema name (λ column. refusals column value) ≡ [] → refusals column value ≡ []
  in_found refusals name value place column found at none =
      let is : column_named schema name ≡ Some column = ap (option_and_then (slice_get schema.columns)) found ∙ at in
      sym (ap (λ (c : Option Column). option_map_or (λ column. refusals column value) c []) is) ∙ none

  -- a row still fits when values that fit are written into it
  pub written_fits : (names : List Name) (values : List Value) (row : Row) → unknown_columns schema names ≡ [] → AreUnrefused (zip names values) → row_fits schema row ≡ true → row_fits schema (written_row (places_named schema names) values row) ≡ true
  written_fits [] values row known u fit = fit
  written_fits (name ∷ names) [] row known u fit =
      let first = parted schema name names known in
      subst (λ (found : Option Place). row_fits schema (written_row (cons_option found (places_named schema names)) [] row) ≡ true) (sym first.found) fit
  written_fits (name ∷ names) (value ∷ values) row known u fit =
      let first = parted schema name names known in
      let there = found_at schema name first.place first.found in
      let kinds = none_of_both (in_column schema name (λ column. kind_refused column value)) (assigned_refused kind_refused schema (zip names values)) u.kinds in
      let nulls = none_of_both (in_column schema name (λ column. null_refused column value)) (assigned_refused null_refused schema (zip names values)) u.nulls in
      let texts = none_of_both (in_column schema name (λ column. text_refused column value)) (assigned_refused text_refused schema (zip names values)) u.texts in
      let here : fits there.column value ≡ true = value_fits there.column value (record {
        kind = in_found kind_refused name value first.place there.column first.found there.at kinds.0;
        null = in_found null_refused name value first.place there.column first.found there.at nulls.0;
        text = in_found text_refused name value first.place there.column first.found there.at texts.0;
      }) in
      let set = pointwise-set schema.columns row first.place there.column value there.at here fit in
      subst (λ (found : Option Place). row_fits schema (written_row (cons_option found (places_named schema names)) (value ∷ values) row) ≡ true) (sym first.found)
      (written_fits names values (slice_set row first.place value) first.known (record { kinds = kinds.1; nulls = nulls.1; texts = texts.1 }) set)

  -- if assignments and keys together are not refused, the assignments are not
  pub first_unrefused : (assigned keys : List (Name × Value)) → assignments_refused schema (assigned ++ keys) ≡ [] → AreUnrefused assigned
  first_unrefused assigned keys none =
      let all : List (Name × Value) = assigned ++ keys in
      let outer = none_of_both (assigned_refused kind_refused schema all ++ assigned_refused null_refused schema all) (assigned_refused text_refused schema all) none in
      let inner = none_of_both (assigned_refused kind_refused schema all) (assigned_refused null_refused schema all) outer.0 in
      record { kinds = front kind_refused inner.0; nulls = front null_refused inner.1; texts = front text_refused outer.1 }
    where
      front : (refusals : Column → Value → List NameFault) → assigned_refused refusals schema (assigned ++ keys) ≡ [] → assigned_refused refusals schema assigned ≡ []
      front refusals none =
          (none_of_both (assigned_refused refusals schema assigned) (assigned_refused refusals schema keys)
          (sym (flat_map-append (λ (name, value). in_column schema name (λ column. refusals column value)) assigned keys) ∙ none)).0

  cell-set : (key : List Place) (place : Place) (value : Value) (row : Row) → list_any (nat_eq place) key ≡ false → key_of key (slice_set row place value) ≡ key_of key row
  cell-set [] place value row none = refl
  cell-set (first ∷ key) place value row none =
      let parts = or_parts (nat_eq place first) (list_any (nat_eq place) key) none in
      let apart : first ≡ place → ⊥ = λ same. eqb-false place first parts.0 (sym same) in
      let here : cell_at (slice_set row place value) first ≡ cell_at row first = get_or-set_other row place first value Null apart in
      let later = cell-set key place value row parts.1 in
      λ i. here i ∷ later i

  -- a row keeps its key if no key column is written
  pub key_stays : (names : List Name) (values : List Value) (row : Row) → unknown_columns schema names ≡ [] → key_changed schema names ≡ [] → key_of schema.key (written_row (places_named schema names) values row) ≡ key_of schema.key row
  key_stays [] values row known unchanged = refl
  key_stays (name ∷ names) [] row known unchanged =
      let first = parted schema name names known in
      ap (λ (found : Option Place). key_of schema.key (written_row (cons_option found (places_named schema names)) [] row)) first.found
  key_stays (name ∷ names) (value ∷ values) row known unchanged =
      let first = parted schema name names known in
      let both = none_of_both (fault_if (is_of_key schema name) (KeyChanged name)) (key_changed schema names) unchanged in
      let apart : list_any (nat_eq first.place) schema.key ≡ false =
      sym (ap (λ (found : Option Place). option_map_or (λ place. list_any (nat_eq place) schema.key) found false) first.found) ∙ not_refused (is_of_key schema name) (KeyChanged name) both.0 in
      ap (λ (found : Option Place). key_of schema.key (written_row (cons_option found (places_named schema names)) (value ∷ values) row)) first.found
      ∙ key_stays names values (slice_set row first.place value) first.known both.1
      ∙ cell-set schema.key first.place value row apart

pointwise-at : (columns : List Column) (row : Row) (place : Place) (column : Column) → pointwise fits columns row ≡ true → slice_get columns place ≡ Some column → fits column (cell_at row place) ≡ true
pointwise-at [] row place column fit at = absurd cc
pointwise-at (one ∷ columns) [] place column fit at = absurd cc
pointwise-at (one ∷ columns) (value ∷ row) zero column fit at =
    let same : one ≡ column = cc in
    subst (λ (c : Column). fits c value ≡ true) same (and_parts (fits one value) (pointwise fits columns row) fit).0
pointwise-at (one ∷ columns) (value ∷ row) (suc place) column fit at =
    pointwise-at columns row place column (and_parts (fits one value) (pointwise fits columns row) fit).1 at

-- the key of a row that fits also fits
pub key_of-fits : (schema : Schema) (row : Row) → row_fits schema row ≡ true → (key : List Place) → list_all (column_passes key_column_fits schema) key ≡ true → pointwise fits (filter_map (slice_get schema.columns) key) (key_of key row) ≡ true
key_of-fits schema row fit [] all = refl
key_of-fits schema row fit (place ∷ key) all =
    let parts = and_parts (column_passes key_column_fits schema place) (list_all (column_passes key_column_fits schema) key) all in
    elim (slice_get schema.columns place) as (λ found. slice_get schema.columns place ≡ found → option_map_or key_column_fits found false ≡ true → pointwise fits (cons_option found (filter_map (slice_get schema.columns) key)) (key_of (place ∷ key) row) ≡ true) [
      | None ↦ λ e passes. absurd cc
      | Some column ↦ λ e passes. and_from _ _ (pointwise-at schema.columns row place column fit e) (key_of-fits schema row fit key parts.1)
    ] refl parts.0

cell_kept : (row : Row) (place : Place) → list_all value_is_keepable row ≡ true → value_is_keepable (cell_at row place) ≡ true
cell_kept [] place all = refl
cell_kept (value ∷ row) zero all = (and_parts (value_is_keepable value) (list_all value_is_keepable row) all).0
cell_kept (value ∷ row) (suc place) all = cell_kept row place (and_parts (value_is_keepable value) (list_all value_is_keepable row) all).1

-- and can be stored
pub key_of-kept : (row : Row) → list_all value_is_keepable row ≡ true → (key : List Place) → list_all value_is_keepable (key_of key row) ≡ true
key_of-kept row all [] = refl
key_of-kept row all (place ∷ key) = and_from _ _ (cell_kept row place all) (key_of-kept row all key)
