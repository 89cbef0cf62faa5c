-- In a valid history each row of a table has a value for each column, and the places of each key
-- are columns.
use Rattle.std.proofs.Common.{◌≡◌, ◌∙◌, sym, refl, ap, arith, subst, ◌+◌, Bool, true, false, cond, ◌&&◌, List, [], ◌∷◌, ◌++◌, length, Option, None, Some}
use Rattle.std.specs.Prelude.{◌==◌, slice_get, nat_lt, is_none, bytes_eq}
use Rattle.std.specs.Bool.{then_some}
use Rattle.std.specs.Cmp.Lexicographic.{pointwise}
use Rattle.std.specs.List.{list_all}
use Rattle.std.specs.Option.{option_or, option_map_or}
use Rattle.std.specs.Ordering.{match_ordering}
use Rattle.std.specs.declared.cmp.Ordering.TheVariants.{Less, Equal, Greater}
use Rattle.std.proofs.lemmas.Bool.{and_parts, and_from, eq-eqb, lt-ltb}
use Rattle.std.proofs.lemmas.Option.{slice_get_within}
use Rattle.std.proofs.lemmas.Slice.Eq.{bytes_eq-Decides}
use Rattle.hippo_values.specs.declared.names.Name.{Name}
use Rattle.hippo_values.specs.Order.{cells_cmp, same_cells}
use Rattle.hippo_model.specs.declared.born_row.BornRow.{BornRow}
use Rattle.hippo_model.specs.declared.entry.Entry.{Entry}
use Rattle.hippo_model.specs.declared.entry.Act.{Act}
use Rattle.hippo_model.specs.declared.entry.Act.TheVariants.{Create, Insert, Update, Delete}
use Rattle.hippo_model.specs.declared.schema.Column.{Column}
use Rattle.hippo_model.specs.declared.schema.Schema.{Schema}
use Rattle.hippo_model.specs.Terms.{History, Meaning, Row, Key, Place}
use Rattle.hippo_model.specs.Values.{fits}
use Rattle.hippo_model.specs.Histories.{schema_created, schema_at}
use Rattle.hippo_model.specs.Rows.{key_of, born_at, table_rows}
use Rattle.hippo_tables_keyed.specs.RowSets.{KeyedRows, key_in, put_row, take_row}
use Rattle.hippo_model.specs.StoredForms.{table_changed}
use Rattle.hippo_model.specs.Versions.{is_version, row_fits, version_fits}
use Rattle.hippo_model.specs.Keepable.{is_keepable}
use Rattle.hippo_model.specs.Validity.{column_passes, key_column_fits, subject_column_fits, is_well_formed, create_fits, keeps_order, is_acceptable, may_follow, is_valid}
use Rattle.hippo_model.proofs.LastWords.{last_word-append}
use Rattle.hippo_tables_keyed.proofs.RowsAfter.{table_rows-Insert, table_rows-Update, table_rows-Delete}
use Rattle.hippo_tables_keyed.proofs.ChangesOfRows.{kept_at-no_version, kept_at-other_table}
use Rattle.hippo_model_laws.proofs.ValidFronts.{holds_of_each_valid}

-- a row has a value for each column, and the places of the key are columns
abbrev pub is_wide : Schema → BornRow → Bool
is_wide schema kept = length kept.row == length schema.columns

abbrev pub is_within : Schema → Place → Bool
is_within schema place = nat_lt place (length schema.columns)

-- a table's rows fit its schema; a table that is not created has none
abbrev KnownBy : Option Schema → Schema → List BornRow → Type 0
KnownBy None schema rows = rows ≡ []
KnownBy (Some made) schema rows = made ≡ schema → (list_all (is_wide schema) rows ≡ true) × (list_all (is_within schema) schema.key ≡ true)

length-pointwise : (columns : List Column) (row : Row) → pointwise fits columns row ≡ true → length row ≡ length columns
length-pointwise [] [] fit = refl
length-pointwise [] (value ∷ row) fit = absurd cc
length-pointwise (column ∷ columns) [] fit = absurd cc
length-pointwise (column ∷ columns) (value ∷ row) fit =
    let later : length row ≡ length columns = length-pointwise columns row (and_parts (fits column value) (pointwise fits columns row) fit).1 in omega arith

within_one : (test : Column → Bool) (schema : Schema) (place : Place) → column_passes test schema place ≡ true → is_within schema place ≡ true
within_one test schema place =
    elim (slice_get schema.columns place) as (λ found. slice_get schema.columns place ≡ found → option_map_or test found false ≡ true → is_within schema place ≡ true) [
      | None ↦ λ e passes. absurd cc
      | Some column ↦ λ e passes. lt-ltb place (length schema.columns) (slice_get_within schema.columns place column e)
    ] refl

within : (schema : Schema) (key : List Place) → list_all (column_passes key_column_fits schema) key ≡ true → list_all (is_within schema) key ≡ true
within schema [] all = refl
within schema (place ∷ key) all =
    let both = and_parts (column_passes key_column_fits schema place) (list_all (column_passes key_column_fits schema) key) all in
    and_from _ _ (within_one key_column_fits schema place both.0) (within schema key both.1)

module _ (schema : Schema) where
  wide-put : (kept : BornRow) (rows : List BornRow) → is_wide schema kept ≡ true → list_all (is_wide schema) rows ≡ true → list_all (is_wide schema) (put_row schema.key kept rows) ≡ true
  wide-put kept [] here all = and_from _ _ here refl
  wide-put kept (first ∷ rest) here all =
      let both = and_parts (is_wide schema first) (list_all (is_wide schema) rest) all in
      elim (cells_cmp (key_in schema.key kept) (key_in schema.key first)) as (λ order. list_all (is_wide schema) (match_ordering order (kept ∷ first ∷ rest) (kept ∷ rest) (first ∷ put_row schema.key kept rest)) ≡ true) [
        | Less ↦ and_from _ _ here all
        | Equal ↦ and_from _ _ here both.1
        | Greater ↦ and_from _ _ both.0 (wide-put kept rest here both.1)
      ]

  wide-take : (key : Key) (rows : List BornRow) → list_all (is_wide schema) rows ≡ true → list_all (is_wide schema) (take_row schema.key key rows) ≡ true
  wide-take key [] all = refl
  wide-take key (first ∷ rest) all =
      let both = and_parts (is_wide schema first) (list_all (is_wide schema) rest) all in
      elim (same_cells (key_in schema.key first) key) as (λ same. list_all (is_wide schema) (cond same rest (first ∷ take_row schema.key key rest)) ≡ true) [
        | true ↦ both.1
        | false ↦ and_from _ _ both.0 (wide-take key rest both.1)
      ]

  module _ (history : History) where
    -- the rows after a version that fits
    known-put : (act : Act) (kept : BornRow) (found : Option Schema) (rows : List BornRow) → ((made : Schema) → version_fits made history act ≡ true → row_fits made kept.row ≡ true)
        → option_map_or (λ made. version_fits made history act) found false ≡ true → KnownBy found schema rows → KnownBy found schema (put_row schema.key kept rows)
    known-put act kept None rows fit passes known = absurd cc
    known-put act kept (Some made) rows fit passes known = λ same.
        let row : row_fits schema kept.row ≡ true = subst (λ (made : Schema). row_fits made kept.row ≡ true) same (fit made passes) in
        (wide-put kept rows (eq-eqb (length kept.row) (length schema.columns) (length-pointwise schema.columns kept.row row)) (known same).0, (known same).1)

    known-take : (act : Act) (key : Key) (found : Option Schema) (rows : List BornRow) → option_map_or (λ made. version_fits made history act) found false ≡ true → KnownBy found schema rows → KnownBy found schema (take_row schema.key key rows)
    known-take act key None rows passes known = absurd cc
    known-take act key (Some made) rows passes known = λ same. (wide-take key rows (known same).0, (known same).1)

    known-Create : (made : Schema) (rows : List BornRow) → create_fits history made ≡ true → KnownBy (schema_at history schema.name) schema rows
        → (named : Bool) → KnownBy (option_or (then_some named made) (schema_at history schema.name)) schema rows
    known-Create made rows fit known false = known
    known-Create made rows fit known true = λ same.
        let formed = and_parts _ (is_well_formed made) fit in
        let new = and_parts _ (is_none (schema_at history made.name)) formed.0 in
        let none : is_none (schema_at history schema.name) ≡ true = subst (λ (made : Schema). is_none (schema_at history made.name) ≡ true) same new.1 in
        let keyed = and_parts _ (option_map_or (column_passes subject_column_fits made) made.subject true) formed.1 in
        let keys = and_parts _ (list_all (column_passes key_column_fits made) made.key) keyed.0 in
        let key : list_all (column_passes key_column_fits schema) schema.key ≡ true = subst (λ (made : Schema). list_all (column_passes key_column_fits made) made.key ≡ true) same keys.1 in
        (no_rows (schema_at history schema.name) none known, within schema schema.key key)
      where
        no_rows : (found : Option Schema) → is_none found ≡ true → KnownBy found schema rows → list_all (is_wide schema) rows ≡ true
        no_rows None none empty = ap (list_all (is_wide schema)) empty
        no_rows (Some other) none known = absurd cc

    module _ (meaning : Meaning) (entry : Entry) (known : KnownBy (schema_at history schema.name) schema (table_rows schema history)) where
      abbrev Known : Act → List BornRow → Type 0
      Known act rows = KnownBy (option_or (schema_created schema.name act) (schema_at history schema.name)) schema rows

      unchanged : (act : Act) → entry.act ≡ act → is_version act ≡ false → Known act (table_rows schema history) → Known act (table_rows schema (history ++ entry ∷ []))
      unchanged act is none so_far =
          subst (Known act) (sym (ap (λ (set : KeyedRows). set.rows) (kept_at-no_version schema history entry (ap is_version is ∙ none)))) so_far

      elsewhere : (act : Act) → entry.act ≡ act → bytes_eq (table_changed act) schema.name ≡ false → Known act (table_rows schema history) → Known act (table_rows schema (history ++ entry ∷ []))
      elsewhere act is other so_far =
          subst (Known act) (sym (ap (λ (set : KeyedRows). set.rows) (kept_at-other_table schema history entry (ap (λ (act : Act). bytes_eq (table_changed act) schema.name) is ∙ other)))) so_far

      -- a version of this table, or of another one
      by_table : (act : Act) → entry.act ≡ act → Known act (table_rows schema history) → (bytes_eq (table_changed act) schema.name ≡ true → Known act (table_rows schema (history ++ entry ∷ []))) → Known act (table_rows schema (history ++ entry ∷ []))
      by_table act is so_far here =
          elim (bytes_eq (table_changed act) schema.name) as (λ named. bytes_eq (table_changed act) schema.name ≡ named → Known act (table_rows schema (history ++ entry ∷ []))) [
            | true ↦ here
            | false ↦ λ other. elsewhere act is other so_far
          ] refl

      passes_here : (table : Name) (act : Act) → bytes_eq table schema.name ≡ true → option_map_or (λ made. version_fits made history act) (schema_at history table) false ≡ true
          → option_map_or (λ made. version_fits made history act) (schema_at history schema.name) false ≡ true
      passes_here table act same passes = subst (λ (name : Name). option_map_or (λ made. version_fits made history act) (schema_at history name) false ≡ true) ((bytes_eq-Decides table schema.name).0 same) passes

      insert_fits : (table : Name) (row : Row) (made : Schema) → version_fits made history (Insert table row) ≡ true → row_fits made row ≡ true
      insert_fits table row made fit = (and_parts _ (row_fits made row) (and_parts (bytes_eq table made.name && row_fits made row) _ fit).0).1

      update_fits : (table : Name) (row : Row) (made : Schema) → version_fits made history (Update table row) ≡ true → row_fits made row ≡ true
      update_fits table row made fit = (and_parts _ (row_fits made row) (and_parts (bytes_eq table made.name && row_fits made row) _ fit).0).1

      by_act : (act : Act) → entry.act ≡ act → is_acceptable meaning history act ≡ true → Known act (table_rows schema (history ++ entry ∷ []))
      by_act (Create made) is fit = unchanged (Create made) is refl (known-Create made (table_rows schema history) fit known (bytes_eq made.name schema.name))
      by_act (Insert table row) is passes =
          by_table (Insert table row) is known (λ same.
          subst (Known (Insert table row)) (sym (table_rows-Insert schema history entry table row is same))
          (known-put (Insert table row) (record { row = row; born = entry.moment }) (schema_at history schema.name) (table_rows schema history) (insert_fits table row) (passes_here table (Insert table row) same passes) known))
      by_act (Update table row) is passes =
          by_table (Update table row) is known (λ same.
          subst (Known (Update table row)) (sym (table_rows-Update schema history entry table row is same))
          (known-put (Update table row) (record { row = row; born = born_at schema history (key_of schema.key row) }) (schema_at history schema.name) (table_rows schema history) (update_fits table row) (passes_here table (Update table row) same passes) known))
      by_act (Delete table key) is passes =
          by_table (Delete table key) is known (λ same.
          subst (Known (Delete table key)) (sym (table_rows-Delete schema history entry table key is same))
          (known-take (Delete table key) key (schema_at history schema.name) (table_rows schema history) (passes_here table (Delete table key) same passes) known))
      by_act act is passes = unchanged act is refl known

abbrev AllKnown : History → Type 0
AllKnown history = (schema : Schema) → KnownBy (schema_at history schema.name) schema (table_rows schema history)

known_after : (meaning : Meaning) (history : History) (entry : Entry) → is_valid meaning history ≡ true → AllKnown history → may_follow meaning history entry ≡ true → AllKnown (history ++ entry ∷ [])
known_after meaning history entry valid known may schema =
    let acceptable = (and_parts (is_keepable entry && entry.seq == length history + 1 && keeps_order history entry.moment) (is_acceptable meaning history entry.act) may).1 in
    subst (λ (found : Option Schema). KnownBy found schema (table_rows schema (history ++ entry ∷ [])))
    (sym (last_word-append (λ (entry : Entry). schema_created schema.name entry.act) history entry))
    (by_act schema history meaning entry (known schema) entry.act refl acceptable)

all_known : (meaning : Meaning) (history : History) → is_valid meaning history ≡ true → AllKnown history
all_known meaning = holds_of_each_valid meaning AllKnown (known_after meaning) (λ schema. refl)

-- a table that is created has its name
created_named : (table : Name) (schema : Schema) (act : Act) → schema_created table act ≡ Some schema → schema.name ≡ table
created_named table schema (Create made) =
    elim (bytes_eq made.name table) as (λ named. bytes_eq made.name table ≡ named → then_some named made ≡ Some schema → schema.name ≡ table) [
      | true ↦ λ same is. let made_is : made ≡ schema = cc in ap (λ (schema : Schema). schema.name) (sym made_is) ∙ (bytes_eq-Decides made.name table).0 same
      | false ↦ λ other is. absurd cc
    ] refl
created_named table schema act = λ is. absurd cc

pub schema_named : (history : History) (table : Name) (schema : Schema) → schema_at history table ≡ Some schema → schema.name ≡ table
schema_named [] table schema = λ is. absurd cc
schema_named (entry ∷ later) table schema =
    elim (schema_at later table) as (λ found. schema_at later table ≡ found → option_or found (schema_created table entry.act) ≡ Some schema → schema.name ≡ table) [
      | None ↦ λ e is. created_named table schema entry.act is
      | Some made ↦ λ e is. schema_named later table schema (e ∙ is)
    ] refl

-- in a valid history each row of a table has a value for each column, and the places of the key are
-- columns
pub fits_schema : (meaning : Meaning) (history : History) → is_valid meaning history ≡ true → (table : Name) (schema : Schema) → schema_at history table ≡ Some schema
    → (list_all (is_wide schema) (table_rows schema history) ≡ true) × (list_all (is_within schema) schema.key ≡ true)
fits_schema meaning history valid table schema is =
    let found : schema_at history schema.name ≡ Some schema = ap (schema_at history) (schema_named history table schema is) ∙ is in
    let known : KnownBy (Some schema) schema (table_rows schema history) = subst (λ (found : Option Schema). KnownBy found schema (table_rows schema history)) found (all_known meaning history valid schema) in
    known refl
