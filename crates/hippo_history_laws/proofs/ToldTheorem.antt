-- No line ends within the text of an entry of a valid history.
use Rattle.std.proofs.Common.{◌≡◌, ℕ, zero, suc, Bool, true, false, ◌&&◌, List, [], ◌∷◌, ◌++◌, filter_map, Option, Some, None, refl, sym, subst, arith, ℤ, codes, decimal}
use Rattle.std.specs.Prelude.{nat_le, length, option_and_then, slice_get}
use Rattle.std.specs.Fmt.{signed_decimal}
use Rattle.std.specs.Cmp.Lexicographic.{pointwise}
use Rattle.std.specs.List.{list_all, zip}
use Rattle.std.proofs.lemmas.Bool.{and_from, and_parts, leb-true}
use Rattle.hippo_values.specs.Limits.{retention_limit, text_limit}
use Rattle.hippo_values.specs.Moments.{is_signed_number}
use Rattle.hippo_values.specs.Texts.{Txt, is_plain, keeps_text_rule}
use Rattle.hippo_values.specs.declared.names.Name.{Name}
use Rattle.hippo_values.specs.declared.values.Value.{Value}
use Rattle.hippo_values.specs.declared.values.Value.TheVariants as values
use Rattle.hippo_model.specs.declared.entry.Act.{Act}
use Rattle.hippo_model.specs.declared.entry.Act.TheVariants.{Create, Insert, Update, Delete, Purpose, Recipient, Item, Authorize, Deauthorize, Allow, Revoke, Choice, Asked}
use Rattle.hippo_model.specs.declared.entry.ItemKind.TheVariants.{OptIn, OptOut}
use Rattle.hippo_model.specs.declared.schema.Column.{Column}
use Rattle.hippo_model.specs.declared.schema.ColumnKind.{ColumnKind}
use Rattle.hippo_model.specs.declared.schema.ColumnKind.TheVariants as kinds
use Rattle.hippo_model.specs.declared.schema.Schema.{Schema}
use Rattle.hippo_model.specs.Histories.{schema_at}
use Rattle.hippo_model.specs.Keepable.{act_is_keepable, cells_are_keepable, days_are_keepable, has_count, is_folded_name, item_is_keepable, places_are_keepable, rule_is_keepable, value_is_keepable}
use Rattle.hippo_model.specs.Rows.{cell_at, key_of}
use Rattle.hippo_model.specs.Terms.{History, Key, Meaning, Place, Row}
use Rattle.hippo_model.specs.Validity.{days_fit, has_columns, is_acceptable, is_valid, is_well_formed, item_fits, pair_exists, rule_fits, table_passes}
use Rattle.hippo_model.specs.Values.{fits, has_kind}
use Rattle.hippo_model.specs.Versions.{is_live, key_fits, row_fits, version_fits}
use Rattle.hippo_report.specs.Cells.{comma, separated_text}
use Rattle.hippo_typing_laws.proofs.HistoryLemmas.{passes_so}
use Rattle.hippo_history_statements.specs.Telling.{column_definition, kind_text, literal_text, literals_text, name_at, names_text, not_null_text, assigned_text, row_text, key_text, retention_text, rule_text, set_places, subject_text, table_named, act_statement, with_text, create_text, insert_text, update_text, delete_text}
use Rattle.hippo_history_laws.specs.TellingLaws.{is_stated}
use Rattle.hippo_history_laws.proofs.ChangeTheorem.{sets_within}
use Rattle.hippo_history_laws.proofs.EntryTheorem.{has, key-within}
use Rattle.hippo_history_laws.proofs.NamePlaces.{all_within, names_folded}
use Rattle.hippo_history_laws.proofs.ReadingTheorem.{three-names}
use Rattle.hippo_history_laws.proofs.RuleParts.{allow-fits, allow-kept, names-kept, rule-fits}
use Rattle.hippo_history_laws.proofs.TableTheorem.{HasNames, has-names, is_table, subject_named}
use Rattle.hippo_history_laws.proofs.InnerLemmas.{AreInner, both, inner-decimal, inner-separated_text, inner-literal, inner-name, inner-number, is_plain_value, said}

-- values that fit, and values at places
plain-value : (column : Column) (value : Value) → fits column value ≡ true → is_plain_value value
    ≡ true
plain-value column values.Null fit = refl
plain-value column (values.Int number) fit = refl
plain-value column (values.Text text) fit =
    let rule = (and_parts (has_kind column.kind (values.Text text)) (keeps_text_rule text) fit).1 in
    (and_parts (nat_le (length text) text_limit) (list_all is_plain text) rule).1
plain-value column (values.Day day) fit = refl

plain-row : (columns : List Column) (row : Row) → pointwise fits columns row ≡ true
    → list_all is_plain_value row ≡ true
plain-row [] [] fit = refl
plain-row [] (value ∷ row) fit = absurd cc
plain-row (column ∷ columns) [] fit = absurd cc
plain-row (column ∷ columns) (value ∷ row) fit =
    let parts = and_parts (fits column value) (pointwise fits columns row) fit in
    and_from _ _ (plain-value column value parts.0) (plain-row columns row parts.1)

abbrev is_written : Value → Bool
is_written value = value_is_keepable value && is_plain_value value

written-row : (row : Row) → list_all value_is_keepable row ≡ true → list_all is_plain_value row
    ≡ true → list_all is_written row ≡ true
written-row [] kept plain = refl
written-row (value ∷ row) kept plain =
    let first = and_parts (value_is_keepable value) (list_all value_is_keepable row) kept in
    let second = and_parts (is_plain_value value) (list_all is_plain_value row) plain in
    and_from _ _ (and_from _ _ first.0 second.0) (written-row row first.1 second.1)

written-at : (row : Row) (place : Place) → list_all is_written row ≡ true
    → is_written (cell_at row place) ≡ true
written-at [] place all = refl
written-at (value ∷ row) zero all = (and_parts (is_written value) (list_all is_written row) all).0
written-at (value ∷ row) (suc place) all =
    written-at row place (and_parts (is_written value) (list_all is_written row) all).1

literal-inner : (value : Value) → is_written value ≡ true → AreInner (literal_text value)
literal-inner value is =
    let parts = and_parts (value_is_keepable value) (is_plain_value value) is in
    inner-literal value parts.0 parts.1

module _ (columns : List Column) where
  abbrev is_named : Place → Bool
  is_named place = is_folded_name (name_at columns place)

  assigned-inner : (place : Place) (value : Value) → is_named place ≡ true → is_written value ≡ true
      → AreInner (assigned_text columns place value)
  assigned-inner place value named is =
      both (name_at columns place) (codes " = " ++ literal_text value)
      (inner-name (name_at columns place) named)
      (both (codes " = ") (literal_text value) (said refl) (literal-inner value is))

  names-inner : (places : List Place) → list_all is_named places ≡ true
      → AreInner (names_text columns places)
  names-inner places named =
      inner-separated_text (name_at columns) comma (said refl) is_named
      (λ place is. inner-name (name_at columns place) is) places named

  row-inner : (row : Row) (separator : Txt) → AreInner separator → list_all is_written row ≡ true
      → (places : List Place) → list_all is_named places ≡ true
      → AreInner (row_text columns row separator places)
  row-inner row separator between is places named =
      inner-separated_text (λ (place : Place). assigned_text columns place (cell_at row place)) separator
      between is_named
      (λ place name. assigned-inner place (cell_at row place) name (written-at row place is)) places
      named

  abbrev pair_fits : Place × Value → Bool
  pair_fits (place, value) = is_named place && is_written value

  pairs-fit : (places : List Place) (key : Key) → list_all is_named places ≡ true
      → list_all is_written key ≡ true → list_all pair_fits (zip places key) ≡ true
  pairs-fit [] key named is = refl
  pairs-fit (place ∷ places) [] named is = refl
  pairs-fit (place ∷ places) (value ∷ key) named is =
      let names = and_parts (is_named place) (list_all is_named places) named in
      let values = and_parts (is_written value) (list_all is_written key) is in
      and_from _ _ (and_from _ _ names.0 values.0) (pairs-fit places key names.1 values.1)

  pair-inner : (pair : Place × Value) → pair_fits pair ≡ true
      → AreInner (assigned_text columns pair.0 pair.1)
  pair-inner (place, value) fit =
      let parts = and_parts (is_named place) (is_written value) fit in
      assigned-inner place value parts.0 parts.1

  key-inner : (places : List Place) (key : Key) → list_all is_named places ≡ true
      → list_all is_written key ≡ true → AreInner (key_text columns places key)
  key-inner places key named is =
      inner-separated_text (λ (place, value). assigned_text columns place value) (codes " AND ")
      (said refl) pair_fits pair-inner (zip places key) (pairs-fit places key named is)

  subject-inner : (place : Option Place) → subject_named columns place ≡ true
      → AreInner (subject_text columns place)
  subject-inner None named = said refl
  subject-inner (Some place) named =
      both (codes ", SUBJECT ") (name_at columns place) (said refl)
      (inner-name (name_at columns place) named)

  rule-inner : (purpose recipient table : Name) (places : List Place)
      → (is_folded_name purpose && is_folded_name recipient && is_folded_name table) ≡ true
      → list_all is_named places ≡ true
      → AreInner (rule_text columns purpose recipient table places)
  rule-inner purpose recipient table places are named =
      let each = three-names purpose recipient table are in
      both purpose _ (inner-name purpose each.0)
      (both (codes " TO ") _ (said refl) (both recipient _ (inner-name recipient each.1)
      (both (codes " ON ") _ (said refl)
      (both table _ (inner-name table each.2)
      (both (codes " (") _ (said refl)
      (both (names_text columns places) (codes ")") (names-inner places named) (said refl)))))))

form-inner : (kind : ColumnKind) (required : Bool)
    → AreInner (kind_text kind ++ not_null_text required)
form-inner kinds.Integer true = said refl
form-inner kinds.Integer false = said refl
form-inner kinds.Text true = said refl
form-inner kinds.Text false = said refl
form-inner kinds.Date true = said refl
form-inner kinds.Date false = said refl

column-inner : (column : Column) → is_folded_name column.name ≡ true → AreInner (column_definition column)
column-inner column named =
    both column.name (kind_text column.kind ++ not_null_text column.not_null)
    (inner-name column.name named) (form-inner column.kind column.not_null)

create-inner : (schema : Schema) → HasNames schema.name schema.columns schema.key schema.subject
    → AreInner (create_text schema)
create-inner schema names =
    both (codes "CREATE TABLE ") _ (said refl)
    (both schema.name _ (inner-name schema.name names.name_fits) (both (codes " (") _ (said refl)
    (both (separated_text column_definition comma schema.columns) _
    (inner-separated_text column_definition comma (said refl) (λ (column : Column). is_folded_name column.name)
    column-inner schema.columns names.columns_fit)
    (both (codes ", PRIMARY KEY (") _ (said refl)
    (both (names_text schema.columns schema.key) _
    (names-inner schema.columns schema.key names.key_fits)
    (both (codes ")") _ (said refl)
    (both (subject_text schema.columns schema.subject) (codes ")")
    (subject-inner schema.columns schema.subject names.subject_fits) (said refl))))))))

insert-inner : (table : Name) (row : Row) → is_folded_name table ≡ true → list_all is_written row
    ≡ true → AreInner (insert_text table row)
insert-inner table row named is =
    both (codes "INSERT INTO ") _ (said refl)
    (both table _ (inner-name table named) (both (codes " VALUES (") _ (said refl)
    (both (literals_text row) (codes ")")
    (inner-separated_text literal_text comma (said refl) is_written literal-inner row is) (said refl))))

update-inner : (columns : List Column) (key : List Place) (table : Name) (row : Row)
    → is_folded_name table ≡ true → list_all is_written row ≡ true
    → list_all (is_named columns) (set_places columns key) ≡ true → list_all (is_named columns) key
    ≡ true → AreInner (update_text columns key table row)
update-inner columns key table row named is sets keys =
    both (codes "UPDATE ") _ (said refl)
    (both table _ (inner-name table named) (both (codes " SET ") _ (said refl)
    (both (row_text columns row comma (set_places columns key)) _
    (row-inner columns row comma (said refl) is (set_places columns key) sets)
    (both (codes " WHERE ") _ (said refl)
    (row-inner columns row (codes " AND ") (said refl) is key keys)))))

delete-inner : (columns : List Column) (places : List Place) (table : Name) (key : Key)
    → is_folded_name table ≡ true → list_all is_written key ≡ true
    → list_all (is_named columns) places ≡ true → AreInner (delete_text columns places table key)
delete-inner columns places table key named is keys =
    both (codes "DELETE FROM ") _ (said refl)
    (both table _ (inner-name table named)
    (both (codes " WHERE ") _ (said refl) (key-inner columns places key keys is)))

with-inner : (item : Option Name) → item_is_keepable item ≡ true → AreInner (with_text item)
with-inner None named = said refl
with-inner (Some item) named = both (codes " WITH ") item (said refl) (inner-name item named)

retention-inner : (days : Option ℕ) → days_fit days ≡ true → AreInner (retention_text days)
retention-inner None fit = said refl
retention-inner (Some days) fit =
    let most = leb-true days retention_limit
    (and_parts (nat_le 1 days) (nat_le days retention_limit) fit).1 in
    both (codes " RETAIN ") _ (said refl)
    (both (decimal days) (codes " DAYS") (inner-decimal days (omega (arith, most))) (said refl))

grant-inner : (word : Txt) (user purpose recipient : Name) → AreInner word
    → (is_folded_name user && is_folded_name purpose && is_folded_name recipient) ≡ true
    → AreInner (word ++ (user ++ (codes " FOR " ++ (purpose ++ (codes ", " ++ recipient)))))
grant-inner word user purpose recipient first are =
    let each = three-names user purpose recipient are in
    both word _ first
    (both user _ (inner-name user each.0)
    (both (codes " FOR ") _ (said refl) (both purpose _ (inner-name purpose each.1)
    (both (codes ", ") recipient (said refl) (inner-name recipient each.2)))))

choice-inner : (subject : ℤ) (item : Name) (answer : Txt) → is_signed_number subject ≡ true
    → is_folded_name item ≡ true → AreInner answer
    → AreInner (codes "CHOICE " ++ (signed_decimal subject ++ (codes " ON " ++ (item ++ answer))))
choice-inner subject item answer fits is last =
    both (codes "CHOICE ") _ (said refl)
    (both (signed_decimal subject) _ (inner-number subject fits)
    (both (codes " ON ") _ (said refl) (both item answer (inner-name item is) last)))

module _ (meaning : Meaning) (before : History) (valid : is_valid meaning before ≡ true) where
  abbrev schema_for : Act → Option Schema
  schema_for act = option_and_then (schema_at before) (table_named act)

  pub told-inner : (act : Act) → act_is_keepable act ≡ true → is_acceptable meaning before act
      ≡ true → is_stated (schema_for act) act ≡ true → AreInner (act_statement (schema_for act) act)
  told-inner (Create schema) kept fit stated =
      create-inner schema
      (has-names schema (is_table schema (and_parts _ (is_well_formed schema) fit).1) kept)
  told-inner (Insert table row) kept fit stated =
      let made = passes_so (λ (schema : Schema). version_fits schema before (Insert table row))
      (schema_at before table) fit in
      let fitting = (and_parts _ (row_fits made.what row) (and_parts _ _ made.fits).0).1 in
      let parts = and_parts (is_folded_name table) (cells_are_keepable row) kept in
      insert-inner table row parts.0
      (written-row row (and_parts (has_count row) (list_all value_is_keepable row) parts.1).1
      (plain-row made.what.columns row fitting))
  told-inner (Update table row) kept fit stated =
      let made = passes_so (λ (schema : Schema). version_fits schema before (Update table row))
      (schema_at before table) fit in
      let schema : Schema = made.what in
      let fitting =
      (and_parts _ (row_fits schema row)
      (and_parts _ (is_live schema before (key_of schema.key row)) made.fits).0).1 in
      let parts = and_parts (is_folded_name table) (cells_are_keepable row) kept in
      let named = (has meaning before valid table schema made.is).columns_fit in
      let within = key-within meaning before valid table schema made.is in
      subst (λ (s : Option Schema). AreInner (act_statement s (Update table row))) (sym made.is)
      (update-inner schema.columns schema.key table row parts.0
      (written-row row (and_parts (has_count row) (list_all value_is_keepable row) parts.1).1
      (plain-row schema.columns row fitting))
      (names_folded schema.columns (set_places schema.columns schema.key) named
      (sets_within schema.columns schema.key))
      (names_folded schema.columns schema.key named within))
  told-inner (Delete table key) kept fit stated =
      let made = passes_so (λ (schema : Schema). version_fits schema before (Delete table key))
      (schema_at before table) fit in
      let schema : Schema = made.what in
      let fitting =
      (and_parts _ (key_fits schema key) (and_parts _ (is_live schema before key) made.fits).0).1 in
      let parts = and_parts (is_folded_name table) (cells_are_keepable key) kept in
      let named = (has meaning before valid table schema made.is).columns_fit in
      subst (λ (s : Option Schema). AreInner (act_statement s (Delete table key))) (sym made.is)
      (delete-inner schema.columns schema.key table key parts.0
      (written-row key (and_parts (has_count key) (list_all value_is_keepable key) parts.1).1
      (plain-row (filter_map (slice_get schema.columns) schema.key) key fitting))
      (names_folded schema.columns schema.key named
      (key-within meaning before valid table schema made.is)))
  told-inner (Allow purpose recipient table places item days) kept fit stated =
      let may = allow-fits purpose recipient table places item days before fit in
      let able = allow-kept purpose recipient table places item days kept in
      let made = passes_so (has_columns places) (schema_at before table) may.rule.passes in
      let schema : Schema = made.what in
      let named =
      names_folded schema.columns places (has meaning before valid table schema made.is).columns_fit
      (and_parts _ (all_within schema.columns places) made.fits).1 in
      subst (λ (s : Option Schema). AreInner
      (act_statement s (Allow purpose recipient table places item days))) (sym made.is)
      (both (codes "ALLOW ") _ (said refl)
      (both (rule_text schema.columns purpose recipient table places) _
      (rule-inner schema.columns purpose recipient table places able.names named)
      (both (with_text item) (retention_text days) (with-inner item able.with_item)
      (retention-inner days may.with_days))))
  told-inner (Revoke purpose recipient table places) kept fit stated =
      let may = rule-fits purpose recipient table places before fit in
      let made = passes_so (has_columns places) (schema_at before table) may.passes in
      let schema : Schema = made.what in
      let named =
      names_folded schema.columns places (has meaning before valid table schema made.is).columns_fit
      (and_parts _ (all_within schema.columns places) made.fits).1 in
      subst (λ (s : Option Schema). AreInner (act_statement s (Revoke purpose recipient table places)))
      (sym made.is)
      (both (codes "REVOKE ") _ (said refl)
      (rule-inner schema.columns purpose recipient table places (names-kept purpose recipient table places kept)
      named))
  told-inner (Purpose purpose) kept fit stated =
      both (codes "CREATE PURPOSE ") purpose (said refl) (inner-name purpose kept)
  told-inner (Recipient recipient) kept fit stated =
      both (codes "CREATE RECIPIENT ") recipient (said refl) (inner-name recipient kept)
  told-inner (Item item OptIn) kept fit stated =
      both (codes "CREATE ITEM ") _ (said refl)
      (both item (codes " OPT IN") (inner-name item kept) (said refl))
  told-inner (Item item OptOut) kept fit stated =
      both (codes "CREATE ITEM ") _ (said refl)
      (both item (codes " OPT OUT") (inner-name item kept) (said refl))
  told-inner (Authorize user purpose recipient) kept fit stated =
      grant-inner (codes "AUTHORIZE ") user purpose recipient (said refl) kept
  told-inner (Deauthorize user purpose recipient) kept fit stated =
      grant-inner (codes "DEAUTHORIZE ") user purpose recipient (said refl) kept
  told-inner (Choice subject item true) kept fit stated =
      let parts = and_parts (is_signed_number subject) (is_folded_name item) kept in
      choice-inner subject item (codes " IS YES") parts.0 parts.1 (said refl)
  told-inner (Choice subject item false) kept fit stated =
      let parts = and_parts (is_signed_number subject) (is_folded_name item) kept in
      choice-inner subject item (codes " IS NO") parts.0 parts.1 (said refl)
  told-inner (Asked user purpose recipient text) kept fit stated = absurd cc
