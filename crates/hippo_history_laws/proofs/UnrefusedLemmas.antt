-- Names, places and values in which nothing is refused.
use Rattle.std.proofs.Common.{◌≡◌, ◌∙◌, zero, suc, ◌+◌, ◌<◌, Bool, true, false, not, ◌&&◌, List, [], ◌∷◌, ◌++◌, filter, filter_map, length, map, Option, Some, refl, sym, ap, subst, inl, inr, arith}
use Rattle.std.specs.Prelude.{bytes_eq, nat_eq, nat_lt, slice_get, unwrap_or, is_none}
use Rattle.std.specs.Cmp.Lexicographic.{nat_list_eq_equiv, pointwise}
use Rattle.std.specs.List.{list_any, list_all, range_with_len, zip, cons_option}
use Rattle.std.specs.Option.{option_map_or}
use Rattle.std.proofs.lemmas.Bool.{and_parts, and_from, or_parts, or_from, or_left, or_right, cases_Bool, eqb-false, eq-eqb, ne_eqb, ltb-true, not-true, not_from_false, not_from_true}
use Rattle.std.proofs.lemmas.List.Concat.{flat_map-append}
use Rattle.std.proofs.lemmas.List.Folds.{list_any-append}
use Rattle.std.proofs.lemmas.Slice.Eq.{bytes_eq-Decides}
use Rattle.hippo_values.specs.Texts.{keeps_text_rule}
use Rattle.hippo_values.specs.declared.names.Name.{Name}
use Rattle.hippo_values.specs.declared.values.Value.{Value}
use Rattle.hippo_values.specs.declared.values.Value.TheVariants as values
use Rattle.hippo_model.specs.declared.name_fault.NameFault.{NameFault}
use Rattle.hippo_model.specs.declared.name_fault.NameFault.TheVariants.{KeyChanged, NotTheKey, NullNotAllowed, RepeatedName, TypeMismatch, UnknownColumn, BadText}
use Rattle.hippo_model.specs.declared.schema.Column.{Column}
use Rattle.hippo_model.specs.declared.schema.Schema.{Schema}
use Rattle.hippo_model.specs.Rows.{cell_at, key_of}
use Rattle.hippo_model.specs.Terms.{Key, Place, Row}
use Rattle.hippo_model.specs.Validity.{all_differ}
use Rattle.hippo_model.specs.Values.{fits, has_kind}
use Rattle.hippo_typing_catalog.specs.ChangesRefused.{unknown_columns, in_column, kind_refused, null_refused, text_refused, row_refused, assigned_refused, assignments_refused, key_refused, key_changed, is_the_key, is_of_key}
use Rattle.hippo_typing_catalog.specs.Refusals.{fault_if, repeated_after, repeated_names}
use Rattle.hippo_typing_catalog.specs.WrittenColumns.{place_of}
use Rattle.hippo_history_statements.specs.Telling.{name_at, is_set}
use Rattle.hippo_history_laws.proofs.KeyTheorem.{same_place}
use Rattle.hippo_history_laws.proofs.NamePlaces.{column_names, all_within, place_at, places_again}

pub both_none : {A : Type 0} (first second : List A) → first ≡ [] → second ≡ [] → first ++ second
    ≡ []
both_none {A} first second none nothing =
    subst (λ (l : List A). l ++ second ≡ []) (sym none) nothing

pub none_and : {first second : List NameFault} → first ≡ [] → second ≡ [] → first ++ second ≡ []
none_and {first} {second} none nothing = both_none first second none nothing

pub refused_not : (test : Bool) (fault : NameFault) → test ≡ false → fault_if test fault ≡ []
refused_not true fault fails = absurd cc
refused_not false fault fails = refl

-- distinct names are not repeated
abbrev are_new : List Name → List Name → Bool
are_new before names = list_all (λ (other : Name). not (list_any (bytes_eq other) before)) names

new_at_first : (names : List Name) → are_new [] names ≡ true
new_at_first [] = refl
new_at_first (name ∷ names) = new_at_first names

new_with : (before : List Name) (name : Name) (names : List Name) → list_any (bytes_eq name) names
    ≡ false → are_new before names ≡ true → are_new (before ++ name ∷ []) names ≡ true
new_with before name [] none new = refl
new_with before name (other ∷ names) none new =
    let parts = or_parts (bytes_eq name other) (list_any (bytes_eq name) names) none in
    let both = and_parts (not (list_any (bytes_eq other) before)) (are_new before names) new in
    let apart : bytes_eq other name ≡ false = nat_list_eq_equiv.symm other name ∙ parts.0 in
    let here : list_any (bytes_eq other) (before ++ name ∷ []) ≡ false =
    list_any-append (bytes_eq other) before (name ∷ [])
    ∙ or_from _ _ (not-true _ both.0) (or_from _ _ apart refl) in
    and_from _ _ (not_from_false _ here) (new_with before name names parts.1 both.1)

not_after : (before names : List Name) → all_differ bytes_eq names ≡ true → are_new before names
    ≡ true → repeated_after before names ≡ []
not_after before [] differ new = refl
not_after before (name ∷ names) differ new =
    let parts =
    and_parts (not (list_any (bytes_eq name) names)) (all_differ bytes_eq names) differ in
    let both = and_parts (not (list_any (bytes_eq name) before)) (are_new before names) new in
    both_none (fault_if (list_any (bytes_eq name) before) (RepeatedName name))
    (repeated_after (before ++ name ∷ []) names)
    (refused_not _ (RepeatedName name) (not-true _ both.0))
    (not_after (before ++ name ∷ []) names parts.1
    (new_with before name names (not-true _ parts.0) both.1))

pub none-repeated : (names : List Name) → all_differ bytes_eq names ≡ true → repeated_names names
    ≡ []
none-repeated names differ = not_after [] names differ (new_at_first names)

-- a value that fits its column
pub record IsPassed (refusals : Column → Value → List NameFault) : Type 0 where
  pub passes : (column : Column) (value : Value) → fits column value ≡ true → refusals column value
      ≡ []

kind_passes : (column : Column) (value : Value) → fits column value ≡ true
    → kind_refused column value ≡ []
kind_passes column values.Null fit = refl
kind_passes column (values.Int number) fit = refused_not _ TypeMismatch (not_from_true _ fit)
kind_passes column (values.Text text) fit =
    refused_not _ TypeMismatch
    (not_from_true _
    (and_parts (has_kind column.kind (values.Text text)) (keeps_text_rule text) fit).0)
kind_passes column (values.Day day) fit = refused_not _ TypeMismatch (not_from_true _ fit)

null_passes : (column : Column) (value : Value) → fits column value ≡ true
    → null_refused column value ≡ []
null_passes column values.Null fit =
    refused_not column.not_null (NullNotAllowed column.name) (not-true _ fit)
null_passes column (values.Int number) fit = refl
null_passes column (values.Text text) fit = refl
null_passes column (values.Day day) fit = refl

text_passes : (column : Column) (value : Value) → fits column value ≡ true
    → text_refused column value ≡ []
text_passes column values.Null fit = refl
text_passes column (values.Int number) fit = refl
text_passes column (values.Text text) fit =
    refused_not _ BadText
    (not_from_true _
    (and_parts (has_kind column.kind (values.Text text)) (keeps_text_rule text) fit).1)
text_passes column (values.Day day) fit = refl

pub kinds_passed : IsPassed kind_refused
kinds_passed = record { passes = kind_passes }

pub nulls_passed : IsPassed null_refused
nulls_passed = record { passes = null_passes }

pub texts_passed : IsPassed text_refused
texts_passed = record { passes = text_passes }

-- a row that fits
pub row_none : (refusals : Column → Value → List NameFault) → IsPassed refusals
    → (columns : List Column) (row : Row) → pointwise fits columns row ≡ true
    → row_refused refusals columns row ≡ []
row_none refusals passed [] row fit = refl
row_none refusals passed (column ∷ columns) [] fit = refl
row_none refusals passed (column ∷ columns) (value ∷ row) fit =
    let parts = and_parts (fits column value) (pointwise fits columns row) fit in
    both_none (refusals column value) (row_refused refusals columns row)
    (passed.passes column value parts.0) (row_none refusals passed columns row parts.1)

fits_at : (columns : List Column) (row : Row) (place : Place) (column : Column)
    → pointwise fits columns row ≡ true → slice_get columns place ≡ Some column
    → fits column (cell_at row place) ≡ true
fits_at [] row place column fit at = absurd cc
fits_at (one ∷ columns) [] place column fit at = absurd cc
fits_at (one ∷ columns) (value ∷ row) zero column fit at =
    let same : one ≡ column = cc in
    subst (λ (c : Column). fits c value ≡ true) same
    (and_parts (fits one value) (pointwise fits columns row) fit).0
fits_at (one ∷ columns) (value ∷ row) (suc place) column fit at =
    fits_at columns row place column (and_parts (fits one value) (pointwise fits columns row) fit).1
    at

-- the column at a place
pub record IsColumn (columns : List Column) (place : Place) : Type 0 where
  pub column : Column
  pub at : slice_get columns place ≡ Some column

pub column_there : (columns : List Column) (place : Place) → place < length columns
    → IsColumn columns place
column_there [] place small = absurd (omega (arith, small))
column_there (column ∷ columns) zero small = record { column = column; at = refl }
column_there (column ∷ columns) (suc place) small =
    let later = column_there columns place (omega (arith, small)) in
    record { column = later.column; at = later.at }

-- the values of a row that fits, at places of columns
pub cells_fit : (columns : List Column) (row : Row) → pointwise fits columns row ≡ true
    → (places : List Place) → all_within columns places ≡ true
    → pointwise fits (filter_map (slice_get columns) places) (key_of places row) ≡ true
cells_fit columns row fit [] within = refl
cells_fit columns row fit (place ∷ places) within =
    let parts = and_parts (nat_lt place (length columns)) (all_within columns places) within in
    let there = column_there columns place (ltb-true place (length columns) parts.0) in
    subst (λ (found : Option Column). pointwise fits
    (cons_option found (filter_map (slice_get columns) places)) (key_of (place ∷ places) row)
    ≡ true) (sym there.at)
    (and_from _ _ (fits_at columns row place there.column fit there.at)
    (cells_fit columns row fit places parts.1))

module _ (schema : Schema) (differ : all_differ bytes_eq (column_names schema.columns) ≡ true) where
  abbrev pub names_at : List Place → List Name
  names_at places = map (name_at schema.columns) places

  -- names of columns at different places differ
  other_named : (place other : Place) → place < length schema.columns
      → other < length schema.columns → nat_eq place other ≡ false
      → bytes_eq (name_at schema.columns place) (name_at schema.columns other) ≡ false
  other_named place other small small_too apart =
      elim (cases_Bool (bytes_eq (name_at schema.columns place) (name_at schema.columns other))) [
        | inl is ↦
            let names : name_at schema.columns place ≡ name_at schema.columns other =
            (bytes_eq-Decides (name_at schema.columns place) (name_at schema.columns other)).0 is in
            let found : Some place ≡ Some other =
            sym (place_at schema place differ small) ∙ ap (place_of schema) names
            ∙ place_at schema other differ small_too in
            absurd (eqb-false place other apart (ap (λ (p : Option Place). unwrap_or p 0) found))
        | inr is ↦ is
      ]

  none_named : (place : Place) (places : List Place) → place < length schema.columns
      → all_within schema.columns places ≡ true → list_any (nat_eq place) places ≡ false
      → list_any (bytes_eq (name_at schema.columns place)) (names_at places) ≡ false
  none_named place [] small within none = refl
  none_named place (other ∷ places) small within none =
      let parts =
      and_parts (nat_lt other (length schema.columns)) (all_within schema.columns places) within in
      let both = or_parts (nat_eq place other) (list_any (nat_eq place) places) none in
      or_from _ _
      (other_named place other small (ltb-true other (length schema.columns) parts.0) both.0)
      (none_named place places small parts.1 both.1)

  names_apart : (places : List Place) → all_within schema.columns places ≡ true
      → all_differ nat_eq places ≡ true → all_differ bytes_eq (names_at places) ≡ true
  names_apart [] within apart = refl
  names_apart (place ∷ places) within apart =
      let parts =
      and_parts (nat_lt place (length schema.columns)) (all_within schema.columns places) within in
      let both = and_parts (not (list_any (nat_eq place) places)) (all_differ nat_eq places)
      apart in
      and_from _ _
      (not_from_false _
      (none_named place places (ltb-true place (length schema.columns) parts.0) parts.1
      (not-true _ both.0))) (names_apart places parts.1 both.1)

  pub not_repeated : (places : List Place) → all_within schema.columns places ≡ true
      → all_differ nat_eq places ≡ true → repeated_names (names_at places) ≡ []
  not_repeated places within apart =
      none-repeated (names_at places) (names_apart places within apart)

  -- the columns are the table's
  pub none_unknown : (places : List Place) → all_within schema.columns places ≡ true
      → unknown_columns schema (names_at places) ≡ []
  none_unknown [] within = refl
  none_unknown (place ∷ places) within =
      let parts =
      and_parts (nat_lt place (length schema.columns)) (all_within schema.columns places) within in
      let found = place_at schema place differ (ltb-true place (length schema.columns) parts.0) in
      both_none (fault_if (is_none (place_of schema (name_at schema.columns place)))
      (UnknownColumn (name_at schema.columns place))) (unknown_columns schema (names_at places))
      (refused_not _ (UnknownColumn (name_at schema.columns place)) (ap is_none found))
      (none_unknown places parts.1)

  pub none_unknown_in : (first second : List Name) → unknown_columns schema first ≡ []
      → unknown_columns schema second ≡ [] → unknown_columns schema (first ++ second) ≡ []
  none_unknown_in first second none nothing =
      flat_map-append
      (λ (name : Name). fault_if (is_none (place_of schema name)) (UnknownColumn name)) first second
      ∙ both_none (unknown_columns schema first) (unknown_columns schema second) none nothing

  -- what is refused in a column that is found
  pub in_column_none : (place : Place) (column : Column) (refusals : Column → List NameFault)
      → place < length schema.columns → slice_get schema.columns place ≡ Some column
      → refusals column ≡ [] → in_column schema (name_at schema.columns place) refusals ≡ []
  in_column_none place column refusals small at none =
      rw (place_at schema place differ small)
      (ap (λ (found : Option Column). option_map_or refusals found []) at ∙ none)

  -- what is refused in values that fit the columns at some places
  assigned_none : (refusals : Column → Value → List NameFault) → IsPassed refusals
      → (places : List Place) (key : Key) → all_within schema.columns places ≡ true
      → pointwise fits (filter_map (slice_get schema.columns) places) key ≡ true
      → assigned_refused refusals schema (zip (names_at places) key) ≡ []
  assigned_none refusals passed [] key within fit = refl
  assigned_none refusals passed (place ∷ places) [] within fit = refl
  assigned_none refusals passed (place ∷ places) (value ∷ key) within fit =
      let parts =
      and_parts (nat_lt place (length schema.columns)) (all_within schema.columns places) within in
      let small = ltb-true place (length schema.columns) parts.0 in
      let there = column_there schema.columns place small in
      let here : (fits there.column value && pointwise fits
      (filter_map (slice_get schema.columns) places) key) ≡ true =
      subst (λ (found : Option Column). pointwise fits
      (cons_option found (filter_map (slice_get schema.columns) places)) (value ∷ key) ≡ true)
      there.at fit in
      let both = and_parts (fits there.column value)
      (pointwise fits (filter_map (slice_get schema.columns) places) key) here in
      both_none (in_column schema (name_at schema.columns place)
      (λ (column : Column). refusals column value))
      (assigned_refused refusals schema (zip (names_at places) key))
      (in_column_none place there.column (λ (column : Column). refusals column value) small there.at
      (passed.passes there.column value both.0))
      (assigned_none refusals passed places key parts.1 both.1)

  -- what is assigned is not refused
  pub record AreAssigned (assigned : List (Name × Value)) : Type 0 where
    pub each : (refusals : Column → Value → List NameFault) → IsPassed refusals
        → assigned_refused refusals schema assigned ≡ []

  pub are_assigned : (places : List Place) (key : Key) → all_within schema.columns places ≡ true
      → pointwise fits (filter_map (slice_get schema.columns) places) key ≡ true
      → AreAssigned (zip (names_at places) key)
  are_assigned places key within fit =
      record { each = λ refusals passed. assigned_none refusals passed places key within fit }

  pub both_assigned : (first second : List (Name × Value)) → AreAssigned first → AreAssigned second
      → AreAssigned (first ++ second)
  both_assigned first second one other = record {
    each = λ refusals passed.
        flat_map-append
        (λ (name, value). in_column schema name (λ (column : Column). refusals column value)) first
        second
        ∙ both_none (assigned_refused refusals schema first)
        (assigned_refused refusals schema second) (one.each refusals passed)
        (other.each refusals passed);
  }

  pub assignments_none : (assigned : List (Name × Value)) → AreAssigned assigned
      → assignments_refused schema assigned ≡ []
  assignments_none assigned are =
      both_none (assigned_refused kind_refused schema assigned ++ assigned_refused null_refused
      schema assigned) (assigned_refused text_refused schema assigned)
      (both_none (assigned_refused kind_refused schema assigned)
      (assigned_refused null_refused schema assigned) (are.each kind_refused kinds_passed)
      (are.each null_refused nulls_passed))
      (are.each text_refused texts_passed)

  -- these are the key's places
  all_among : (whole places : List Place)
      → ((place : Place) → list_any (nat_eq place) places ≡ true → list_any (nat_eq place) whole
      ≡ true) → list_all (λ (place : Place). list_any (nat_eq place) whole) places ≡ true
  all_among whole [] among = refl
  all_among whole (place ∷ places) among =
      and_from _ _ (among place (or_left _ _ (same_place place)))
      (all_among whole places (λ other there. among other (or_right (nat_eq other place) _ there)))

  pub the_key : all_within schema.columns schema.key ≡ true
      → key_refused schema (names_at schema.key) ≡ []
  the_key within =
      let is : is_the_key schema schema.key ≡ true =
      and_from _ _ (eq-eqb (length schema.key) (length schema.key) refl)
      (all_among schema.key schema.key (λ place there. there)) in
      let again = places_again schema schema.key differ within in
      refused_not _ NotTheKey (ap (λ (places : List Place). not (is_the_key schema places)) again
      ∙ not_from_true _ is)

  -- no column of the key is set
  pub none_of_key : (places : List Place) → all_within schema.columns places ≡ true
      → list_all (is_set schema.key) places ≡ true → key_changed schema (names_at places) ≡ []
  none_of_key [] within are = refl
  none_of_key (place ∷ places) within are =
      let parts =
      and_parts (nat_lt place (length schema.columns)) (all_within schema.columns places) within in
      let both = and_parts (is_set schema.key place) (list_all (is_set schema.key) places) are in
      let found = place_at schema place differ (ltb-true place (length schema.columns) parts.0) in
      both_none (fault_if (is_of_key schema (name_at schema.columns place))
      (KeyChanged (name_at schema.columns place))) (key_changed schema (names_at places))
      (refused_not _ (KeyChanged (name_at schema.columns place))
      (ap (λ (p : Option Place). option_map_or
      (λ (place : Place). list_any (nat_eq place) schema.key) p false) found ∙ not-true _ both.0))
      (none_of_key places parts.1 both.1)

-- each member of a filter passes, and members that differ still do
pub all_kept : (kept : Place → Bool) (places : List Place) → list_all kept (filter kept places)
    ≡ true
all_kept kept [] = refl
all_kept kept (place ∷ places) = elim (cases_Bool (kept place)) [
  | inl is ↦ rw is (and_from _ _ is (all_kept kept places))
  | inr is ↦ rw is (all_kept kept places)
]

none_kept : (kept : Place → Bool) (test : Place → Bool) (places : List Place) → list_any test places
    ≡ false → list_any test (filter kept places) ≡ false
none_kept kept test [] none = refl
none_kept kept test (place ∷ places) none =
    let parts = or_parts (test place) (list_any test places) none in
    elim (cases_Bool (kept place)) [
      | inl is ↦ rw is (or_from _ _ parts.0 (none_kept kept test places parts.1))
      | inr is ↦ rw is (none_kept kept test places parts.1)
    ]

pub differ_kept : (kept : Place → Bool) (places : List Place) → all_differ nat_eq places ≡ true
    → all_differ nat_eq (filter kept places) ≡ true
differ_kept kept [] differ = refl
differ_kept kept (place ∷ places) differ =
    let parts =
    and_parts (not (list_any (nat_eq place) places)) (all_differ nat_eq places) differ in
    elim (cases_Bool (kept place)) [
      | inl is ↦ rw is
          (and_from _ _
          (not_from_false _ (none_kept kept (nat_eq place) places (not-true _ parts.0)))
          (differ_kept kept places parts.1))
      | inr is ↦ rw is (differ_kept kept places parts.1)
    ]

-- consecutive places differ
none_lower : (place low n : Place) → place < low → list_any (nat_eq place) (range_with_len low n)
    ≡ false
none_lower place low zero small = refl
none_lower place low (suc n) small =
    or_from _ _ (ne_eqb place low (λ same. absurd (omega (arith, small, same))))
    (none_lower place (low + 1) n (omega (arith, small)))

pub range_differs : (low n : Place) → all_differ nat_eq (range_with_len low n) ≡ true
range_differs low zero = refl
range_differs low (suc n) =
    and_from _ _ (not_from_false _ (none_lower low (low + 1) n (omega arith)))
    (range_differs (low + 1) n)
