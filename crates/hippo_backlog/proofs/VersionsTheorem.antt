-- The rows of a table depend only on its versions, and in a valid history each version fits those
-- before it.
use Rattle.std.proofs.Common.{◌≡◌, ◌∙◌, sym, ap, refl, Bool, true, false, ◌&&◌, not, [], ◌∷◌, ◌++◌, filter, filter_map, cond, Option, Some, None, option_map, unwrap_or, append_assoc}
use Rattle.std.specs.Prelude.{is_none, is_some, option_and_then, bytes_eq}
use Rattle.std.specs.Bool.{then_some}
use Rattle.std.specs.Option.{option_or, option_map_or}
use Rattle.std.proofs.lemmas.Bool.{and_parts, false≢true}
use Rattle.std.proofs.lemmas.List.{append-nil}
use Rattle.std.proofs.lemmas.Option.{none-some}
use Rattle.std.proofs.lemmas.Slice.Eq.{bytes_eq-Decides}
use Rattle.std.proofs.Math.Bool.{and-false}
use Rattle.hippo_values.specs.Moments.{first_moment}
use Rattle.hippo_values.specs.Order.{same_cells}
use Rattle.hippo_values.specs.declared.names.Name.{Name}
use Rattle.hippo_model.specs.declared.schema.Schema.{Schema}
use Rattle.hippo_model.specs.declared.entry.Act.{Act}
use Rattle.hippo_model.specs.declared.entry.Act.TheVariants.{Create, Insert, Update, Delete}
use Rattle.hippo_model.specs.declared.entry.Entry.{Entry}
use Rattle.hippo_model.specs.Terms.{History, Meaning, Key}
use Rattle.hippo_model.specs.Histories.{last_word, schema_created, schema_at}
use Rattle.hippo_model.specs.Rows.{key_of, key_named, names_key, row_left, row_at, is_insert, born_at, born_row_at, with_key, keys_named, table_rows}
use Rattle.hippo_tables_keyed.specs.RowSets.{kept_at}
use Rattle.hippo_model.specs.StoredForms.{table_changed}
use Rattle.hippo_model.specs.Validity.{is_acceptable, is_table_version, may_follow, is_valid}
use Rattle.hippo_model.specs.Versions.{is_version, row_fits, key_fits, version_fits}
use Rattle.hippo_model.proofs.LastWords.{last_word-append}
use Rattle.hippo_model_laws.proofs.ValidFronts.{front_is_valid, is_valid-append}
use Rattle.hippo_backlog.specs.Backlogs.{is_version_of, versions_of}

option_or-None : {A : Type 0} (word : Option A) → option_or word None ≡ word
option_or-None None = refl
option_or-None (Some word) = refl

-- entries that say nothing may be left out
last_word-filter : {A : Type 0} (word : Entry → Option A) (test : Entry → Bool) → ((entry : Entry) → test entry ≡ false → word entry ≡ None) → (history : History) → last_word word (filter test history) ≡ last_word word history
last_word-filter word test silent [] = refl
last_word-filter word test silent (entry ∷ later) =
    let rest = last_word-filter word test silent later in
    elim (test entry) as (λ passes. test entry ≡ passes → last_word word (cond passes (entry ∷ filter test later) (filter test later)) ≡ option_or (last_word word later) (word entry)) [
      | true ↦ λ is. ap (λ last. option_or last (word entry)) rest
      | false ↦ λ is. rest ∙ sym (ap (option_or (last_word word later)) (silent entry is) ∙ option_or-None (last_word word later))
    ] refl

module _ (schema : Schema) where
  named_by : (act : Act) → (is_version act && bytes_eq (table_changed act) schema.name) ≡ false → key_named schema act ≡ None
  named_by (Insert table row) other = rw other
  named_by (Update table row) other = rw other
  named_by (Delete table key) other = rw other
  named_by act other = refl

  -- an entry that is not a version of the table names none of its keys
  names_none : (entry : Entry) → is_version_of schema.name entry ≡ false → key_named schema entry.act ≡ None
  names_none entry other = named_by entry.act other

  keys_named-filter : (history : History) → keys_named schema (versions_of schema.name history) ≡ keys_named schema history
  keys_named-filter [] = refl
  keys_named-filter (entry ∷ later) =
      let rest = keys_named-filter later in
      elim (is_version_of schema.name entry) as (λ passes. is_version_of schema.name entry ≡ passes → keys_named schema (cond passes (entry ∷ versions_of schema.name later) (versions_of schema.name later)) ≡ with_key (key_named schema entry.act) (keys_named schema later)) [
        | true ↦ λ is. ap (with_key (key_named schema entry.act)) rest
        | false ↦ λ is. rest ∙ sym (ap (λ named. with_key named (keys_named schema later)) (names_none entry is))
      ] refl

  pub row_at-versions : (history : History) (key : Key) → row_at schema (versions_of schema.name history) key ≡ row_at schema history key
  row_at-versions history key =
      ap (option_and_then (λ left. left))
      (last_word-filter (λ entry. then_some (names_key schema key entry.act) (row_left entry.act)) (is_version_of schema.name)
      (λ entry other. ap (λ named. then_some (option_map_or (λ named. same_cells named key) named false) (row_left entry.act)) (names_none entry other)) history)

  born_at-versions : (history : History) (key : Key) → born_at schema (versions_of schema.name history) key ≡ born_at schema history key
  born_at-versions history key =
      ap (λ last. unwrap_or last first_moment)
      (last_word-filter (λ entry. then_some (is_insert entry.act && names_key schema key entry.act) entry.moment) (is_version_of schema.name)
      (λ entry other. ap (λ named. then_some (is_insert entry.act && option_map_or (λ named. same_cells named key) named false) entry.moment) (names_none entry other) ∙ ap (λ speaks. then_some speaks entry.moment) (and-false (is_insert entry.act))) history)

  born_row_at-versions : (history : History) (key : Key) → born_row_at schema (versions_of schema.name history) key ≡ born_row_at schema history key
  born_row_at-versions history key = λ i. option_map (λ row. record { row = row; born = born_at-versions history key i }) (row_at-versions history key i)

  table_rows-versions : (history : History) → table_rows schema (versions_of schema.name history) ≡ table_rows schema history
  table_rows-versions history = λ i. filter_map (λ key. born_row_at-versions history key i) (keys_named-filter history i)

  -- the rows are those after the versions alone
  pub kept_at-versions : (history : History) → kept_at schema history ≡ kept_at schema (versions_of schema.name history)
  kept_at-versions history = λ i. record { key = schema.key; rows = sym (table_rows-versions history) i }

  -- a version fits a history exactly when it fits the versions of its table alone
  pub version_fits-versions : (history : History) (act : Act) → version_fits schema (versions_of schema.name history) act ≡ version_fits schema history act
  version_fits-versions history (Insert table row) =
      ap (λ found. bytes_eq table schema.name && row_fits schema row && not (is_some found)) (row_at-versions history (key_of schema.key row))
  version_fits-versions history (Update table row) =
      ap (λ found. bytes_eq table schema.name && row_fits schema row && is_some found) (row_at-versions history (key_of schema.key row))
  version_fits-versions history (Delete table key) =
      ap (λ found. bytes_eq table schema.name && key_fits schema key && is_some found) (row_at-versions history key)
  version_fits-versions history act = refl

none_is : {A : Type 0} (o : Option A) → is_none o ≡ true → o ≡ None
none_is None e = refl
none_is (Some x) e = absurd cc

some_is : (x y : Schema) → Some x ≡ Some y → x ≡ y
some_is x y e = cc

module _ (meaning : Meaning) where
  acceptable : (history : History) (entry : Entry) → may_follow meaning history entry ≡ true → is_acceptable meaning history entry.act ≡ true
  acceptable history entry may = (and_parts _ _ may).1

  -- a table that is created is not created again
  created_none : (history : History) (table : Name) (schema : Schema) (act : Act) → is_acceptable meaning history act ≡ true → schema_at history table ≡ Some schema → schema_created table act ≡ None
  created_none history table schema (Create other) fits is =
      let fresh = (and_parts _ _ (and_parts _ _ fits).0).1 in
      elim (bytes_eq other.name table) as (λ same. bytes_eq other.name table ≡ same → then_some same other ≡ None) [
        | true ↦ λ same. absurd (none-some schema (sym (none_is (schema_at history other.name) fresh) ∙ ap (schema_at history) ((bytes_eq-Decides other.name table).0 same) ∙ is))
        | false ↦ λ same. refl
      ] refl
  created_none history table schema act fits is = refl

  schema_lasts : (history : History) (entry : Entry) (table : Name) (schema : Schema) → may_follow meaning history entry ≡ true → schema_at history table ≡ Some schema → schema_at (history ++ entry ∷ []) table ≡ Some schema
  schema_lasts history entry table schema may is =
      last_word-append (λ e. schema_created table e.act) history entry
      ∙ ap (λ word. option_or word (schema_at history table)) (created_none history table schema entry.act (acceptable history entry may) is) ∙ is

  -- an entry of a valid history may follow those before it
  pub may_there : (front remaining : History) (entry : Entry) → is_valid meaning (front ++ entry ∷ remaining) ≡ true → may_follow meaning front entry ≡ true
  may_there front remaining entry valid =
      let short = front_is_valid meaning (front ++ entry ∷ []) remaining (ap (is_valid meaning) (append_assoc front (entry ∷ []) remaining) ∙ valid) in
      (and_parts (is_valid meaning front) (may_follow meaning front entry) (sym (is_valid-append meaning front entry) ∙ short)).1

  -- in a valid history a table keeps its schema
  pub schemas_last : (front later : History) (table : Name) (schema : Schema) → is_valid meaning (front ++ later) ≡ true → schema_at front table ≡ Some schema → schema_at (front ++ later) table ≡ Some schema
  schemas_last front [] table schema valid is = ap (λ h. schema_at h table) (append-nil front) ∙ is
  schemas_last front (entry ∷ later) table schema valid is =
      let regrouped = append_assoc front (entry ∷ []) later in
      let may = may_there front later entry valid in
      sym (ap (λ h. schema_at h table) regrouped)
      ∙ schemas_last (front ++ entry ∷ []) later table schema (ap (is_valid meaning) regrouped ∙ valid) (schema_lasts front entry table schema may is)

-- the place in the history of an entry that passes a test
pub record StandsAt (test : Entry → Bool) (history passed : History) (entry : Entry) : Type 0 where
  pub front : History
  pub remaining : History
  pub whole : history ≡ front ++ entry ∷ remaining
  pub before : filter test front ≡ passed
  pub passes : test entry ≡ true

module _ (test : Entry → Bool) where
  here : (first entry : Entry) (history rest later : History) → test first ≡ true → first ∷ rest ≡ entry ∷ later → StandsAt test (first ∷ history) [] entry
  here first entry history rest later is same =
      let one : first ≡ entry = cc in
      record { front = []; remaining = history; whole = λ i. one i ∷ history; before = refl; passes = ap test (sym one) ∙ is }

  later_there : (first entry : Entry) (history passed : History) (other : Entry) → test first ≡ true → first ≡ other → StandsAt test history passed entry → StandsAt test (first ∷ history) (other ∷ passed) entry
  later_there first entry history passed other is one there = record {
    front = first ∷ there.front;
    remaining = there.remaining;
    whole = ap (λ rest. first ∷ rest) there.whole;
    before = rw is (λ i. one i ∷ there.before i);
    passes = there.passes;
  }

  passed_over : (first entry : Entry) (history passed : History) → test first ≡ false → StandsAt test history passed entry → StandsAt test (first ∷ history) passed entry
  passed_over first entry history passed is there = record {
    front = first ∷ there.front;
    remaining = there.remaining;
    whole = ap (λ rest. first ∷ rest) there.whole;
    before = rw is there.before;
    passes = there.passes;
  }

  first_same : (a b : Entry) (xs ys : History) → a ∷ xs ≡ b ∷ ys → a ≡ b
  first_same a b xs ys e = cc

  rest_same : (a b : Entry) (xs ys : History) → a ∷ xs ≡ b ∷ ys → xs ≡ ys
  rest_same a b xs ys e = cc

  pub stands_at : (history passed later : History) (entry : Entry) → filter test history ≡ passed ++ entry ∷ later → StandsAt test history passed entry
  stands_at [] [] later entry e = absurd cc
  stands_at [] (other ∷ passed) later entry e = absurd cc
  stands_at (first ∷ history) [] later entry e =
      elim (test first) as (λ passes. test first ≡ passes → cond passes (first ∷ filter test history) (filter test history) ≡ entry ∷ later → StandsAt test (first ∷ history) [] entry) [
        | true ↦ λ is same. here first entry history (filter test history) later is same
        | false ↦ λ is same. passed_over first entry history [] is (stands_at history [] later entry same)
      ] refl e
  stands_at (first ∷ history) (other ∷ passed) later entry e =
      elim (test first) as (λ passes. test first ≡ passes → cond passes (first ∷ filter test history) (filter test history) ≡ other ∷ (passed ++ entry ∷ later) → StandsAt test (first ∷ history) (other ∷ passed) entry) [
        | true ↦ λ is same. later_there first entry history passed other is (first_same first other (filter test history) (passed ++ entry ∷ later) same) (stands_at history passed later entry (rest_same first other (filter test history) (passed ++ entry ∷ later) same))
        | false ↦ λ is same. passed_over first entry history (other ∷ passed) is (stands_at history (other ∷ passed) later entry same)
      ] refl e

module _ (meaning : Meaning) (front remaining : History) (entry : Entry) (schema : Schema) (valid : is_valid meaning (front ++ entry ∷ remaining) ≡ true)
    (created : schema_at (front ++ entry ∷ remaining) schema.name ≡ Some schema) where
  for_table : (table : Name) (act : Act) → bytes_eq table schema.name ≡ true → is_table_version front table act ≡ true → version_fits schema front act ≡ true
  for_table table act named fits =
      let same_name = (bytes_eq-Decides table schema.name).0 named in
      elim (schema_at front table) as (λ found. schema_at front table ≡ found → option_map_or (λ s. version_fits s front act) found false ≡ true → version_fits schema front act ≡ true) [
        | None ↦ λ e fits. absurd (false≢true fits)
        | Some other ↦ λ e fits.
            let there = schemas_last meaning front (entry ∷ remaining) schema.name other valid (ap (schema_at front) (sym same_name) ∙ e) in
            ap (λ s. version_fits s front act) (some_is schema other (sym created ∙ there)) ∙ fits
      ] refl fits

  fits_front : (act : Act) → (is_version act && bytes_eq (table_changed act) schema.name) ≡ true → is_acceptable meaning front act ≡ true → version_fits schema front act ≡ true
  fits_front (Insert table row) passes fits = for_table table (Insert table row) passes fits
  fits_front (Update table row) passes fits = for_table table (Update table row) passes fits
  fits_front (Delete table key) passes fits = for_table table (Delete table key) passes fits
  fits_front act passes fits = absurd (false≢true passes)

  pub version_there : is_version_of schema.name entry ≡ true → version_fits schema front entry.act ≡ true
  version_there passes = fits_front entry.act passes (acceptable meaning front entry (may_there meaning front remaining entry valid))

-- each version of a table fits the versions of the table before it
pub versions_fit : (meaning : Meaning) (history : History) (schema : Schema) → is_valid meaning history ≡ true → schema_at history schema.name ≡ Some schema → (earlier later : History) (entry : Entry) → versions_of schema.name history ≡ earlier ++ entry ∷ later → version_fits schema earlier entry.act ≡ true
versions_fit meaning history schema valid created earlier later entry split =
    let there = stands_at (is_version_of schema.name) history earlier later entry split in
    let fits = version_there meaning there.front there.remaining entry schema (ap (is_valid meaning) (sym there.whole) ∙ valid) (ap (λ h. schema_at h schema.name) (sym there.whole) ∙ created) there.passes in
    ap (λ h. version_fits schema h entry.act) (sym there.before) ∙ version_fits-versions schema there.front entry.act ∙ fits
