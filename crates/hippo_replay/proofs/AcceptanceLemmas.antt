-- The look-ups in a state agree with the definitions on its history.
use Rattle.std.proofs.Common.{◌≡◌, ◌∙◌, sym, ap, refl, arith, ℕ, ◌+◌, ◌-◌, Bool, true, false, not, ◌&&◌, length, take, Option, Some, None, is_some, is_none}
use Rattle.std.specs.Prelude.{option_map, option_and_then, nat_lt, ◌==◌, bytes_eq, unwrap_or, int_le}
use Rattle.std.specs.Option.{option_map_or}
use Rattle.std.specs.Cmp.Lexicographic.{nat_list_eq_equiv}
use Rattle.std.proofs.Math.Seq.{take-length}
use Rattle.std.proofs.lemmas.Bool.Decides.{nat_tests}
use Rattle.std.proofs.lemmas.Option.{none-some, same_Some}
use Rattle.hippo_values.specs.Limits.{table_limit}
use Rattle.hippo_values.specs.Moments.{first_moment}
use Rattle.hippo_values.specs.declared.moments.Moment.{Moment}
use Rattle.hippo_values.specs.declared.names.Name.{Name}
use Rattle.hippo_model.specs.declared.entry.Act.TheVariants.{Insert, Update, Delete}
use Rattle.hippo_model.specs.declared.schema.Schema.{Schema}
use Rattle.hippo_model.specs.Terms.{History, Key, Row}
use Rattle.hippo_model.specs.Histories.{schema_at, item_at, last_word}
use Rattle.hippo_model.specs.Rows.{key_of, row_at}
use Rattle.hippo_tables_keyed.specs.RowSets.{KeyedRows, kept_at, find_row}
use Rattle.hippo_model.specs.Versions.{row_fits, key_fits, is_live, version_fits}
use Rattle.hippo_model.specs.Validity.{is_purpose, is_recipient, table_passes, create_fits, is_well_formed, is_table_version, keeps_order}
use Rattle.hippo_tables_keyed.proofs.ChangesOfRows.{is_live-found}
use Rattle.hippo_typing_catalog.specs.Catalogs.{KnownNames, table_of, has_purpose, has_recipient, item_of}
use Rattle.hippo_tables.specs.Finished.{live_row}
use Rattle.hippo_tables.proofs.StandingLemmas.{schema_at-named}
use Rattle.hippo_typing.specs.Meanings.{meaning}
use Rattle.hippo_typing.specs.ResolutionLaws.{NamesAreThoseOf}
use Rattle.hippo_typing.proofs.CatalogTheorem.{valid_names}
use Rattle.hippo_replay.specs.declared.state.State.{State}
use Rattle.hippo_replay.specs.Standing.{Represents}

module _ (state : State) (history : History) (stands : Represents state history) where
  names_are : NamesAreThoseOf history
  names_are = valid_names meaning history stands.valid

  pub purposes_are : (purpose : Name) → has_purpose state.catalog.names purpose ≡ is_purpose history purpose
  purposes_are purpose = ap (λ (known : KnownNames). has_purpose known purpose) stands.names ∙ names_are.purposes purpose

  pub recipients_are : (recipient : Name) → has_recipient state.catalog.names recipient ≡ is_recipient history recipient
  recipients_are recipient = ap (λ (known : KnownNames). has_recipient known recipient) stands.names ∙ names_are.recipients recipient

  pub items_are : (item : Name) → item_of state.catalog.names item ≡ item_at history item
  items_are item = ap (λ (known : KnownNames). item_of known item) stands.names ∙ names_are.items item

  pub tables_are : (table : Name) → table_of state.catalog.names table ≡ schema_at history table
  tables_are table = ap (λ (known : KnownNames). table_of known table) stands.names ∙ names_are.tables table

  -- whether a table may be created
  pub create_is : (schema : Schema) → (nat_lt (length state.catalog.names.tables) table_limit && is_none (table_of state.catalog.names schema.name) && is_well_formed schema) ≡ create_fits history schema
  create_is schema =
      let count = ap (λ (known : KnownNames). length known.tables) stands.names ∙ names_are.count in
      λ i. nat_lt (count i) table_limit && is_none (tables_are schema.name i) && is_well_formed schema

-- if there is no such table, no test on it passes
pub unmade : (history : History) (table : Name) (test : Schema → Bool) → schema_at history table ≡ None → false ≡ table_passes history test table
unmade history table test none = ap (λ (found : Option Schema). option_map_or test found false) (sym none)

-- if there is one, its schema decides
pub made : (history : History) (table : Name) (test : Schema → Bool) (schema : Schema) → schema_at history table ≡ Some schema → test schema ≡ table_passes history test table
made history table test schema found = ap (λ (found : Option Schema). option_map_or test found false) (sym found)

named_so : (history : History) (table : Name) (schema : Schema) → schema_at history table ≡ Some schema → bytes_eq table schema.name ≡ true
named_so history table schema found = nat_list_eq_equiv.symm table schema.name ∙ schema_at-named history table schema found

-- both tests of a version agree with those of the definitions
pub both_are : {a b c d : Bool} → a ≡ b → c ≡ d → (a && c) ≡ (b && d)
both_are first second = λ i. first i && second i

-- a version of a table that exists
module _ (history : History) (table : Name) (schema : Schema) (found : schema_at history table ≡ Some schema) where
  pub insert_is : (row : Row) → (row_fits schema row && not (is_live schema history (key_of schema.key row))) ≡ is_table_version history table (Insert table row)
  insert_is row =
      ap (λ named. named && row_fits schema row && not (is_live schema history (key_of schema.key row))) (sym (named_so history table schema found))
      ∙ made history table (λ schema. version_fits schema history (Insert table row)) schema found

  pub update_is : (row : Row) → (row_fits schema row && is_live schema history (key_of schema.key row)) ≡ is_table_version history table (Update table row)
  update_is row =
      ap (λ named. named && row_fits schema row && is_live schema history (key_of schema.key row)) (sym (named_so history table schema found))
      ∙ made history table (λ schema. version_fits schema history (Update table row)) schema found

  pub delete_is : (key : Key) → (key_fits schema key && is_live schema history key) ≡ is_table_version history table (Delete table key)
  delete_is key =
      ap (λ named. named && key_fits schema key && is_live schema history key) (sym (named_so history table schema found))
      ∙ made history table (λ schema. version_fits schema history (Delete table key)) schema found

  -- a row with the same key is found among the stored ones
  pub live_like_is : (rows : KeyedRows) (row : Row) → Some rows ≡ option_map (λ schema. kept_at schema history) (schema_at history table) → is_some (find_row rows.key (key_of rows.key row) rows.rows) ≡ is_live schema history (key_of schema.key row)
  live_like_is rows row are =
      let same : rows ≡ kept_at schema history = same_Some rows (kept_at schema history) (are ∙ ap (option_map (λ schema. kept_at schema history)) found) in
      ap (λ (set : KeyedRows). is_some (find_row set.key (key_of set.key row) set.rows)) same ∙ is_live-found schema history (key_of schema.key row)

  pub rows_are : None ≡ option_map (λ schema. kept_at schema history) (schema_at history table) → ⊥
  rows_are none = none-some (kept_at schema history) (none ∙ ap (option_map (λ schema. kept_at schema history)) found)

  pub live_row_is : (key : Key) → is_some (live_row history table key) ≡ is_live schema history key
  live_row_is key = ap (λ (found : Option Schema). is_some (option_and_then (λ schema. row_at schema history key) found)) found

numbers_agree : (count length number : ℕ) → count ≡ length → (nat_lt count number && (number - count) == 1) ≡ (number == length + 1)
numbers_agree count length number same = grind (arith, nat_tests)

kept_by : (last : Option Moment) (moment : Moment) → int_le first_moment moment ≡ true → int_le (unwrap_or last first_moment) moment ≡ option_map_or (λ last. int_le last moment) last true
kept_by None moment low = low
kept_by (Some last) moment low = refl

-- the number of the next entry, and its moment
pub next_is : (state : State) (history : History) (number : ℕ) → Represents state history → (nat_lt state.count number && (number - state.count) == 1) ≡ (number == length history + 1)
next_is state history number stands = numbers_agree state.count (length history) number stands.count

pub order_is : (state : State) (history : History) (moment : Moment) → Represents state history → int_le first_moment moment ≡ true → int_le state.last moment ≡ keeps_order history moment
order_is state history moment stands low = ap (λ (last : Moment). int_le last moment) stands.last ∙ kept_by (last_word (λ e. Some e.moment) history) moment low

-- taking as many entries as there are takes all of them
pub all_taken : (state : State) (history : History) → Represents state history → take state.count history ≡ history
all_taken state history stands = ap (λ n. take n history) stands.count ∙ take-length history
