-- The names that an entry found are also those of the whole history: tables are never renamed or
-- dropped, and texts keep their meanings.
use Rattle.std.proofs.Common.{◌≡◌, ◌∙◌, ◌+◌, ◌&&◌, ℕ, Bool, true, false, cond, [], ◌∷◌, ◌++◌, length, take, Option, Some, None, refl, sym, ap, subst, append_assoc, arith}
use Rattle.std.specs.Prelude.{◌==◌, is_some, option_and_then, bytes_eq}
use Rattle.std.specs.List.{list_any}
use Rattle.std.specs.Option.{option_map_or}
use Rattle.std.proofs.lemmas.Bool.{and_parts, false≢true}
use Rattle.std.proofs.lemmas.List.{take_at}
use Rattle.hippo_values.specs.Texts.{Txt}
use Rattle.hippo_values.specs.declared.moments.Moment.{Moment}
use Rattle.hippo_values.specs.declared.names.Name.{Name}
use Rattle.hippo_values.proofs.OptionLemmas.{some_there}
use Rattle.hippo_model.specs.declared.entry.Act.{Act}
use Rattle.hippo_model.specs.declared.entry.Act.TheVariants.{Insert, Update, Delete, Allow, Revoke, Asked}
use Rattle.hippo_model.specs.declared.entry.Entry.{Entry}
use Rattle.hippo_model.specs.declared.query.Query.{Query}
use Rattle.hippo_model.specs.declared.schema.Schema.{Schema}
use Rattle.hippo_model.specs.Histories.{before_entry, schema_at}
use Rattle.hippo_model.specs.Keepable.{is_keepable}
use Rattle.hippo_model.specs.Rules.{authorized_at}
use Rattle.hippo_model.specs.Terms.{History}
use Rattle.hippo_model.specs.Validity.{keeps_order, is_authorized, pair_exists, table_passes, has_columns, rule_fits, item_fits, days_fit, is_acceptable, may_follow, is_valid}
use Rattle.hippo_model.specs.Versions.{version_fits}
use Rattle.hippo_model_laws.proofs.ValidFronts.{front_is_valid, is_valid-append, next_number}
use Rattle.hippo_typing_catalog.specs.Catalogs.{known_at, table_of}
use Rattle.hippo_typing.specs.Meanings.{meaning_in, meaning}
use Rattle.hippo_typing.proofs.CatalogTheorem.{valid_names}
use Rattle.hippo_typing.proofs.LastingMeanings.{meaning_lasts}
use Rattle.hippo_typing.proofs.LastingNames.{extends_later}
use Rattle.hippo_history_statements.specs.Telling.{table_named, schema_before}
use Rattle.hippo_history_top.specs.declared.asking.Excerpt.{Excerpt}
use Rattle.hippo_history_top.specs.declared.asking.Form.{Form}
use Rattle.hippo_history_top.specs.declared.asking.Form.TheVariants.{Listing, Script}
use Rattle.hippo_history_top.specs.declared.asking.Scope.{Scope}
use Rattle.hippo_history_top.specs.declared.asking.Scope.TheVariants.{Whole, Table}
use Rattle.hippo_history_formats.specs.Formats.{entry_by}
use Rattle.hippo_history_top.specs.Dating.{is_from, is_to}
use Rattle.hippo_history_top.specs.ByNames.{schema_named, shown_as, entry_shown, clock_after, entries_shown}
use Rattle.hippo_history_top.specs.Showing.{is_in_scope, is_of, is_in_excerpt, act_lines, clock_line, told_as, is_told, entry_where, clock_where, entries_told}

found_there : {A : Type 0} (test : A → Bool) (found : Option A) → option_map_or test found false ≡ true → ((x : A) × (found ≡ Some x))
found_there test None passes = absurd (false≢true passes)
found_there test (Some x) passes = (x, refl)

-- an entry finds the same names as the whole history has
record FindsSame (history : History) (excerpt : Excerpt) (entry : Entry) : Type 0 where
  schema : schema_named (known_at history) entry.act ≡ schema_before history entry
  asked : is_in_excerpt (known_at history) excerpt entry ≡ is_told history excerpt entry

module _ (front : History) (entry : Entry) (later : History) (valid : is_valid meaning (front ++ entry ∷ later) ≡ true) where
  abbrev whole : History
  whole = front ++ entry ∷ later

  pub may : may_follow meaning front entry ≡ true
  may =
      let first : is_valid meaning (front ++ entry ∷ []) ≡ true = front_is_valid meaning (front ++ entry ∷ []) later (ap (is_valid meaning) (append_assoc front (entry ∷ []) later) ∙ valid) in
      (and_parts (is_valid meaning front) (may_follow meaning front entry) (sym (is_valid-append meaning front entry) ∙ first)).1

  pub acceptable : is_acceptable meaning front entry.act ≡ true
  acceptable = (and_parts (is_keepable entry && entry.seq == length front + 1 && keeps_order front entry.moment) (is_acceptable meaning front entry.act) may).1

  before : before_entry entry whole ≡ front
  before =
      let number = next_number meaning front entry may in
      ap (λ (n : ℕ). take n whole) (omega (arith, number)) ∙ take_at front (entry ∷ later) (length front) refl

  passing : (test : Schema → Bool) (table : Name) → table_passes front test table ≡ true → table_of (known_at whole) table ≡ schema_at front table
  passing test table passes =
      let there = found_there test (schema_at front table) passes in
      let here = valid_names meaning front (front_is_valid meaning front (entry ∷ later) valid) in
      (extends_later front (entry ∷ later)).tables table there.0 (here.tables table ∙ there.1) ∙ sym there.1

  schema_same : (act : Act) → is_acceptable meaning front act ≡ true → schema_named (known_at whole) act ≡ option_and_then (schema_at front) (table_named act)
  schema_same (Insert table row) fits = passing (λ schema. version_fits schema front (Insert table row)) table fits
  schema_same (Update table row) fits = passing (λ schema. version_fits schema front (Update table row)) table fits
  schema_same (Delete table key) fits = passing (λ schema. version_fits schema front (Delete table key)) table fits
  schema_same (Allow purpose recipient table columns item days) fits =
      let first = (and_parts (rule_fits front purpose recipient table columns && item_fits front table item) (days_fit days) fits).0 in
      let rule = (and_parts (rule_fits front purpose recipient table columns) (item_fits front table item) first).0 in
      passing (has_columns columns) table (and_parts (pair_exists front purpose recipient) (table_passes front (has_columns columns) table) rule).1
  schema_same (Revoke purpose recipient table columns) fits =
      passing (has_columns columns) table (and_parts (pair_exists front purpose recipient) (table_passes front (has_columns columns) table) fits).1
  schema_same act fits = refl

  within_same : (scope : Scope) (act : Act) → is_acceptable meaning front act ≡ true → is_in_scope (known_at whole) scope act ≡ is_in_scope (known_at front) scope act
  within_same Whole act fits = refl
  within_same (Table table) (Asked user purpose recipient text) fits =
      let meant = some_there (meaning front text) (and_parts (is_authorized (authorized_at front user purpose recipient)) (is_some (meaning front text)) fits).1 in
      let same : meaning_in (known_at whole) text ≡ meaning_in (known_at front) text = meaning_lasts front (entry ∷ later) text meant.0 meant.1 ∙ sym meant.1 in
      ap (λ (query : Option Query). option_map_or (λ query. list_any (bytes_eq table) query.tables) query false) same
  within_same (Table table) act fits = refl

  finds_same : (excerpt : Excerpt) → FindsSame whole excerpt entry
  finds_same excerpt = record {
    schema = schema_same entry.act acceptable ∙ ap (λ (h : History). option_and_then (schema_at h) (table_named entry.act)) (sym before);
    asked = ap (λ (within : Bool). is_from excerpt.first entry && is_to excerpt.last entry && is_of excerpt.acts entry.act && within) (within_same excerpt.scope entry.act acceptable)
        ∙ ap (λ (h : History). is_in_excerpt (known_at h) excerpt entry) (sym before);
  }

module _ (history : History) (excerpt : Excerpt) (entry : Entry) (finds : FindsSame history excerpt entry) (clock : Option Moment) where
  as_told : (form : Form) → shown_as (known_at history) form clock entry ≡ told_as history form clock entry
  as_told (Listing format) = ap (λ (schema : Option Schema). entry_by format schema entry) finds.schema
  as_told Script = ap (λ (schema : Option Schema). clock_line clock entry.moment ++ act_lines schema entry.act) finds.schema

  entry_same : entry_shown (known_at history) excerpt clock entry ≡ entry_where (is_told history excerpt) (told_as history excerpt.form) clock entry
  entry_same = λ i. cond (finds.asked i) (as_told excerpt.form i) []

  clock_same : clock_after (known_at history) excerpt clock entry ≡ clock_where (is_told history excerpt) clock entry
  clock_same = λ i. cond (finds.asked i) (Some entry.moment) clock

told_after : (front later history : History) → front ++ later ≡ history → is_valid meaning history ≡ true → (excerpt : Excerpt) (clock : Option Moment)
    → entries_shown (known_at history) excerpt clock later ≡ entries_told history excerpt clock later
told_after front [] history parts valid excerpt clock = refl
told_after front (entry ∷ later) history parts valid excerpt clock =
    let finds = subst (λ (h : History). FindsSame h excerpt entry) parts (finds_same front entry later (ap (is_valid meaning) parts ∙ valid) excerpt) in
    let next = clock_where (is_told history excerpt) clock entry in
    (λ i. entry_same history excerpt entry finds clock i ++ entries_shown (known_at history) excerpt (clock_same history excerpt entry finds clock i) later)
    ∙ ap (λ (rest : Txt). entry_where (is_told history excerpt) (told_as history excerpt.form) clock entry ++ rest) (told_after (front ++ entry ∷ []) later history (append_assoc front (entry ∷ []) later ∙ parts) valid excerpt next)

-- the names of the whole history show a valid history's entries as the names that each entry found
-- do
pub told_by_names : (history : History) → is_valid meaning history ≡ true → (excerpt : Excerpt) (clock : Option Moment)
    → entries_shown (known_at history) excerpt clock history ≡ entries_told history excerpt clock history
told_by_names history valid excerpt clock = told_after [] history history refl valid excerpt clock
