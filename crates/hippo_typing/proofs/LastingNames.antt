-- What is found among the names of a history is still found when entries are added.
use Rattle.std.proofs.Common.{◌≡◌, Bool, true, false, cond, List, [], ◌∷◌, ◌++◌, map, Option, None, Some, refl, sym, ap, ◌∙◌}
use Rattle.std.specs.Prelude.{not, ◌||◌, is_none, bytes_eq}
use Rattle.std.specs.List.{list_any, flat_map, cons_option}
use Rattle.std.specs.Map.{lookup}
use Rattle.std.specs.Option.{option_or}
use Rattle.std.proofs.lemmas.List.Elements.{filter_map-append}
use Rattle.hippo_values.specs.declared.names.Name.{Name}
use Rattle.hippo_model.specs.declared.audit.Pair.{Pair}
use Rattle.hippo_model.specs.declared.entry.Entry.{Entry}
use Rattle.hippo_model.specs.declared.name_fault.NameFault.{NameFault}
use Rattle.hippo_model.specs.declared.name_fault.NameFault.TheVariants.{UnknownTable, UnknownPurpose, UnknownRecipient}
use Rattle.hippo_model.specs.declared.schema.Schema.{Schema}
use Rattle.hippo_stmt_ast.specs.declared.statement.RawAudit.{RawAudit}
use Rattle.hippo_stmt_ast.specs.declared.statement.RawSelect.{RawSelect}
use Rattle.hippo_model.specs.Terms.{History}
use Rattle.hippo_typing_catalog.specs.declared.period.Period.{Period}
use Rattle.hippo_typing_catalog.specs.AuditExpressions.{audit_parts_refused, period_refused, audit_refused, audit_of}
use Rattle.hippo_typing_catalog.specs.Catalogs.{KnownNames, table_in, purpose_in, recipient_in, known_at, table_of, has_purpose, has_recipient, schemas_of}
use Rattle.hippo_typing_catalog.specs.Comparisons.{operands_refused, condition_of, kinds_refused, texts_refused}
use Rattle.hippo_typing_catalog.specs.Refusals.{fault_if, unknown_table, unknown_purpose, unknown_recipient, unknown_pair, repeated_names}
use Rattle.hippo_typing_catalog.specs.Selects.{columns_refused, groups_refused, outs_of, by_of, select_parts_refused, select_refused, listed_columns, form_of, query_of}
use Rattle.hippo_typing_catalog.specs.WrittenColumns.{column_refused, column_of}

option_or-assoc : {A : Type 0} (test : Bool) (value : A) (first second : Option A) → cond test (Some value) (option_or first second) ≡ option_or (cond test (Some value) first) second
option_or-assoc true value first second = refl
option_or-assoc false value first second = refl

pub lookup-append : {K V : Type 0} (test : K → Bool) (first second : List (K × V)) → lookup test (first ++ second) ≡ option_or (lookup test first) (lookup test second)
lookup-append test [] second = refl
lookup-append test (entry ∷ rest) second =
    ap (cond (test entry.0) (Some entry.1)) (lookup-append test rest second) ∙ option_or-assoc (test entry.0) entry.1 (lookup test rest) (lookup test second)

or-assoc : (a b c : Bool) → (a || (b || c)) ≡ ((a || b) || c)
or-assoc true b c = refl
or-assoc false b c = refl

pub any-append : {A : Type 0} (test : A → Bool) (first second : List A) → list_any test (first ++ second) ≡ (list_any test first || list_any test second)
any-append test [] second = refl
any-append test (x ∷ rest) second = ap (λ t. test x || t) (any-append test rest second) ∙ or-assoc (test x) (list_any test rest) (list_any test second)

-- a list of names extends another
pub record Extends (known more : KnownNames) : Type 0 where
  pub tables : (table : Name) (schema : Schema) → table_of known table ≡ Some schema → table_of more table ≡ Some schema
  pub purposes : (purpose : Name) → has_purpose known purpose ≡ true → has_purpose more purpose ≡ true
  pub recipients : (recipient : Name) → has_recipient known recipient ≡ true → has_recipient more recipient ≡ true

still_any : (a b whole : Bool) → whole ≡ (a || b) → a ≡ true → whole ≡ true
still_any true b whole e is = e
still_any false b whole e is = absurd cc

pub extends_later : (history later : History) → Extends (known_at history) (known_at (history ++ later))
extends_later history later = record {
  tables = λ table schema found.
      ap (lookup (bytes_eq table)) (filter_map-append (λ (entry : Entry). table_in entry.act) history later)
      ∙ lookup-append (bytes_eq table) (known_at history).tables (known_at later).tables
      ∙ ap (λ o. option_or o (table_of (known_at later) table)) found;
  purposes = λ purpose found.
      still_any (has_purpose (known_at history) purpose) (has_purpose (known_at later) purpose) _
      (ap (list_any (bytes_eq purpose)) (filter_map-append (λ (entry : Entry). purpose_in entry.act) history later) ∙ any-append (bytes_eq purpose) (known_at history).purposes (known_at later).purposes) found;
  recipients = λ recipient found.
      still_any (has_recipient (known_at history) recipient) (has_recipient (known_at later) recipient) _
      (ap (list_any (bytes_eq recipient)) (filter_map-append (λ (entry : Entry). recipient_in entry.act) history later) ∙ any-append (bytes_eq recipient) (known_at history).recipients (known_at later).recipients) found;
}

both_none : {A : Type 0} (first second : List A) → first ++ second ≡ [] → (first ≡ []) × (second ≡ [])
both_none [] second none = (refl, none)
both_none (x ∷ rest) second none = absurd cc

module _ (known more : KnownNames) (extends : Extends known more) where
  table_lasts : (table : Name) → unknown_table known table ≡ [] → (unknown_table more table ≡ []) × (table_of more table ≡ table_of known table)
  table_lasts table none = by (table_of known table) refl
    where
      by : (found : Option Schema) → table_of known table ≡ found → (unknown_table more table ≡ []) × (table_of more table ≡ table_of known table)
      by None e =
          let some : UnknownTable table ∷ [] ≡ [] = sym (ap (λ o. fault_if (is_none o) (UnknownTable table)) e) ∙ none in
          absurd cc
      by (Some schema) e =
          let still = extends.tables table schema e in
          (ap (λ o. fault_if (is_none o) (UnknownTable table)) still, still ∙ sym e)

  pub tables_last : (tables : List Name) → flat_map (unknown_table known) tables ≡ [] → (flat_map (unknown_table more) tables ≡ []) × (schemas_of more tables ≡ schemas_of known tables)
  tables_last [] none = (refl, refl)
  tables_last (table ∷ rest) none =
      let both = both_none (unknown_table known table) (flat_map (unknown_table known) rest) none in
      let first = table_lasts table both.0 in
      let remaining = tables_last rest both.1 in (
        ap (λ l. l ++ flat_map (unknown_table more) rest) first.0 ∙ remaining.0,
        ap (λ o. cons_option o (schemas_of more rest)) first.1 ∙ ap (cons_option (table_of known table)) remaining.1,
      )

  there : (test : Bool) (fault : NameFault) → fault_if (not test) fault ≡ [] → test ≡ true
  there true fault none = refl
  there false fault none = absurd cc

  pair_lasts : (purpose recipient : Name) → unknown_pair known purpose recipient ≡ [] → unknown_pair more purpose recipient ≡ []
  pair_lasts purpose recipient none =
      let both = both_none (unknown_purpose known purpose) (unknown_recipient known recipient) none in
      let purpose_there = extends.purposes purpose (there (has_purpose known purpose) (UnknownPurpose purpose) both.0) in
      let recipient_there = extends.recipients recipient (there (has_recipient known recipient) (UnknownRecipient recipient) both.1) in
      ap (λ t. fault_if (not t) (UnknownPurpose purpose) ++ unknown_recipient more recipient) purpose_there ∙ ap (λ t. fault_if (not t) (UnknownRecipient recipient)) recipient_there

  pub pairs_last : (pairs : List Pair) → flat_map (λ (pair : Pair). unknown_pair known pair.purpose pair.recipient) pairs ≡ [] → flat_map (λ (pair : Pair). unknown_pair more pair.purpose pair.recipient) pairs ≡ []
  pairs_last [] none = refl
  pairs_last (pair ∷ rest) none =
      let both = both_none (unknown_pair known pair.purpose pair.recipient) (flat_map (λ (p : Pair). unknown_pair known p.purpose p.recipient) rest) none in
      ap (λ l. l ++ flat_map (λ (p : Pair). unknown_pair more p.purpose p.recipient) rest) (pair_lasts pair.purpose pair.recipient both.0) ∙ pairs_last rest both.1

  -- a select's refusals, given those of its tables, and the schemas
  abbrev select_by : RawSelect → List NameFault → List Schema → List NameFault
  select_by select tables schemas =
      tables ++ repeated_names select.tables ++ columns_refused schemas select ++ groups_refused schemas (outs_of select.form) (by_of select.form)
      ++ kinds_refused schemas (condition_of schemas select.cond) ++ texts_refused (condition_of schemas select.cond) ++ select_parts_refused select

  tables_first : (select : RawSelect) (tables : List NameFault) (schemas : List Schema) → select_by select tables schemas ≡ [] → tables ≡ []
  tables_first select tables schemas none =
      let texts = (both_none _ _ none).0 in
      let kinds = (both_none _ _ texts).0 in
      let groups = (both_none _ _ kinds).0 in
      let columns = (both_none _ _ groups).0 in
      let repeats = (both_none _ _ columns).0 in
      (both_none _ _ repeats).0

  pub select_lasts : (select : RawSelect) → select_refused known select ≡ [] → (select_refused more select ≡ []) × (query_of more select ≡ query_of known select)
  select_lasts select none =
      let found : flat_map (unknown_table known) select.tables ≡ [] = tables_first select (flat_map (unknown_table known) select.tables) (schemas_of known select.tables) none in
      let lasts = tables_last select.tables found in (
        ap (λ t. select_by select t (schemas_of more select.tables)) lasts.0 ∙ ap (select_by select []) lasts.1 ∙ sym (ap (λ t. select_by select t (schemas_of known select.tables)) found) ∙ none,
        ap (λ (schemas : List Schema). record { items = listed_columns schemas select.items select.form; tables = select.tables; cond = condition_of schemas select.cond; form = form_of schemas select.form }) lasts.1,
      )

  abbrev audit_by : RawAudit → Period → List NameFault → List NameFault → List Schema → List NameFault
  audit_by audit period tables pairs schemas =
      tables ++ pairs ++ repeated_names audit.tables ++ flat_map (column_refused schemas) audit.columns ++ operands_refused schemas audit.cond
      ++ kinds_refused schemas (condition_of schemas audit.cond) ++ texts_refused (condition_of schemas audit.cond) ++ audit_parts_refused audit ++ period_refused period

  groups_first : (audit : RawAudit) (period : Period) (tables pairs : List NameFault) (schemas : List Schema) → audit_by audit period tables pairs schemas ≡ [] → (tables ≡ []) × (pairs ≡ [])
  groups_first audit period tables pairs schemas none =
      let parts = (both_none _ _ none).0 in
      let texts = (both_none _ _ parts).0 in
      let kinds = (both_none _ _ texts).0 in
      let operands = (both_none _ _ kinds).0 in
      let columns = (both_none _ _ operands).0 in
      let repeats = (both_none _ _ columns).0 in
      both_none tables pairs (both_none _ _ repeats).0

  pub audit_lasts : (period : Period) (audit : RawAudit) → audit_refused known period audit ≡ [] → (audit_refused more period audit ≡ []) × (audit_of more period audit ≡ audit_of known period audit)
  audit_lasts period audit none =
      let pairs_of : KnownNames → List NameFault = λ names. flat_map (λ (pair : Pair). unknown_pair names pair.purpose pair.recipient) audit.exempt in
      let found = groups_first audit period (flat_map (unknown_table known) audit.tables) (pairs_of known) (schemas_of known audit.tables) none in
      let lasts = tables_last audit.tables found.0 in
      let pairs : pairs_of more ≡ [] = pairs_last audit.exempt found.1 in (
        ap (λ t. audit_by audit period t (pairs_of more) (schemas_of more audit.tables)) lasts.0
            ∙ ap (λ p. audit_by audit period [] p (schemas_of more audit.tables)) pairs
            ∙ ap (audit_by audit period [] []) lasts.1
            ∙ sym (ap (λ t. audit_by audit period t (pairs_of known) (schemas_of known audit.tables)) found.0 ∙ ap (λ p. audit_by audit period [] p (schemas_of known audit.tables)) found.1)
            ∙ none,
        ap (λ (schemas : List Schema). record (audit_of known period audit) { columns = map (column_of schemas) audit.columns; cond = condition_of schemas audit.cond }) lasts.1,
      )
