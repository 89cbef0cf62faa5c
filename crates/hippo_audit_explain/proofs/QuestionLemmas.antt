-- A logged query at its own time: the meaning of its text, and its tables.
use Rattle.std.proofs.Common.{◌≡◌, ◌≤◌, ◌∙◌, ℕ, zero, suc, ◌+◌, true, List, [], ◌∷◌, ◌++◌, length, take, drop, Option, Some, None, refl, sym, ap, subst, arith}
use Rattle.std.specs.Prelude.{◌-◌, flat_map, is_some, is_none, slice_get}
use Rattle.std.specs.List.{list_all}
use Rattle.std.proofs.lemmas.Bool.{and_parts, false≢true, and_from}
use Rattle.std.proofs.lemmas.List.{take-append-drop}
use Rattle.std.proofs.lemmas.Option.{none-some, same_Some}
use Rattle.hippo_values.specs.Texts.{Txt}
use Rattle.hippo_values.specs.declared.names.Name.{Name}
use Rattle.hippo_model.specs.declared.entry.Act.TheVariants.{Asked}
use Rattle.hippo_model.specs.declared.entry.Entry.{Entry}
use Rattle.hippo_model.specs.declared.name_fault.NameFault.TheVariants.{UnknownTable}
use Rattle.hippo_model.specs.declared.query.Query.{Query}
use Rattle.hippo_model.specs.declared.schema.Schema.{Schema}
use Rattle.hippo_model.specs.Histories.{before_entry, schema_at}
use Rattle.hippo_model.specs.Rules.{authorized_at}
use Rattle.hippo_model.specs.Terms.{History, Place}
use Rattle.hippo_model.specs.Validity.{is_acceptable, is_authorized, may_follow, is_valid}
use Rattle.hippo_model_laws.specs.Audits.{StandsIn}
use Rattle.hippo_model_laws.proofs.ValidFronts.{front_is_valid, entry_has_its_number}
use Rattle.hippo_typing_catalog.specs.Catalogs.{KnownNames, known_at, table_of}
use Rattle.hippo_typing_catalog.specs.Refusals.{fault_if, unknown_table, repeated_names}
use Rattle.hippo_typing_catalog.proofs.ListLemmas.{drop_at_item}
use Rattle.hippo_typing.specs.Meanings.{meaning}
use Rattle.hippo_typing.proofs.MeaningTheorem.{Means-found, found-Means}
use Rattle.hippo_typing.proofs.LastingNames.{extends_later, select_lasts}
use Rattle.hippo_typing.proofs.CatalogTheorem.{valid_names}
use Rattle.hippo_backlog.proofs.VersionsTheorem.{may_there}

-- a text that means a query still means it when entries are added
pub meanings_last : (front later : History) (text : Txt) (query : Query) → meaning front text ≡ Some query → meaning (front ++ later) text ≡ Some query
meanings_last front later text query is =
    let means = Means-found (known_at front) text query is in
    let lasts = select_lasts (known_at front) (known_at (front ++ later)) (extends_later front later) means.select means.right in
    found-Means (known_at (front ++ later)) text query (record { select = means.select; read = means.read; right = lasts.0; meant = means.meant ∙ sym lasts.1 })

both_none : {A : Type 0} (first second : List A) → first ++ second ≡ [] → (first ≡ []) × (second ≡ [])
both_none [] second none = (refl, none)
both_none (x ∷ rest) second none = absurd cc

there : (found : Option Schema) (table : Name) → fault_if (is_none found) (UnknownTable table) ≡ [] → is_some found ≡ true
there None table none = absurd cc
there (Some schema) table none = refl

all_created : (known : KnownNames) (tables : List Name) → flat_map (unknown_table known) tables ≡ [] → list_all (λ table. is_some (table_of known table)) tables ≡ true
all_created known [] none = refl
all_created known (table ∷ rest) none =
    let parts = both_none (unknown_table known table) (flat_map (unknown_table known) rest) none in
    and_from (is_some (table_of known table)) (list_all (λ t. is_some (table_of known t)) rest) (there (table_of known table) table parts.0) (all_created known rest parts.1)

-- the tables of a query that a text means are all created and distinct
pub record HasTables (known : KnownNames) (query : Query) : Type 0 where
  pub created : list_all (λ table. is_some (table_of known table)) query.tables ≡ true
  pub differ : repeated_names query.tables ≡ []

pub has_tables : (history : History) (text : Txt) (query : Query) → meaning history text ≡ Some query → HasTables (known_at history) query
has_tables history text query is =
    let means = Means-found (known_at history) text query is in
    let kinds = (both_none _ _ (both_none _ _ means.right).0).0 in
    let front = (both_none _ _ (both_none _ _ (both_none _ _ kinds).0).0).0 in
    let parts = both_none (flat_map (unknown_table (known_at history)) means.select.tables) (repeated_names means.select.tables) front in
    let same : query.tables ≡ means.select.tables = ap (λ (q : Query). q.tables) means.meant in
    subst (λ (tables : List Name). HasTables (known_at history) (record query { tables = tables })) (sym same)
    (record { created = all_created (known_at history) means.select.tables parts.0; differ = parts.1 })

-- a history is its first entries followed by the others
abbrev pub parted : (count : ℕ) (history : History) → take count history ++ drop count history ≡ history
parted count history = take-append-drop count history

pub front_valid : (count : ℕ) (history : History) → is_valid meaning history ≡ true → is_valid meaning (take count history) ≡ true
front_valid count history valid = front_is_valid meaning (take count history) (drop count history) (ap (is_valid meaning) (parted count history) ∙ valid)

-- a table that is known in a history and created by its first entries has the same schema there
pub schema_then : (count : ℕ) (history : History) (table : Name) (schema : Schema) → is_valid meaning history ≡ true
    → is_some (table_of (known_at (take count history)) table) ≡ true → table_of (known_at history) table ≡ Some schema
    → schema_at (take count history) table ≡ Some schema
schema_then count history table schema valid created known =
    let front : History = take count history in
    let names = valid_names meaning front (front_valid count history valid) in
    by (table_of (known_at front) table) refl created ∙ refl
  where
    same : (a b : Schema) → Some a ≡ Some b → a ≡ b
    same a b e = same_Some a b e

    by : (found : Option Schema) → table_of (known_at (take count history)) table ≡ found → is_some found ≡ true → schema_at (take count history) table ≡ Some schema
    by None is some = absurd (false≢true some)
    by (Some other) is some =
        let grown : table_of (known_at (take count history ++ drop count history)) table ≡ Some other = (extends_later (take count history) (drop count history)).tables table other is in
        let now : table_of (known_at history) table ≡ Some other = ap (λ (h : History). table_of (known_at h) table) (sym (parted count history)) ∙ grown in
        let one : other ≡ schema = same other schema (sym now ∙ known) in
        sym ((valid_names meaning (take count history) (front_valid count history valid)).tables table) ∙ is ∙ ap Some one

-- a table created by the first entries is known in the whole history
pub not_unknown : (count : ℕ) (history : History) (table : Name) → is_some (table_of (known_at (take count history)) table) ≡ true → table_of (known_at history) table ≡ None → ⊥
not_unknown count history table created unknown = by (table_of (known_at (take count history)) table) refl created
  where
    by : (found : Option Schema) → table_of (known_at (take count history)) table ≡ found → is_some found ≡ true → ⊥
    by None is some = false≢true some
    by (Some other) is some =
        none-some other (sym unknown ∙ ap (λ (h : History). table_of (known_at h) table) (sym (parted count history)) ∙ (extends_later (take count history) (drop count history)).tables table other is)

-- a logged query of a valid history, whose text meant something there
pub record WasAsked (history : History) (entry : Entry) (text : Txt) : Type 0 where
  pub means : is_some (meaning (before_entry entry history) text) ≡ true
  pub within : entry.seq - 1 ≤ length history

acceptable : (front : History) (entry : Entry) (user purpose recipient : Name) (text : Txt) → entry.act ≡ Asked user purpose recipient text → may_follow meaning front entry ≡ true → is_some (meaning front text) ≡ true
acceptable front entry user purpose recipient text act may =
    let fits : is_acceptable meaning front (Asked user purpose recipient text) ≡ true = ap (is_acceptable meaning front) (sym act) ∙ (and_parts _ _ may).1 in
    (and_parts (is_authorized (authorized_at front user purpose recipient)) (is_some (meaning front text)) fits).1

within : (place : Place) (history : History) (entry : Entry) → slice_get history place ≡ Some entry → place ≤ length history
within place [] entry is = absurd cc
within zero (first ∷ rest) entry is = omega arith
within (suc place) (first ∷ rest) entry is = let later = within place rest entry is in omega (arith, later)

pub was_asked : (history : History) (entry : Entry) (user purpose recipient : Name) (text : Txt) → StandsIn meaning history entry → entry.act ≡ Asked user purpose recipient text → WasAsked history entry text
was_asked history entry user purpose recipient text stands act =
    let place = stands.place in
    let number : entry.seq ≡ place + 1 = entry_has_its_number meaning history stands.valid place entry stands.stands in
    let before : entry.seq - 1 ≡ place = omega (arith, number) in
    let whole : take place history ++ entry ∷ drop (place + 1) history ≡ history = ap (λ (rest : History). take place history ++ rest) (sym (drop_at_item history place entry stands.stands)) ∙ take-append-drop place history in
    let may = may_there meaning (take place history) (drop (place + 1) history) entry (ap (is_valid meaning) whole ∙ stands.valid) in
    record {
      means = subst (λ (n : ℕ). is_some (meaning (take n history) text) ≡ true) (sym before) (acceptable (take place history) entry user purpose recipient text act may);
      within = subst (λ (n : ℕ). n ≤ length history) (sym before) (within place history entry stands.stands);
    }
