-- A valid history implies the facts about an act that follows it.
use Rattle.std.proofs.Common.{◌≡◌, ℕ, ◌+◌, Bool, true, false, ◌&&◌, if◌then◌else◌, [], ◌∷◌, ◌++◌, length, Option, Some, None, sym, ap, ◌∙◌, refl, subst, bytes_eq, append_assoc}
use Rattle.std.specs.Prelude.{is_none, ◌==◌}
use Rattle.std.specs.Bool.{then_some}
use Rattle.std.specs.Option.{option_or, option_map_or}
use Rattle.std.proofs.lemmas.Bool.{and_parts, false≢true}
use Rattle.std.proofs.lemmas.List.{append-nil}
use Rattle.hippo_values.specs.declared.names.Name.{Name}
use Rattle.hippo_model.specs.declared.schema.Schema.{Schema}
use Rattle.hippo_model.specs.declared.entry.Entry.{Entry}
use Rattle.hippo_model.specs.declared.entry.Act.{Act}
use Rattle.hippo_model.specs.declared.entry.Act.TheVariants.{Create, Insert, Update, Delete}
use Rattle.hippo_model.specs.Terms.{History, Key, Meaning}
use Rattle.hippo_model.specs.Histories.{schema_created, schema_at}
use Rattle.hippo_model.specs.Rows.{key_of, key_named, with_key, keys_named}
use Rattle.hippo_model.specs.Keepable.{is_keepable}
use Rattle.hippo_model.specs.Versions.{version_fits}
use Rattle.hippo_model.specs.Validity.{is_acceptable, keeps_order, may_follow, damage_after, damage, is_valid}
use Rattle.hippo_model.proofs.LastWords.{last_word-append}
use Rattle.hippo_tables.specs.Standing.{IsNextAct}
use Rattle.hippo_tables.proofs.StandingLemmas.{same_name, create_parts}

-- no row of a table is changed before the table is created
abbrev pub MadeFirst : History → Type 0
MadeFirst history = (schema : Schema) → schema_at history schema.name ≡ None → keys_named schema history ≡ []

none_of_or : {A : Type 0} (first second : Option A) → option_or first second ≡ None → (first ≡ None) × (second ≡ None)
none_of_or None second none = (refl, none)
none_of_or (Some x) second none = absurd cc

none_found : {A : Type 0} (found : Option A) → is_none found ≡ true → found ≡ None
none_found None e = refl
none_found (Some x) e = absurd cc

not_made : (history : History) (table : Name) (test : Schema → Bool) → schema_at history table ≡ None → option_map_or test (schema_at history table) false ≡ true → ⊥
not_made history table test unmade passes = false≢true (sym (ap (λ found. option_map_or test found false) unmade) ∙ passes)

-- a key is named only if the table's name is the schema's
named_none : (test : Bool) (key : Key) → (test ≡ true → ⊥) → then_some test key ≡ None
named_none true key never = absurd (never refl)
named_none false key never = refl

names_none : (meaning : Meaning) (history : History) (schema : Schema) (act : Act) → schema_at history schema.name ≡ None → is_acceptable meaning history act ≡ true → key_named schema act ≡ None
names_none meaning history schema (Insert table row) unmade fits =
    named_none (bytes_eq table schema.name) (key_of schema.key row) (λ e. not_made history table (λ schema. version_fits schema history (Insert table row)) (ap (schema_at history) (same_name table schema.name e) ∙ unmade) fits)
names_none meaning history schema (Update table row) unmade fits =
    named_none (bytes_eq table schema.name) (key_of schema.key row) (λ e. not_made history table (λ schema. version_fits schema history (Update table row)) (ap (schema_at history) (same_name table schema.name e) ∙ unmade) fits)
names_none meaning history schema (Delete table key) unmade fits =
    named_none (bytes_eq table schema.name) key (λ e. not_made history table (λ schema. version_fits schema history (Delete table key)) (ap (schema_at history) (same_name table schema.name e) ∙ unmade) fits)
names_none meaning history schema act unmade fits = refl

keys_named-other : (schema : Schema) (history : History) (entry : Entry) → key_named schema entry.act ≡ None → keys_named schema (history ++ entry ∷ []) ≡ keys_named schema history
keys_named-other schema [] entry names = ap (λ (named : Option Key). with_key named []) names
keys_named-other schema (first ∷ later) entry names = ap (with_key (key_named schema first.act)) (keys_named-other schema later entry names)

MadeFirst-append : (meaning : Meaning) (history : History) (entry : Entry) → MadeFirst history → is_acceptable meaning history entry.act ≡ true → MadeFirst (history ++ entry ∷ [])
MadeFirst-append meaning history entry made fits schema unmade =
    let parts = none_of_or (schema_created schema.name entry.act) (schema_at history schema.name) (sym (last_word-append (λ entry. schema_created schema.name entry.act) history entry) ∙ unmade) in
    keys_named-other schema history entry (names_none meaning history schema entry.act parts.1 fits) ∙ made schema parts.1

acts_fit : (meaning : Meaning) (history : History) (entry : Entry) → may_follow meaning history entry ≡ true → is_acceptable meaning history entry.act ≡ true
acts_fit meaning history entry may = (and_parts (is_keepable entry && entry.seq == length history + 1 && keeps_order history entry.moment) (is_acceptable meaning history entry.act) may).1

follows : (test : Bool) (found : Option ℕ) (place : ℕ) → (if test then found else Some place) ≡ None → (test ≡ true) × (found ≡ None)
follows true found place e = (refl, e)
follows false found place e = absurd cc

MadeFirst-after : (meaning : Meaning) (front later : History) → MadeFirst front → damage_after meaning front later ≡ None → MadeFirst (front ++ later)
MadeFirst-after meaning front [] made sound = subst (λ (history : History). MadeFirst history) (sym (append-nil front)) made
MadeFirst-after meaning front (entry ∷ later) made sound =
    let both = follows (may_follow meaning front entry) (damage_after meaning (front ++ entry ∷ []) later) (length front + 1) sound in
    subst (λ (history : History). MadeFirst history) (append_assoc front (entry ∷ []) later)
    (MadeFirst-after meaning (front ++ entry ∷ []) later (MadeFirst-append meaning front entry made (acts_fit meaning front entry both.0)) both.1)

pub MadeFirst-valid : (meaning : Meaning) (history : History) → is_valid meaning history ≡ true → MadeFirst history
MadeFirst-valid meaning history valid = MadeFirst-after meaning [] history (λ schema unmade. refl) (none_found (damage meaning history) valid)

-- the facts about an act hold when the history is valid and the act may follow it
pub IsNextAct-valid : (meaning : Meaning) (history : History) (act : Act) → is_valid meaning history ≡ true → is_acceptable meaning history act ≡ true → IsNextAct history act
IsNextAct-valid meaning history (Create schema) valid fits = (fits, MadeFirst-valid meaning history valid schema (none_found (schema_at history schema.name) (create_parts history schema fits)))
IsNextAct-valid meaning history (Insert table row) valid fits = fits
IsNextAct-valid meaning history (Update table row) valid fits = fits
IsNextAct-valid meaning history (Delete table key) valid fits = fits
IsNextAct-valid meaning history act valid fits = tt
