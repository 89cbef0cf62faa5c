-- Kept tables are created in each history that they represent, and have their schemas there.
use Rattle.std.proofs.Common.{◌≡◌, ◌∙◌, sym, refl, ap, true, List, [], ◌∷◌, map, Option, None, Some, option_map}
use Rattle.std.specs.Prelude.{is_some}
use Rattle.std.specs.List.{list_all, cons_option}
use Rattle.std.proofs.lemmas.Bool.{and_parts}
use Rattle.hippo_values.specs.declared.names.Name.{Name}
use Rattle.hippo_model.specs.declared.schema.Schema.{Schema}
use Rattle.hippo_model.specs.Terms.{History}
use Rattle.hippo_model.specs.Histories.{schema_at}
use Rattle.hippo_tables.specs.declared.tables.Tables.{Tables}
use Rattle.hippo_tables.specs.KeptTables.{table_at}
use Rattle.hippo_tables.specs.Standing.{TablesStandFor, AreKeptTables, are_created, schemas_at}

is_some-map : {A B : Type 0} (f : A → B) (option : Option A) → is_some (option_map f option) ≡ is_some option
is_some-map f None = refl
is_some-map f (Some value) = refl

-- two histories that the same tables represent have created the same tables
same_tables : (tables : Tables) (history other : History) → TablesStandFor tables history → TablesStandFor tables other → (name : Name)
    → is_some (schema_at history name) ≡ is_some (schema_at other name)
same_tables tables history other here there name =
    sym (is_some-map (table_at history) (schema_at history name))
    ∙ ap is_some (sym (here.kept name) ∙ there.kept name)
    ∙ is_some-map (table_at other) (schema_at other name)

-- kept tables are created in each history that they represent
pub are_created-AreKeptTables : (tables : Tables) (names : List Name) (history : History) → AreKeptTables tables names → TablesStandFor tables history → are_created history names ≡ true
are_created-AreKeptTables tables names history kept stands =
    (λ i. list_all (λ name. same_tables tables history kept.history stands kept.stands name i) names) ∙ kept.created

first_schema : (found : Option Schema) (others : List (Option Schema)) (schemas : List Schema) → is_some found ≡ true → others ≡ map Some schemas → found ∷ others ≡ map Some (cons_option found schemas)
first_schema None others schemas is rest = absurd cc
first_schema (Some schema) others schemas is rest = λ i. Some schema ∷ rest i

-- created tables have their schemas
pub schemas_are : (history : History) (names : List Name) → are_created history names ≡ true → map (schema_at history) names ≡ map Some (schemas_at history names)
schemas_are history [] all = refl
schemas_are history (name ∷ names) all =
    let both = and_parts (is_some (schema_at history name)) (are_created history names) all in
    first_schema (schema_at history name) (map (schema_at history) names) (schemas_at history names) both.0 (schemas_are history names both.1)
