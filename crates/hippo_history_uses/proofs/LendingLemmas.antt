-- When all tables were gone through, each is lent.
use Rattle.std.proofs.Common.{◌≡◌, ◌∙◌, sym, ap, refl, ℕ, List, [], ◌∷◌, ◌++◌, map, drop, length, Some, append-nil}
use Rattle.hippo_values.specs.declared.names.Name.{Name}
use Rattle.hippo_model.specs.Terms.{History}
use Rattle.hippo_tables_keyed.specs.RowSets.{kept_at}
use Rattle.hippo_tables.specs.declared.tables.Tables.{Tables}
use Rattle.hippo_tables.specs.Standing.{TablesStandFor, are_created, schemas_at}
use Rattle.hippo_tables.proofs.NamedLemmas.{schemas_are}
use Rattle.hippo_history_uses.specs.declared.lending.LentTables.{LentTables}
use Rattle.hippo_history_uses.specs.Lending.{LendsEach}

none_left : {A : Type 0} (members : List A) → drop (length members) members ≡ []
none_left [] = refl
none_left (first ∷ rest) = none_left rest

module _ (tables : Tables) (names : List Name) (lent : LentTables) (index : ℕ) (end : index ≡ length names) where
  left : drop index names ≡ []
  left = ap (λ (i : ℕ). drop i names) end ∙ none_left names

  pub lends_each : length lent.schemas ≡ index → length lent.sets ≡ index
      → ((history : History) → TablesStandFor tables history → lent.schemas ++ schemas_at history (drop index names) ≡ schemas_at history names)
      → ((history : History) → TablesStandFor tables history → lent.sets ++ map (λ schema. kept_at schema history) (schemas_at history (drop index names)) ≡ map (λ schema. kept_at schema history) (schemas_at history names))
      → ((history : History) → TablesStandFor tables history → are_created history names ≡ are_created history (drop index names))
      → LendsEach tables names lent
  lends_each schemas_each sets_each schemas sets created = record {
    schemas_many = schemas_each ∙ end;
    sets_many = sets_each ∙ end;
    are_those = λ history stands.
        let all = sym (append-nil lent.schemas) ∙ ap (λ rest. lent.schemas ++ schemas_at history rest) (sym left) ∙ schemas history stands in
        record {
          schemas = schemas_are history names (created history stands ∙ ap (are_created history) left) ∙ ap (map Some) (sym all);
          sets = sym (append-nil lent.sets) ∙ ap (λ rest. lent.sets ++ map (λ schema. kept_at schema history) (schemas_at history rest)) (sym left)
              ∙ sets history stands ∙ ap (map (λ schema. kept_at schema history)) (sym all);
        };
  }
