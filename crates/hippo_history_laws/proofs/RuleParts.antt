-- The conditions under which a rule may follow a history, and those under which it can be stored.
use Rattle.std.proofs.Common.{◌≡◌, ℕ, true, ◌&&◌, List, Option}
use Rattle.std.proofs.lemmas.Bool.{and_parts}
use Rattle.hippo_values.specs.declared.names.Name.{Name}
use Rattle.hippo_model.specs.Keepable.{days_are_keepable, is_folded_name, item_is_keepable, places_are_keepable, rule_is_keepable}
use Rattle.hippo_model.specs.Terms.{History, Place}
use Rattle.hippo_model.specs.Validity.{days_fit, has_columns, item_fits, pair_exists, rule_fits, table_passes}

module _ (purpose recipient table : Name) (places : List Place) where
  pub record RuleFits (before : History) : Type 0 where
    pub pair : pair_exists before purpose recipient ≡ true
    pub passes : table_passes before (has_columns places) table ≡ true

  pub rule-fits : (before : History) → rule_fits before purpose recipient table places ≡ true
      → RuleFits before
  rule-fits before fit =
      let parts = and_parts (pair_exists before purpose recipient)
      (table_passes before (has_columns places) table) fit in
      record { pair = parts.0; passes = parts.1 }

  pub names-kept : rule_is_keepable purpose recipient table places ≡ true
      → (is_folded_name purpose && is_folded_name recipient && is_folded_name table) ≡ true
  names-kept kept =
      (and_parts (is_folded_name purpose && is_folded_name recipient && is_folded_name table)
      (places_are_keepable places) kept).0

  -- a rule with an item, or with an end
  module _ (item : Option Name) (days : Option ℕ) where
    pub record AllowFits (before : History) : Type 0 where
      pub rule : RuleFits before
      pub with_item : item_fits before table item ≡ true
      pub with_days : days_fit days ≡ true

    pub allow-fits : (before : History)
        → (rule_fits before purpose recipient table places && item_fits before table item
        && days_fit days) ≡ true → AllowFits before
    allow-fits before fit =
        let outer =
        and_parts (rule_fits before purpose recipient table places && item_fits before table item)
        (days_fit days) fit in
        let inner =
        and_parts (rule_fits before purpose recipient table places) (item_fits before table item)
        outer.0 in
        record {
          rule = rule-fits before inner.0;
          with_item = inner.1;
          with_days = outer.1;
        }

    pub record AllowIsKept : Type 0 where
      pub names : (is_folded_name purpose && is_folded_name recipient && is_folded_name table)
          ≡ true
      pub with_item : item_is_keepable item ≡ true

    pub allow-kept : (rule_is_keepable purpose recipient table places && item_is_keepable item
        && days_are_keepable days) ≡ true → AllowIsKept
    allow-kept kept =
        let outer =
        and_parts (rule_is_keepable purpose recipient table places && item_is_keepable item)
        (days_are_keepable days) kept in
        let inner =
        and_parts (rule_is_keepable purpose recipient table places) (item_is_keepable item) outer.0
        in
        record { names = names-kept inner.0; with_item = inner.1 }
