use Rattle.std.proofs.Common.{◌≡◌, List, [], rules, subst}
use Rattle.std.specs.List.{flat_map}
use Rattle.hippo_values.specs.declared.names.Name.{Name}
use Rattle.hippo_typing_catalog.specs.Refusals.{IsFirstOf, unknown_table, repeated_names}
use Rattle.hippo_typing.specs.FoundAudits.{tables_refused}
use Rattle.hippo_typing_catalog.proofs.Refused.{first_of_three, second_of_three, third_of_three}
use Rattle.hippo_typing.proofs.audits.audit_tables.Goals as goal

pub returns-in_err-tables : goal.returns-in_err-tables
returns-in_err-tables c =
    let fault = c.in_err-tables.field-0.0 in
    let of_tables = subst (λ (names : List Name). IsFirstOf (flat_map (unknown_table c.args.catalog.now.names) names) fault) c.as_slice.ensures c.in_err-tables.ensures in
    let first : IsFirstOf (tables_refused c.args.catalog.now.names c.args.audit.now) c.in_err-tables.field-0.0 = first_of_three _ _ _ fault of_tables in
    search rules

pub returns-in_err-check_pairs : goal.returns-in_err-check_pairs
returns-in_err-check_pairs c =
    let there = subst (λ (names : List Name). flat_map (unknown_table c.args.catalog.now.names) names ≡ []) c.as_slice.ensures c.in_ok-tables.ensures.0 in
    let first : IsFirstOf (tables_refused c.args.catalog.now.names c.args.audit.now) c.in_err-check_pairs.field-0.0 = second_of_three _ _ _ c.in_err-check_pairs.field-0.0 there c.in_err-check_pairs.ensures in
    search rules

pub returns-in_err-check_repeats : goal.returns-in_err-check_repeats
returns-in_err-check_repeats c =
    let fault = c.in_err-check_repeats.field-0.0 in
    let there = subst (λ (names : List Name). flat_map (unknown_table c.args.catalog.now.names) names ≡ []) c.as_slice.ensures c.in_ok-tables.ensures.0 in
    let repeated = subst (λ (names : List Name). IsFirstOf (repeated_names names) fault) c.as_slice-2.ensures c.in_err-check_repeats.ensures in
    let first : IsFirstOf (tables_refused c.args.catalog.now.names c.args.audit.now) c.in_err-check_repeats.field-0.0 = third_of_three _ _ _ fault there c.in_ok-check_pairs.ensures.0 repeated in
    search rules
