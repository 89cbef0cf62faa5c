use Rattle.std.proofs.Common.{List, ◌++◌, rules}
use Rattle.std.specs.List.{flat_map}
use Rattle.hippo_model.specs.declared.name_fault.NameFault.{NameFault}
use Rattle.hippo_typing_catalog.specs.Comparisons.{operands_refused}
use Rattle.hippo_typing_catalog.specs.Refusals.{IsFirstOf}
use Rattle.hippo_typing_catalog.specs.Selects.{by_of, list_refused, columns_refused}
use Rattle.hippo_typing_catalog.specs.WrittenColumns.{column_refused}
use Rattle.hippo_typing_catalog.proofs.Refused.{first_with_more, first_after, first_of_three}
use Rattle.hippo_typing.proofs.selects.found_select.Goals as goal

pub returns-in_err-list : goal.returns-in_err-list
returns-in_err-list c =
    let first : IsFirstOf (columns_refused c.args.tables.now c.args.select.now) c.in_err-list.field-0.0 = first_of_three _ _ _ c.in_err-list.field-0.0 c.in_err-list.ensures in
    search rules

pub returns-in_err-cond : goal.returns-in_err-cond
returns-in_err-cond c =
    let schemas = c.args.tables.now in
    let select = c.args.select.now in
    let listed : List NameFault = list_refused schemas select.items select.form in
    let compared : List NameFault = operands_refused schemas select.cond in
    let first : IsFirstOf (columns_refused schemas select) c.in_err-cond.field-0.0 =
    first_with_more (listed ++ compared) (flat_map (column_refused schemas) (by_of select.form)) c.in_err-cond.field-0.0
    (first_after listed compared c.in_err-cond.field-0.0 c.in_ok-list.ensures.0 c.in_err-cond.ensures) in
    search rules
