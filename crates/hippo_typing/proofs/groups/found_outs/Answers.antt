use Rattle.std.proofs.Common.{List, arith, rules, refl, subst}
use Rattle.std.specs.List.{flat_map}
use Rattle.hippo_model.specs.declared.name_fault.NameFault.{NameFault}
use Rattle.hippo_stmt_ast.specs.declared.statement.RawColumn.{RawColumn}
use Rattle.hippo_stmt_ast.specs.declared.statement.RawOut.{RawOut}
use Rattle.hippo_typing_catalog.specs.Refusals.{IsFirstOf}
use Rattle.hippo_typing_catalog.specs.Selects.{column_in}
use Rattle.hippo_typing_catalog.specs.WrittenColumns.{column_refused}
use Rattle.hippo_typing_catalog.proofs.Refused.{first_at_item}
use Rattle.hippo_typing.proofs.groups.found_outs.Goals as goal

pub returns-in_err-column : goal.returns-in_err-column
returns-in_err-column c =
    let refuse : RawOut → List NameFault = λ out. column_refused c.args.tables.now (column_in out) in
    let named : RawColumn → Type 0 = λ written. IsFirstOf (column_refused c.args.tables.now written) c.in_err-column.field-0.0 in
    let first : IsFirstOf (flat_map refuse c.args.outs.now) c.in_err-column.field-0.0 =
    first_at_item refuse c.args.outs.now c.args.outs.now c.loop-out.out-index c.out-item.result c.in_err-column.field-0.0 refl (omega arith) c.out-item.is c.loop-out.invariant.left (subst named c.column_in.ensures c.in_err-column.ensures) in
    search rules
