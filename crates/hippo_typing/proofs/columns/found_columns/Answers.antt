use Rattle.std.proofs.Common.{arith, rules, refl}
use Rattle.std.specs.List.{flat_map}
use Rattle.hippo_typing_catalog.specs.Refusals.{IsFirstOf}
use Rattle.hippo_typing_catalog.specs.WrittenColumns.{column_refused}
use Rattle.hippo_typing_catalog.proofs.Refused.{first_at_item}
use Rattle.hippo_typing.proofs.columns.found_columns.Goals as goal

pub returns-in_err-column : goal.returns-in_err-column
returns-in_err-column c =
    let first : IsFirstOf (flat_map (column_refused c.args.tables.now) c.args.written.now) c.in_err-column.field-0.0 =
    first_at_item (column_refused c.args.tables.now) c.args.written.now c.args.written.now c.loop-written.written-index c.written-item.result c.in_err-column.field-0.0 refl (omega arith) c.written-item.is c.loop-written.invariant.left c.in_err-column.ensures in
    search rules
