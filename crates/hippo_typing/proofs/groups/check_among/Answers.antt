use Rattle.std.proofs.Common.{arith, rules}
use Rattle.std.specs.List.{flat_map}
use Rattle.hippo_typing_catalog.specs.Refusals.{IsFirstOf}
use Rattle.hippo_typing.specs.Found.{lone_found}
use Rattle.hippo_typing_catalog.proofs.Refused.{first_at_item}
use Rattle.hippo_typing.proofs.groups.check_among.Goals as goal

pub returns-in_err-check_column : goal.returns-in_err-check_column
returns-in_err-check_column c =
    let first : IsFirstOf (flat_map (lone_found c.args.others.now) c.args.columns.now) c.in_err-check_column.field-0.0 =
    first_at_item (lone_found c.args.others.now) c.args.columns.now c.as_slice-found-items.result.now c.loop-found.found-index c.found-item.result c.in_err-check_column.field-0.0 c.as_slice-found-items.ensures (omega arith) c.found-item.is c.loop-found.invariant c.in_err-check_column.ensures in
    search rules
