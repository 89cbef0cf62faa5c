use Rattle.std.proofs.Common.{arith, rules, refl}
use Rattle.std.specs.List.{flat_map}
use Rattle.hippo_typing_catalog.specs.Refusals.{IsFirstOf}
use Rattle.hippo_typing_catalog.specs.Selects.{item_refused}
use Rattle.hippo_typing_catalog.proofs.Refused.{first_at_item}
use Rattle.hippo_typing.proofs.items.found_items.Goals as goal

pub returns-in_err-push_item : goal.returns-in_err-push_item
returns-in_err-push_item c =
    let first : IsFirstOf (flat_map (item_refused c.args.tables.now) c.args.items.now) c.in_err-push_item.field-0.0 =
    first_at_item (item_refused c.args.tables.now) c.args.items.now c.args.items.now c.loop-item.item-index c.item-item.result c.in_err-push_item.field-0.0 refl (omega arith) c.item-item.is c.loop-item.invariant.left c.in_err-push_item.ensures in
    search rules
