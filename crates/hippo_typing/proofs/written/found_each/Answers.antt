use Rattle.std.proofs.Common.{arith, rules, refl}
use Rattle.std.specs.List.{flat_map}
use Rattle.hippo_typing_catalog.specs.Refusals.{IsFirstOf}
use Rattle.hippo_typing_catalog.proofs.Refused.{first_at_item}
use Rattle.hippo_typing.proofs.written.found_each.Goals as goal

pub returns-in_err-find : goal.returns-in_err-find
returns-in_err-find g c =
    let first : IsFirstOf (flat_map (g.W.Written.refused c.args.tables.now) c.args.written.now) c.in_err-find.field-0.0 =
    first_at_item (g.W.Written.refused c.args.tables.now) c.args.written.now c.args.written.now c.loop-member.member-index c.member-item.result c.in_err-find.field-0.0 refl (omega arith) c.member-item.is c.loop-member.invariant.left c.in_err-find.ensures in
    search rules
