use Rattle.std.proofs.Common.{List, arith, rules}
use Rattle.std.specs.List.{flat_map}
use Rattle.hippo_model.specs.declared.audit.Pair.{Pair}
use Rattle.hippo_model.specs.declared.name_fault.NameFault.{NameFault}
use Rattle.hippo_typing_catalog.specs.Refusals.{IsFirstOf, unknown_pair}
use Rattle.hippo_typing_catalog.proofs.Refused.{first_at_item}
use Rattle.hippo_typing.proofs.audits.check_pairs.Goals as goal

pub returns-in_err-check_pair : goal.returns-in_err-check_pair
returns-in_err-check_pair c =
    let refuse : Pair → List NameFault = λ pair. unknown_pair c.args.catalog.now.names pair.purpose pair.recipient in
    let first : IsFirstOf (flat_map refuse c.args.pairs.now) c.in_err-check_pair.field-0.0 =
    first_at_item refuse c.args.pairs.now c.as_slice-pair-items.result.now c.loop-pair.pair-index c.pair-item.result c.in_err-check_pair.field-0.0 c.as_slice-pair-items.ensures (omega arith) c.pair-item.is c.loop-pair.invariant c.in_err-check_pair.ensures in
    search rules
