use Rattle.std.proofs.Common.{arith, rules}
use Rattle.std.specs.List.{flat_map}
use Rattle.std.proofs.lemmas.List.{append-nil}
use Rattle.hippo_model.proofs.FoldedConditions.{folded-All, folded-Any, folded-Not, folded-Compare, folded-Between, folded-Among, folded-Missing}
use Rattle.hippo_model.specs.Conditions.{changed_layer}
use Rattle.hippo_typing_catalog.specs.Comparisons.{comparisons_layer, operand_refused, operands_refused, operand_of}
use Rattle.hippo_typing_catalog.specs.Refusals.{IsFirstOf}
use Rattle.hippo_typing_catalog.proofs.ComparedOperands.{gathered_parts}
use Rattle.hippo_typing_catalog.proofs.Refused.{first_at_item}
use Rattle.hippo_typing.proofs.conditions.+found_condition.Goals as goal

pub found_condition-returns-in-All : goal.found_condition-returns-in-All
found_condition-returns-in-All t c =
    rw (c.in-All.is, folded-All comparisons_layer c.in-All.parts, gathered_parts (flat_map (operand_refused c.args.tables.now)) c.in-All.parts, folded-All (changed_layer (operand_of c.args.tables.now)) c.in-All.parts) c.found_junction.ensures

pub found_condition-returns-in-Any : goal.found_condition-returns-in-Any
found_condition-returns-in-Any t c =
    rw (c.in-Any.is, folded-Any comparisons_layer c.in-Any.parts, gathered_parts (flat_map (operand_refused c.args.tables.now)) c.in-Any.parts, folded-Any (changed_layer (operand_of c.args.tables.now)) c.in-Any.parts) c.found_junction-in-Any.ensures

pub found_condition-returns-in-Not : goal.found_condition-returns-in-Not
found_condition-returns-in-Not t c =
    rw (c.in-Not.is, folded-Not comparisons_layer c.in-Not.part, folded-Not (changed_layer (operand_of c.args.tables.now)) c.in-Not.part) c.found_not.ensures

pub found_condition-returns-in-Compare : goal.found_condition-returns-in-Compare
found_condition-returns-in-Compare t c =
    rw (c.in-Compare.is, folded-Compare comparisons_layer c.in-Compare.op c.in-Compare.left c.in-Compare.right, append-nil, folded-Compare (changed_layer (operand_of c.args.tables.now)) c.in-Compare.op c.in-Compare.left c.in-Compare.right) c.found_comparison.ensures

pub found_condition-returns-in-Between : goal.found_condition-returns-in-Between
found_condition-returns-in-Between t c =
    rw (c.in-Between.is, folded-Between comparisons_layer c.in-Between.value c.in-Between.low c.in-Between.high, append-nil, folded-Between (changed_layer (operand_of c.args.tables.now)) c.in-Between.value c.in-Between.low c.in-Between.high) c.found_between.ensures

pub found_condition-returns-in-Among : goal.found_condition-returns-in-Among
found_condition-returns-in-Among t c =
    rw (c.in-Among.is, folded-Among comparisons_layer c.in-Among.value c.in-Among.list, append-nil, folded-Among (changed_layer (operand_of c.args.tables.now)) c.in-Among.value c.in-Among.list) c.found_among.ensures

pub found_condition-returns-in-Missing : goal.found_condition-returns-in-Missing
found_condition-returns-in-Missing t c =
    rw (c.in-Missing.is, folded-Missing comparisons_layer c.in-Missing.value, append-nil, folded-Missing (changed_layer (operand_of c.args.tables.now)) c.in-Missing.value) c.found_missing.ensures

pub found_parts-returns-in_err-found_condition : goal.found_parts-returns-in_err-found_condition
found_parts-returns-in_err-found_condition t c =
    let first : IsFirstOf (flat_map (operands_refused c.args.tables.now) c.args.parts.now) c.in_err-found_condition.field-0.0 =
    first_at_item (operands_refused c.args.tables.now) c.args.parts.now c.as_slice-part-items.result.now c.loop-part.part-index c.part-item.result c.in_err-found_condition.field-0.0 c.as_slice-part-items.ensures (omega arith) c.part-item.is c.loop-part.invariant.left c.in_err-found_condition.ensures in
    search rules
