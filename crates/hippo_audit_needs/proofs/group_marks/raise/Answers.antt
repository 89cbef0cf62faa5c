-- The greatest value after one more value.
use Rattle.std.proofs.Common.{ap, ◌∙◌}
use Rattle.std.proofs.lemmas.Result.{on_ok_weaker}
use Rattle.hippo_model.specs.Forms.{greater, greatest_value}
use Rattle.hippo_distinct.proofs.BestValues.{below_for_max}
use Rattle.hippo_audit_needs.specs.declared.group_marks.Best.{Best}
use Rattle.hippo_audit_needs.specs.GroupMarks.{member_places}
use Rattle.hippo_groups.proofs.BestTheorem.{greatest_is_best}
use Rattle.hippo_audit_needs.proofs.MarkLemmas.{who, taken}
use Rattle.hippo_audit_needs.proofs.group_marks.raise.Goals as goal

pub returns : goal.returns
returns c = λ place members member was value_is places_are.
    on_ok_weaker c.take.result
    (λ is. is ∙ taken below_for_max greater greatest_value greatest_is_best place members member c.args.best.now c.args.value.now c.args.places.now was value_is places_are c.is_greater-is_better.result c.is_greater-is_better.ensures)
    (c.take.ensures (member_places (who below_for_max greater greatest_value greatest_is_best place members member)) (ap (λ (best : Best). best.mark) was))
