use Rattle.std.proofs.Common.{[], ◌∷◌, rules}
use Rattle.std.specs.List.{flat_map}
use Rattle.hippo_typing_catalog.specs.Comparisons.{operand_refused}
use Rattle.hippo_typing_catalog.specs.Refusals.{IsFirstOf}
use Rattle.hippo_typing.proofs.GroupLemmas.{at_first, at_second}
use Rattle.hippo_typing.proofs.conditions.found_comparison.Goals as goal

pub returns-in_err-left : goal.returns-in_err-left
returns-in_err-left c =
    let first : IsFirstOf (flat_map (operand_refused c.args.tables.now) (c.args.left.now ∷ c.args.right.now ∷ [])) c.in_err-left.field-0.0 =
    at_first (operand_refused c.args.tables.now) c.in_err-left.field-0.0 c.args.left.now (c.args.right.now ∷ []) c.in_err-left.ensures in
    search rules

pub returns-in_err-right : goal.returns-in_err-right
returns-in_err-right c =
    let first : IsFirstOf (flat_map (operand_refused c.args.tables.now) (c.args.left.now ∷ c.args.right.now ∷ [])) c.in_err-right.field-0.0 =
    at_second (operand_refused c.args.tables.now) c.in_err-right.field-0.0 c.args.left.now c.args.right.now [] c.in_ok-left.ensures.0 c.in_err-right.ensures in
    search rules
