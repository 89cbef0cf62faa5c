use Rattle.std.proofs.Common.{[], ◌∷◌, rules}
use Rattle.std.specs.List.{flat_map}
use Rattle.hippo_typing_catalog.specs.Comparisons.{operand_refused}
use Rattle.hippo_typing_catalog.specs.Refusals.{IsFirstOf}
use Rattle.hippo_typing.proofs.GroupLemmas.{at_first, at_second, at_third}
use Rattle.hippo_typing.proofs.conditions.found_between.Goals as goal

pub returns-in_err-value : goal.returns-in_err-value
returns-in_err-value c =
    let first : IsFirstOf (flat_map (operand_refused c.args.tables.now) (c.args.value.now ∷ c.args.low.now ∷ c.args.high.now ∷ [])) c.in_err-value.field-0.0 =
    at_first (operand_refused c.args.tables.now) c.in_err-value.field-0.0 c.args.value.now (c.args.low.now ∷ c.args.high.now ∷ []) c.in_err-value.ensures in
    search rules

pub returns-in_err-low : goal.returns-in_err-low
returns-in_err-low c =
    let first : IsFirstOf (flat_map (operand_refused c.args.tables.now) (c.args.value.now ∷ c.args.low.now ∷ c.args.high.now ∷ [])) c.in_err-low.field-0.0 =
    at_second (operand_refused c.args.tables.now) c.in_err-low.field-0.0 c.args.value.now c.args.low.now (c.args.high.now ∷ []) c.in_ok-value.ensures.0 c.in_err-low.ensures in
    search rules

pub returns-in_err-high : goal.returns-in_err-high
returns-in_err-high c =
    let first : IsFirstOf (flat_map (operand_refused c.args.tables.now) (c.args.value.now ∷ c.args.low.now ∷ c.args.high.now ∷ [])) c.in_err-high.field-0.0 =
    at_third (operand_refused c.args.tables.now) c.in_err-high.field-0.0 c.args.value.now c.args.low.now c.args.high.now [] c.in_ok-value.ensures.0 c.in_ok-low.ensures.0 c.in_err-high.ensures in
    search rules
