-- The lesser of two values that are not null, by one comparison.
use Rattle.std.proofs.Common.{Bool, cond, ap, sym, ◌∙◌}
use Rattle.hippo_groups.proofs.BestLemmas.{lesser-by}
use Rattle.hippo_groups.proofs.best_values.is_lesser.Goals as goal

pub returns-in_default : goal.returns-in_default
returns-in_default c =
    lesser-by c.args.least.now c.args.value.now c.in_default.not-Null-1 c.in_default.not-Null-0
    ∙ ap (λ (test : Bool). cond test c.args.value.now c.args.least.now) (sym c.lt.ensures)
