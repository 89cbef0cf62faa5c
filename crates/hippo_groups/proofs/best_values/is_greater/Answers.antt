-- The greater of two values, by one comparison.
use Rattle.std.proofs.Common.{Bool, cond, ap, sym, ◌∙◌}
use Rattle.hippo_groups.proofs.BestLemmas.{greater-by}
use Rattle.hippo_groups.proofs.best_values.is_greater.Goals as goal

pub returns : goal.returns
returns c =
    greater-by c.args.greatest.now c.args.value.now
    ∙ ap (λ (test : Bool). cond test c.args.value.now c.args.greatest.now) (sym c.lt.ensures)
