-- The groups of the first rows come first.
use Rattle.std.proofs.Common.{◌∙◌}
use Rattle.hippo_groups.proofs.KeptLemmas.{not_fewer}
use Rattle.hippo_groups.proofs.grouping.ByShapeGatherer.finish.Goals as goal

pub returns : goal.returns
returns c found held =
    let are = c.from_vec.ensures ∙ held.each in
    record {
      rows_are = are;
      not_fewer = not_fewer c.args.self.now.shape.now found c.from_vec.result are;
    }
