-- No rows have no groups.
use Rattle.hippo_groups.proofs.grouping.ByShapeGatherer.start.Goals as goal

pub returns : goal.returns
returns c = c.new.ensures c.args.self.now.shape.now
