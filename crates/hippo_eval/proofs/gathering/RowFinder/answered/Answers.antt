-- The rows that were gathered are finished.
use Rattle.hippo_eval.proofs.FoundLemmas.{answered-whole}
use Rattle.hippo_eval.proofs.gathering.RowFinder.answered.Goals as goal

pub returns : goal.returns
returns g c found are =
    let finder = c.args.self.now in
    let both = answered-whole (g.G.Gatherer.Holds finder.gatherer.now) (g.G.Gatherer.answer finder.gatherer.now) finder.limit found c.args.rows are _ (c.in_ok-finish.ensures are.front are.holds) in
    c.limited.ensures _ both.0 both.1
