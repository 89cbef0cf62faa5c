-- The rows are between the two ends.
use Rattle.hippo_join_stages.proofs.RangeLemmas.{within-edges}
use Rattle.hippo_join_stages.proofs.sides.Side.span_from.Goals as goal

pub returns : goal.returns
returns g c =
    let set = c.get-set.result.now in
    within-edges (g.C.ChoiceView.choices c.args.self.now.choices.now) c.args.self.now.sets.now c.args.slots.now c.args.self.now.query.now c.args.table set c.args.front.now c.args.column
    c.told_bound-low.result c.told_bound-high.result (record { start = c.in_ok-edge.field-0; end = c.in_ok-edge-2.field-0 }) c.get-set.ensures (c.requires.told set c.get-set.ensures)
    c.told_bound-low.ensures c.told_bound-high.ensures c.in_ok-edge.ensures c.in_ok-edge-2.ensures
