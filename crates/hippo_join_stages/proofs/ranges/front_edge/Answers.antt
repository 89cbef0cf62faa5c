-- Rows that begin with these values come after the lower end and before the upper one.
use Rattle.hippo_tables_rows.proofs.RangeLemmas.{front-edge}
use Rattle.hippo_join_stages.proofs.ranges.front_edge.Goals as goal

pub returns-else-is_empty : goal.returns-else-is_empty
returns-else-is_empty c = front-edge c.args.set.now c.args.front.now c.args.column c.args.above c.split.result c.split.ensures.parted
