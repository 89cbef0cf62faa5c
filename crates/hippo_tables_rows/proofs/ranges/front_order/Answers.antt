-- The key or the values have ended.
use Rattle.std.proofs.Common.{rules}
use Rattle.std.proofs.lemmas.Slice.Zip.{zip_end}
use Rattle.hippo_tables_rows.proofs.RangeLemmas.{front-past_end}
use Rattle.hippo_tables_rows.proofs.ranges.front_order.Goals as goal

pub returns : goal.returns
returns c =
    let ended = zip_end c.args.columns.now c.args.front.now c.loop-column.yielded c.into_iter-column-iterator.result c.loop-column.column-iterator c.next.new.self _ (search rules) (search rules) c.loop-column.yielded_by c.in-None.is c.next.ensures.steps in
    let past = front-past_end c.args.columns.now c.args.row.now c.args.front.now _ ended in
    cc
