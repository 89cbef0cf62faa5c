-- One more column.
use Rattle.std.proofs.Common.{◌-◌, ◌+◌, ◌++◌, length, take, arith}
use Rattle.std.specs.List.{range_with_len}
use Rattle.hippo_typing_catalog.proofs.ListLemmas.{range_at}
use Rattle.hippo_history_top.specs.Dating.{dated_line}
use Rattle.hippo_history_top.specs.Ruling.{column_line, columns_shown}
use Rattle.hippo_history_top.proofs.LoopLemmas.{one_more}
use Rattle.hippo_history_top.proofs.rules.append_columns.Goals as goal

pub loop-place-preserved : goal.loop-place-preserved
loop-place-preserved c history stands =
    let group = c.args.group.now in
    let count = length group.schema.now.columns in
    let place = c.loop-place.place in
    let past = take c.args.policy.now.n history in
    one_more (column_line (dated_line c.args.policy.now.format c.args.policy.now.moments.now) past group.purpose.now group.recipient.now group.schema.now) (c.args.out.now ++ columns_shown (dated_line c.args.policy.now.format c.args.policy.now.moments.now) past group.purpose.now group.recipient.now group.schema.now) c.loop-place.out c.append_column.new.out place
    (range_with_len place (count - place)) (range_with_len (place + 1) (count - (place + 1)))
    (range_at place count (omega (arith, c.loop-place-test.true, c.len-place-end.ensures))) (c.in_ok-append_column.ensures history stands) (c.loop-place.invariant history stands)
