-- One more table's row, and the end.
use Rattle.std.proofs.Common.{arith}
use Rattle.hippo_join.proofs.PlannedLemmas.{chosen-more, chosen-whole}
use Rattle.hippo_join.proofs.planned.choose.Goals as goal

pub loop-table-preserved : goal.loop-table-preserved
loop-table-preserved g c =
    chosen-more c.args.side.now.sets.now c.args.places.now c.loop-table.table c.get.result.now c.place_at-place.result c.chosen_row-row.result.now c.args.side.now.blank.now c.loop-table.rows c.set.new.self
    c.get.ensures c.place_at-place.ensures c.args.side.now.is_blank c.chosen_row-row.ensures c.set.ensures c.loop-table.invariant

pub returns : goal.returns
returns g c = chosen-whole c.args.side.now.sets.now c.args.places.now c.loop-table.table c.loop-table.rows (omega (arith, c.len-table-end.ensures)) c.loop-table.invariant
