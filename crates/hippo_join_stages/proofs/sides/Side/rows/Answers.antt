-- One more table's row, and the end.
use Rattle.std.proofs.Common.{◌++◌, ◌∷◌, [], ap, ◌∙◌, arith}
use Rattle.hippo_model.specs.declared.born_row.BornRow.{BornRow}
use Rattle.hippo_join_lookups.specs.Places.{rows_at}
use Rattle.hippo_join_lookups.proofs.SlotLemmas.{rows-more, rows-all}
use Rattle.hippo_join_stages.proofs.sides.Side.rows.Goals as goal

pub loop-table-init : goal.loop-table-init
loop-table-init g c =
    let sets = c.args.self.now.sets.now in
    ap (λ rows. rows ++ rows_at sets c.args.slots.now) c.new-rows.ensures

pub loop-table-preserved : goal.loop-table-preserved
loop-table-preserved g c =
    let sets = c.args.self.now.sets.now in
    rows-more sets c.args.slots.now c.loop-table.table c.get.result.now c.slot_at-slot.result c.args.self.now.blank.now c.loop-table.rows c.push.new.self (rows_at sets c.args.slots.now)
    c.get.ensures c.slot_at-slot.ensures c.args.self.now.is_blank (c.in_ok-push.ensures.ok ∙ ap (λ (row : BornRow). c.loop-table.rows ++ row ∷ []) c.chosen_row-row.ensures) c.loop-table.invariant

pub returns : goal.returns
returns g c =
    let sets = c.args.self.now.sets.now in
    rows-all sets c.args.slots.now c.loop-table.table c.loop-table.rows (rows_at sets c.args.slots.now) (omega (arith, c.len-table-end.ensures)) c.loop-table.invariant
