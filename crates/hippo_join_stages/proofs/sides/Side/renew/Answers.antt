-- The other rows stay the same; this one becomes the chosen row.
use Rattle.std.proofs.Common.{◌≡◌, length, length-set, unwrap_or, ap, ◌∙◌, arith}
use Rattle.std.specs.Prelude.{slice_get}
use Rattle.std.specs.Option.{option_map_or}
use Rattle.hippo_model.specs.declared.born_row.BornRow.{BornRow}
use Rattle.hippo_join_lookups.specs.Places.{blank, row_at_place, rows_at, slot_at}
use Rattle.hippo_join_lookups.proofs.SlotLemmas.{length-rows_at, rows-renewed}
use Rattle.hippo_join_stages.proofs.sides.Side.renew.Goals as goal

pub set-requires : goal.set-requires
set-requires g c =
    let sets = c.args.self.now.sets.now in
    let slots = c.args.slots.now in
    omega (arith, c.requires.long, c.requires.table, ap length c.requires.rows, length-set c.args.rows.now c.args.table blank, length-set (rows_at sets slots) c.args.table blank, length-rows_at sets slots)

pub returns : goal.returns
returns g c =
    let sets = c.args.self.now.sets.now in
    let slots = c.args.slots.now in
    let set = c.get.result.now in
    let row : BornRow = c.chosen_row-row.result.now in
    let is : row ≡ option_map_or (row_at_place set.rows) (slot_at slots c.args.table) blank =
    c.chosen_row-row.ensures ∙ (λ i. option_map_or (λ place. unwrap_or (slice_get set.rows place) (c.args.self.now.is_blank i)) (c.slot_at-slot.ensures i) (c.args.self.now.is_blank i)) in
    c.set.ensures ∙ rows-renewed sets slots c.args.table set c.args.rows.now row c.get.ensures is c.requires.rows
