-- The value of the item's cell, or null after the last item.
use Rattle.std.proofs.Common.{◌<◌, ◌≤◌, map, length, sym, ap, ◌∙◌, arith}
use Rattle.std.proofs.lemmas.Bool.{ltb-false, ltb-true}
use Rattle.std.proofs.lemmas.List.{length-map, get_or-map, get_or_past}
use Rattle.hippo_model.specs.declared.cells.Cell.TheVariants.{Denied}
use Rattle.hippo_model.specs.Forms.{value_in}
use Rattle.hippo_model.specs.Masking.{masked_cell}
use Rattle.hippo_groups.proofs.members.MemberLentRow.value.Goals as goal

pub returns-in-None : goal.returns-in-None
returns-in-None g c =
    let member = c.args.self.now in
    let cell_of = masked_cell (g.C.ChoiceView.choices member.choices.now) member.combo.now in
    let past : length member.items.now ≤ c.args.place = ltb-false c.args.place (length member.items.now) (sym c.in-None.ensures.lookup.0) in
    ap value_in (sym (get_or_past (map cell_of member.items.now) c.args.place (Denied 0) (omega (arith, past, length-map member.items.now cell_of))))

pub returns-in-Some : goal.returns-in-Some
returns-in-Some g c =
    let member = c.args.self.now in
    let cell_of = masked_cell (g.C.ChoiceView.choices member.choices.now) member.combo.now in
    let within : c.args.place < length member.items.now = ltb-true c.args.place (length member.items.now) (sym c.in-Some.ensures.lookup.0) in
    c.value.ensures ∙ ap value_in (c.cell.ensures ∙ ap cell_of c.in-Some.ensures.lookup.1 ∙ sym (get_or-map cell_of member.items.now c.args.place c.in-Some.item.now (Denied 0) within))
