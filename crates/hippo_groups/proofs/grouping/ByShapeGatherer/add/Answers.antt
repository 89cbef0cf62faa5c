-- The current key is the front of the row.
use Rattle.std.proofs.Common.{map, sym, ap, ◌∙◌}
use Rattle.std.proofs.lemmas.List.{take-map}
use Rattle.hippo_model.specs.Masking.{masked_cell}
use Rattle.hippo_groups.proofs.grouping.ByShapeGatherer.add.Goals as goal

pub returns : goal.returns
returns g c found are =
    let cell_of = masked_cell (g.C.ChoiceView.choices c.args.choices.now) c.args.combo.now in
    let is_key = c.in_ok-refill.ensures ∙ ap (map cell_of) c.first_of-keys.ensures ∙ sym (take-map cell_of c.args.self.now.shape.now.keys c.as_slice-items.result.now) in
    rw c.as_slice-items.ensures at (c.add.ensures found are is_key)
