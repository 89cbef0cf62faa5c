-- The combination has the chosen row.
use Rattle.std.proofs.Common.{◌≡◌, List, refl, Bor}
use Rattle.hippo_values.specs.declared.values.Value.{Value}
use Rattle.hippo_model.specs.Terms.{Place}
use Rattle.hippo_model.specs.Masking.{raw_value}
use Rattle.hippo_join_lookups.specs.Places.{chosen_rows, Fits}
use Rattle.hippo_join_lookups.specs.Lookups.{value_at_place}
use Rattle.hippo_join_stages.proofs.KeyLemmas.{chosen_rows-raw, of-found}
use Rattle.hippo_join_stages.proofs.sides.Side.chosen_value.Goals as goal

pub returns-then-column-len : goal.returns-then-column-len
returns-then-column-len g c =
    let sets = c.args.self.now.sets.now in
    let value : Value = value_at_place c.get.result.now c.args.column.column c.in_ok-place.place in
    of-found {R = Bor Value} (λ found. found.now) c.value_at.result value (λ value. (places : List Place) → Fits c.args.slots.now places → raw_value (chosen_rows sets places) c.args.column ≡ value) c.value_at.ensures
    (λ places fits. chosen_rows-raw sets c.args.slots.now places c.args.column c.get.result.now c.in_ok-place.place value fits c.in_ok-place.ensures c.get.ensures refl)
