-- The values ended before the places did.
use Rattle.std.proofs.Common.{◌≡◌, ◌∙◌, refl, sym, ap, arith, List, [], ◌∷◌, drop}
use Rattle.std.proofs.lemmas.List.{drop_all}
use Rattle.std.specs.Vec.Iter.{into_iter_items}
use Rattle.hippo_values.specs.declared.values.Value.{Value}
use Rattle.hippo_model.specs.Terms.{Row, Place}
use Rattle.hippo_tables.specs.Finished.{written_row}
use Rattle.hippo_tables.proofs.finish.write_values.Goals as goal

written-none : (places : List Place) (row : Row) → written_row places [] row ≡ row
written-none [] row = refl
written-none (place ∷ places) row = refl

pub returns-in_default : goal.returns-in_default
returns-in_default c =
    let left = c.loop-place.left in
    let none : into_iter_items left ≡ [] = drop_all 0 left.rest.items (omega (arith, left.rest.ok.0, c.in_default.ensures.cases.0)) in
    let places : List Place = drop c.loop-place.place-index c.args.places.now in
    let row : Row = c.loop-place.cells.items in
    sym (written-none places row) ∙ ap (λ (values : List Value). written_row places values row) (sym none) ∙ c.loop-place.invariant
