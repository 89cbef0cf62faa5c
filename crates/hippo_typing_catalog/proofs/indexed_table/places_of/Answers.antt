use Rattle.std.proofs.Common.{◌≡◌, ℕ, ◌+◌, ◌∷◌, [], ◌++◌, length, take, Bool, List, Option, sym, ap, ◌∙◌, arith}
use Rattle.std.specs.Prelude.{position, bytes_eq}
use Rattle.std.specs.Bool.{then_some}
use Rattle.std.specs.Option.{option_or}
use Rattle.std.proofs.lemmas.List.{take_more, length-take}
use Rattle.hippo_model.specs.declared.schema.Column.{Column}
use Rattle.hippo_typing_catalog.proofs.ColumnIndexLemmas.{position-push}
use Rattle.hippo_typing_catalog.proofs.indexed_table.places_of.Goals as goal

pub loop-place-preserved : goal.loop-place-preserved
loop-place-preserved c = λ name.
    let columns : List Column = c.args.columns.now in
    let place : ℕ = c.loop-place.place in
    let column : Column = c.index-columns-place.result in
    let front : List Column = take place columns in
    let test : Column → Bool = λ known. bytes_eq name known.name in
    let more : take (place + 1) columns ≡ front ++ column ∷ [] = take_more columns place column (omega arith) ∙ ap (λ (x : Column). front ++ x ∷ []) (sym c.index-columns-place.is) in
    let count : length front ≡ place = omega (arith, length-take place columns) in
    let step : position test (front ++ column ∷ []) ≡ option_or (position test front) (then_some (test column) place) = position-push test front column ∙ ap (λ (n : ℕ). option_or (position test front) (then_some (test column) n)) count in
    c.in_ok-add_place.ensures name ∙ ap (λ (found : Option ℕ). option_or found (then_some (test column) place)) (c.loop-place.invariant name) ∙ sym (ap (position test) more ∙ step)
