-- A value is within the inclusive bounds at itself.
use Rattle.std.proofs.Common.{◌≡◌, ◌<◌, false, true, length, Some}
use Rattle.std.specs.Option.{IfSome}
use Rattle.std.specs.List.{Contains}
use Rattle.std.proofs.lemmas.Option.{IfSome_then}
use Rattle.hippo_model.specs.Terms.{Place}
use Rattle.hippo_join_lookups.specs.Lookups.{value_at_place}
use Rattle.hippo_tables_rows.specs.Ranges.{KeepsBound}
use Rattle.hippo_join_lookups.proofs.ListLemmas.{keeps-equal}
use Rattle.hippo_join_lookups.proofs.PlaceSteps.{ok-then}
use Rattle.hippo_join_lookups.proofs.lists.places_with.Goals as goal

pub returns : goal.returns
returns c =
    let set = c.args.set.now in
    let column = c.args.column in
    let end = c.bound_at.result in
    ok-then (λ found. IfSome found (λ places. (place : Place) → place < length set.rows → KeepsBound false (Some end) (value_at_place set column place) → KeepsBound true (Some end) (value_at_place set column place) → Contains places.items place))
    (λ found. IfSome found (λ places. (place : Place) → place < length set.rows → c.args.value.now ≡ value_at_place set column place → Contains places.items place)) c.places_within.result c.places_within.ensures.all
    (λ found has. IfSome_then found has (λ places all place within is.
    all place within (keeps-equal false end c.args.value.now (value_at_place set column place) c.bound_at.ensures.value c.bound_at.ensures.strict is) (keeps-equal true end c.args.value.now (value_at_place set column place) c.bound_at.ensures.value c.bound_at.ensures.strict is)))
