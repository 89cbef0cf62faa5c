-- One value more.
use Rattle.std.proofs.Common.{refl, sym, get_or, unwrap_or}
use Rattle.std.specs.Prelude.{option_copied}
use Rattle.hippo_values.specs.declared.values.Value.TheVariants.{Null as NullValue}
use Rattle.hippo_join_lookups.specs.Lookups.{value_at_place}
use Rattle.hippo_join_lookups.proofs.PlaceSteps.{get_or_default, map-more}
use Rattle.hippo_join_lookups.proofs.lookups.values_at.Goals as goal

pub loop-place-preserved : goal.loop-place-preserved
loop-place-preserved c =
    let places = c.args.places.now in
    let here = get_or places c.loop-place.place-index 0 in
    map-more (value_at_place c.args.set.now c.args.column) places c.loop-place.place-index c.loop-place.values.items c.push_copy.new.values.items here here (unwrap_or (option_copied c.value_at.result) NullValue)
    c.loop-place.invariant c.loop-place-test.true (sym (get_or_default places c.loop-place.place-index 0 here c.loop-place-test.true)) refl c.value_at.ensures c.in_ok-push_copy.ensures
