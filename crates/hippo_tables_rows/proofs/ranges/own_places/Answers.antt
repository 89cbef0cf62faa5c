-- The rows within the bounds are between the two ends.
use Rattle.hippo_tables_rows.proofs.PlacesWithinLemmas.{own-within}
use Rattle.hippo_tables_rows.proofs.ranges.own_places.Goals as goal

pub returns : goal.returns
returns c = record {
  range = c.in_ok-places.ensures.range;
  all = own-within c.args.set.now c.args.column c.args.low c.args.high _ _ _ c.ends_within-start.ensures.low c.ends_within-start.ensures.high c.in_ok-places.ensures.all;
}
