-- The rows within the bounds have entries between the ends.
use Rattle.std.proofs.Common.{rules}
use Rattle.hippo_tables_rows.proofs.PlacesWithinLemmas.{places-within}
use Rattle.hippo_tables_rows.proofs.column_order.places_among.Goals as goal

pub returns : goal.returns
returns c = record {
  range = search rules;
  all = places-within c.args.column c.args.set.now c.args.entries.now c.args.low c.args.high _ _ _ c.requires c.is_empty.ensures.order c.entries_within-start.ensures.low c.entries_within-start.ensures.high c.in_ok-add_places.ensures.all;
}
