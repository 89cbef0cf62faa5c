-- One more entry, up to the end.
use Rattle.std.proofs.Common.{◌∙◌, arith}
use Rattle.hippo_tables_rows.proofs.PlacesWithinLemmas.{next-gathered}
use Rattle.hippo_tables_rows.proofs.column_order.add_places.Goals as goal

pub loop-place-preserved : goal.loop-place-preserved
loop-place-preserved c = record {
  range = λ all. c.in_ok-add_place.ensures.range (c.loop-place.invariant.range all);
  gathered = next-gathered c.args.entries.now c.args.set.now c.args.start c.loop-place.place c.loop-place.places.items c.add_place.new.places.items c.row.result.now c.row.ensures
      c.in_ok-add_place.ensures.kept (λ cell kept place at is. c.in_ok-add_place.ensures.added cell kept place at (c.as_slice.ensures ∙ is)) c.loop-place.invariant.gathered;
}

pub returns-clause-all : goal.returns-clause-all
returns-clause-all c = λ at from to entry at_entry cell kept place at_place is.
    c.loop-place.invariant.gathered at from (omega (arith, to, c.loop-place-test.false)) entry at_entry cell kept place at_place is
