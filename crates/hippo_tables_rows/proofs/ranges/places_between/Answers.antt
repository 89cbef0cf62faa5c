-- One more place, up to the end.
use Rattle.std.proofs.Common.{◌<◌, length, subst, sym, arith, List}
use Rattle.std.specs.List.{All}
use Rattle.std.proofs.lemmas.List.Elements.{All-push}
use Rattle.hippo_model.specs.Terms.{Place}
use Rattle.hippo_tables_rows.proofs.PlacesWithinLemmas.{between-more}
use Rattle.hippo_tables_rows.proofs.ranges.places_between.Goals as goal

pub loop-place-preserved : goal.loop-place-preserved
loop-place-preserved c = record {
  range = subst (λ (l : List Place). All (λ place. place < length c.args.set.now.rows) l) (sym c.in_ok-push.ensures.items)
      (All-push (λ place. place < length c.args.set.now.rows) c.loop-place.places.items c.loop-place.place c.loop-place.invariant.range (omega (arith, c.loop-place-test.true, c.requires)));
  found = between-more c.args.start c.loop-place.place c.loop-place.places.items c.push.new.self.items c.in_ok-push.ensures.items c.loop-place.invariant.found;
}

pub returns-clause-all : goal.returns-clause-all
returns-clause-all c place from to = c.loop-place.invariant.found place from (omega (arith, c.loop-place-test.false))
