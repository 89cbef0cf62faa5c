-- Each table is the next of the remaining ones.
use Rattle.std.proofs.Common.{◌<◌, [], length, refl, arith}
use Rattle.hippo_spj_reader.proofs.SourceLoops.{begins, goes_on, ends}
use Rattle.hippo_spj_reader.proofs.selects.from_list.Goals as goal

pub loop-sources-init : goal.loop-sources-init
loop-sources-init c = record {
  no_longer = c.in_ok-first.ensures.no_longer;
  so_far = begins c.args.tokens.now c.in_ok-first.rest.now c.in_ok-first.first [] _ _ c.in_ok-first.ensures.found refl c.in_ok-sources.ensures.names c.in_ok-sources.ensures.conditions;
}

pub loop-sources-preserved : goal.loop-sources-preserved
loop-sources-preserved c =
    let shorter : length c.in-Some.left.now < length c.loop-sources.rest.now = rw c.in-Some.is at c.in_ok-entry.ensures.shorter in
    record {
      no_longer = omega arith;
      so_far = goes_on c.loop-sources.sources.names _ c.loop-sources.sources.conditions _ c.loop-sources.rest.now c.in-Some.left.now c.in-Some.entry
          c.loop-sources.invariant.so_far (rw c.in-Some.is at c.in_ok-entry.ensures.found) shorter c.in_ok-add_source.ensures.names c.in_ok-add_source.ensures.conditions;
    }

pub returns : goal.returns
returns c = record {
  found = ends c.loop-sources.sources c.loop-sources.rest.now c.loop-sources.invariant.so_far (rw c.in_default.is at c.in_ok-entry.ensures.found);
  no_longer = c.loop-sources.invariant.no_longer;
}
