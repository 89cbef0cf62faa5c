-- One more row is chosen, and finally all.
use Rattle.std.proofs.Common.{arith, ap, ◌∙◌, length, length-set, None}
use Rattle.std.proofs.lemmas.List.{length-replicate}
use Rattle.hippo_audit_search.specs.FirstPlaces.{with_rows}
use Rattle.hippo_audit_search.proofs.SearchLemmas.{with-one-more, with-all}
use Rattle.hippo_audit_search.proofs.searching.slots_with.Goals as goal

pub loop-index-init : goal.loop-index-init
loop-index-init c = record {
  long = ap length c.in_ok-slots.ensures ∙ length-replicate c.args.count None;
  so_far = ap (with_rows c.args.tables.now c.args.places.now) c.in_ok-slots.ensures;
}

pub loop-index-preserved : goal.loop-index-preserved
loop-index-preserved c = record {
  long = simp length-set c.loop-index.invariant.long;
  so_far =
      with-one-more c.args.tables.now c.args.places.now c.loop-index.index c.loop-index.slots.items _ c.loop-index-test.true (omega (arith, c.loop-index-test.true, c.requires.long)) c.loop-index.invariant.so_far;
}

pub returns : goal.returns
returns c = with-all c.args.tables.now c.args.places.now c.loop-index.index c.loop-index.slots.items _ (omega (arith, c.loop-index-test.false)) c.loop-index.invariant.so_far
