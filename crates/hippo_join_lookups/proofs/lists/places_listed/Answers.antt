-- One item more, up to the end.
use Rattle.std.proofs.Common.{arith}
use Rattle.hippo_join_lookups.proofs.ListLemmas.{listed-more, all-listed}
use Rattle.hippo_join_lookups.proofs.lists.places_listed.Goals as goal

pub loop-item-preserved : goal.loop-item-preserved
loop-item-preserved c =
    listed-more c.args.set.now c.args.column c.args.list.now c.loop-item.item-index c.item-item.result c.loop-item.places.items c.add_item.new.places.items c.loop-item-test.true c.item-item.is
    c.in_ok-add_item.ensures.kept (λ place within is. c.in_ok-add_item.ensures.added c.if-not-branch.false place within is) c.loop-item.invariant

pub returns : goal.returns
returns c = all-listed c.args.set.now c.args.column c.args.list.now c.loop-item.item-index c.loop-item.places.items (omega (arith, c.loop-item-test.false)) c.loop-item.invariant
