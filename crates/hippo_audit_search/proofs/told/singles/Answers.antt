-- One more place, and finally all.
use Rattle.std.proofs.Common.{arith}
use Rattle.hippo_audit_search.proofs.FewLemmas.{singles-more, singles-all}
use Rattle.hippo_audit_search.proofs.told.singles.Goals as goal

pub loop-place-preserved : goal.loop-place-preserved
loop-place-preserved c =
    singles-more c.args.places.now c.loop-place.place-index c.in_ok-one.one c.loop-place.singles.items c.push.new.self.items c.loop-place-test.true c.in_ok-one.ensures c.in_ok-push.ensures.items c.loop-place.invariant

pub returns : goal.returns
returns c = singles-all c.args.places.now c.loop-place.place-index c.loop-place.singles.items (omega (arith, c.loop-place-test.false)) c.loop-place.invariant
