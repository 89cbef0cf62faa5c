-- The first of the remaining candidates, or none.
use Rattle.std.proofs.Common.{Some, None, arith}
use Rattle.hippo_audit_search.specs.Searching.{SharedPlaces}
use Rattle.hippo_audit_search.proofs.AmongLemmas.{found-at, passed-at, found-none}
use Rattle.hippo_audit_search.proofs.searching.Search.first_of.Goals as goal

pub returns-then-branch : goal.returns-then-branch
returns-then-branch g c =
    c.loop-places.invariant (Some c.places-item.result)
    (found-at (SharedPlaces g.C.ChoiceView.choices c.args.self.now.query.now c.args.self.now.audit.now c.args.self.now.seen.now c.args.common.now.query.items c.args.common.now.audit.items)
    c.args.candidates.now c.loop-places.places-index c.places-item.result c.as_slice.result.now c.loop-places-test.true c.places-item.is c.as_slice.ensures c.in_ok-shares.field-0 c.if-branch.true c.in_ok-shares.ensures)

pub loop-places-preserved : goal.loop-places-preserved
loop-places-preserved g c = λ found later.
    c.loop-places.invariant found
    (passed-at (SharedPlaces g.C.ChoiceView.choices c.args.self.now.query.now c.args.self.now.audit.now c.args.self.now.seen.now c.args.common.now.query.items c.args.common.now.audit.items)
    c.args.candidates.now c.loop-places.places-index c.places-item.result c.as_slice.result.now c.loop-places-test.true c.places-item.is c.as_slice.ensures c.in_ok-shares.field-0 c.if-branch.false c.in_ok-shares.ensures found later)

pub returns : goal.returns
returns g c =
    c.loop-places.invariant None
    (found-none (SharedPlaces g.C.ChoiceView.choices c.args.self.now.query.now c.args.self.now.audit.now c.args.self.now.seen.now c.args.common.now.query.items c.args.common.now.audit.items)
    c.args.candidates.now c.loop-places.places-index (omega (arith, c.loop-places-test.false)))
