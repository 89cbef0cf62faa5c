-- Sorting keeps the same places.
use Rattle.hippo_join_lookups.proofs.PlaceSteps.{ok-then}
use Rattle.hippo_audit_search.proofs.SearchLemmas.{in-either}
use Rattle.hippo_audit_search.proofs.searching.Search.places_of.Goals as goal

pub returns-clause-reach : goal.returns-clause-reach
returns-clause-reach g c =
    ok-then _ _ c.in_order.result c.in_order.ensures.permutation (λ sorted moved.
    in-either (g.C.ChoiceView.choices c.args.self.now.query.now.choices.now) c.args.self.now.query.now.query.now c.args.self.now.query.now.sets.now c.args.query.now c.args.stages.now.query.now.table c.places_of-places.result.now
    (g.C.ChoiceView.choices c.args.self.now.audit.now.choices.now) c.args.self.now.audit.now.query.now c.args.self.now.audit.now.sets.now c.args.audit.now c.args.stages.now.audit.now.table c.places_of-others.result.now
    c.shorter.result.now sorted.items c.places_of-places.ensures c.places_of-others.ensures c.shorter.ensures moved)
