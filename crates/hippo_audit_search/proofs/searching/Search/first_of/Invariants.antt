-- The first of the remaining candidates that is shared is the first of all.
use Rattle.std.proofs.Common.{List, drop}
use Rattle.std.specs.Prelude.{Option}
use Rattle.hippo_model.specs.Terms.{Place}
use Rattle.hippo_audit_search.specs.FirstPlaces.{IsFirstAmong}
use Rattle.hippo_audit_search.specs.Searching.{SharedPlaces}
use Rattle.hippo_audit_search.proofs.searching.Search.first_of.Given as goal

abbrev pub invariant-loop-places : goal.invariant-loop-places
invariant-loop-places g l = (found : Option (List Place))
    → IsFirstAmong (SharedPlaces g.C.ChoiceView.choices l.self.query.now l.self.audit.now l.self.seen.now l.common.query.items l.common.audit.items) (drop l.places-index l.candidates) found
    → IsFirstAmong (SharedPlaces g.C.ChoiceView.choices l.self.query.now l.self.audit.now l.self.seen.now l.common.query.items l.common.audit.items) l.candidates found
