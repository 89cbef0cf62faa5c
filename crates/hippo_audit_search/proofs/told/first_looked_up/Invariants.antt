-- The first of the remaining candidates that is shared is the first of all.
use Rattle.std.proofs.Common.{List, drop}
use Rattle.std.specs.Prelude.{Option}
use Rattle.hippo_model.specs.Terms.{Place}
use Rattle.hippo_audit_search.specs.FirstPlaces.{IsFirstAmong}
use Rattle.hippo_audit_search.specs.Searching.{SharedBy}
use Rattle.hippo_audit_search.proofs.told.first_looked_up.Given as goal

abbrev pub invariant-loop-places : goal.invariant-loop-places
invariant-loop-places g l = (found : Option (List Place))
    → IsFirstAmong (SharedBy g.C.ChoiceView.choices l.sides) (drop l.places-index l.candidates) found
    → IsFirstAmong (SharedBy g.C.ChoiceView.choices l.sides) l.candidates found
