-- The ordered places are those that were passed in.
use Rattle.hippo_audit_search.proofs.candidates.first_of.Goals as goal

pub returns : goal.returns
returns g c = rw (c.deref.ensures.value, c.in_ok-listed.ensures.keys) at c.first_of_listed.ensures
