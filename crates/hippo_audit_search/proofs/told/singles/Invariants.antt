-- The places so far, each in a list of its own.
use Rattle.std.proofs.Common.{◌≡◌, map, take}
use Rattle.hippo_audit_search.proofs.FewLemmas.{alone}
use Rattle.hippo_audit_search.proofs.told.singles.Given as goal

abbrev pub invariant-loop-place : goal.invariant-loop-place
invariant-loop-place l = l.singles.items ≡ map alone (take l.place-index l.places)
