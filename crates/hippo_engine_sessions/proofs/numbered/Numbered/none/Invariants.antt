-- There are as many empty slots as there were turns.
use Rattle.std.proofs.Common.{◌≡◌, None, replicate}
use Rattle.hippo_engine_sessions.proofs.numbered.Numbered.none.Given as goal

abbrev pub invariant-loop : goal.invariant-loop
invariant-loop g l = l.places.items ≡ replicate l.counter None
