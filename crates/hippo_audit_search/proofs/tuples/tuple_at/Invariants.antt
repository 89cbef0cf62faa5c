-- The rows so far, followed by those of the remaining tables, are all rows.
use Rattle.std.proofs.Common.{◌≡◌, ◌++◌, drop}
use Rattle.hippo_audit_search.specs.Tuples.{tuple_at}
use Rattle.hippo_audit_search.proofs.tuples.tuple_at.Given as goal

abbrev pub invariant-loop-index : goal.invariant-loop-index
invariant-loop-index l = l.tuple ++ tuple_at l.names l.sets (drop l.index l.tables) (drop l.index l.places) ≡ tuple_at l.names l.sets l.tables l.places
