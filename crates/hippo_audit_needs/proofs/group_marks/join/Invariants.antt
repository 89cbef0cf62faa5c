-- The best values before this place include one more member.
use Rattle.std.proofs.Common.{◌≡◌, List, [], ◌∷◌, ◌++◌, map}
use Rattle.hippo_audit_needs.specs.GroupMarks.{PlacedRow, best_of, AreJoinedBests}
use Rattle.hippo_audit_needs.proofs.group_marks.join.Given as goal

abbrev pub invariant-loop-place : goal.invariant-loop-place
invariant-loop-place l =
    (members : List PlacedRow) → l.initial.bests ≡ map (best_of members) l.outs
    → AreJoinedBests members (members ++ record { row = l.row; places = l.places } ∷ []) l.outs l.place l.bests
