-- The best values so far are those of no members.
use Rattle.std.proofs.Common.{◌≡◌, [], map, take}
use Rattle.hippo_audit_needs.specs.GroupMarks.{best_of}
use Rattle.hippo_audit_needs.proofs.group_marks.no_marks.Given as goal

abbrev pub invariant-loop : goal.invariant-loop
invariant-loop l = l.bests.items ≡ map (best_of []) (take l.index l.outs)
