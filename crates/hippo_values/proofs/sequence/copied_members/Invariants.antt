-- The copies so far are the members before the index.
use Rattle.std.proofs.Common.{◌≡◌, take}
use Rattle.hippo_values.proofs.sequence.copied_members.Given as goal

abbrev pub invariant-loop-member : goal.invariant-loop-member
invariant-loop-member g l = l.made.items ≡ take l.member-index l.members
