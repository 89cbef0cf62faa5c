-- The bytes so far and those of the remaining members are all.
use Rattle.std.proofs.Common.{◌≡◌, ◌++◌, take}
use Rattle.std.specs.List.{flat_map}
use Rattle.hippo_entry_codec.proofs.parts.write_members.Given as goal

abbrev pub invariant-loop-member : goal.invariant-loop-member
invariant-loop-member g l = l.out.items ≡ l.initial.out.items ++ flat_map g.T.Part.bytes (take l.member-index l.members)
