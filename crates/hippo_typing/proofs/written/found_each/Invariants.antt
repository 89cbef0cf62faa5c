-- The rest of the refusals, and of the results, follows what has been found.
use Rattle.std.proofs.Common.{◌≡◌, ◌++◌, map, drop}
use Rattle.std.specs.List.{flat_map}
use Rattle.hippo_typing.proofs.written.found_each.Given as goal

abbrev pub invariant-loop-member : goal.invariant-loop-member
invariant-loop-member g l = record {
  left : flat_map (g.W.Written.refused l.tables) l.written ≡ flat_map (g.W.Written.refused l.tables) (drop l.member-index l.written);
  made : l.found ++ map (g.W.Written.meant l.tables) (drop l.member-index l.written) ≡ map (g.W.Written.meant l.tables) l.written;
}
