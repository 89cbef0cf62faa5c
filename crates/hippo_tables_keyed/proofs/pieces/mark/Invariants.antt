-- The pieces before this one store their correct ends.
use Rattle.std.proofs.Common.{◌≡◌, take}
use Rattle.hippo_tables_keyed.specs.Pieces.{contents, start_of, IsMarked}
use Rattle.hippo_tables_keyed.proofs.pieces.mark.Given as goal

abbrev pub invariant-loop-place : goal.invariant-loop-place
invariant-loop-place g l = record {
  marked : IsMarked (take l.place l.pieces);
  end : l.end ≡ start_of (contents l.pieces) l.place;
  kept : contents l.pieces ≡ contents l.initial.pieces;
}
