-- The entries so far are covered.
use Rattle.std.proofs.Common.{◌≡◌, take}
use Rattle.hippo_keeper.specs.Keeping.{last_number}
use Rattle.hippo_history_top.specs.Gathering.{Gathers}
use Rattle.hippo_history_top.proofs.gathering.cover_piece.Given as goal

abbrev pub invariant-loop-kept : goal.invariant-loop-kept
invariant-loop-kept g l = record {
  gathers : Gathers (g.G.Gather.Covers l.initial.gathered l.asked) (g.G.Gather.Covers l.gathered l.asked) (take l.kept-index l.piece);
  last : l.number ≡ last_number l.initial.number (take l.kept-index l.piece);
}
