-- What is left of the piece ends as the whole piece does.
use Rattle.std.proofs.Common.{◌≡◌, drop}
use Rattle.hippo_keeper.specs.Keeping.{last_number}
use Rattle.hippo_history_top.proofs.front.last_in.Given as goal

abbrev pub invariant-loop-kept : goal.invariant-loop-kept
invariant-loop-kept l = last_number l.last (drop l.kept-index l.piece) ≡ last_number l.number l.piece
