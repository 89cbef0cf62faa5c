-- The parts so far and the rest of the list make up the whole list.
use Rattle.std.proofs.Common.{◌≤◌, length}
use Rattle.hippo_spj_reader.specs.Front.{kinds}
use Rattle.hippo_spj_reader.specs.ListFinder.{leading_list}
use Rattle.hippo_spj_reader.proofs.ListLoops.{Continues}
use Rattle.hippo_spj_reader.proofs.lists.list.Given as goal

abbrev pub invariant-loop-remaining : goal.invariant-loop-remaining
invariant-loop-remaining g l = record {
  no_longer : length l.rest ≤ length l.fn.tokens;
  so_far : (let leading = g.P.Part.leading in let after = g.S.Separator.after in Continues leading after (leading_list leading after (kinds l.fn.tokens)) l.parts l.rest);
}

abbrev pub decreases-loop-remaining : goal.decreases-loop-remaining
decreases-loop-remaining g l = length l.rest
