-- The cells before this one include one more member.
use Rattle.std.proofs.Common.{◌≡◌, List, [], ◌∷◌, ◌++◌, map}
use Rattle.hippo_model.specs.Terms.{ShownRow}
use Rattle.hippo_model.specs.Forms.{group_cell}
use Rattle.hippo_groups.specs.GroupCells.{IsJoined}
use Rattle.hippo_groups.proofs.group_rows.join.Given as goal

abbrev pub invariant-loop-place : goal.invariant-loop-place
invariant-loop-place g l =
    (key : ShownRow) (members : List ShownRow) → l.initial.cells ≡ map (group_cell key members) l.outs
    → IsJoined key members (members ++ g.R.LentRow.cells l.row ∷ []) l.outs l.place l.cells
