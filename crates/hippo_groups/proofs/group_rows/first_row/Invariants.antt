-- The cells so far are those of the row up to the index.
use Rattle.std.proofs.Common.{◌≡◌, [], map, take}
use Rattle.hippo_model.specs.Forms.{group_cell}
use Rattle.hippo_groups.proofs.group_rows.first_row.Given as goal

abbrev pub invariant-loop-out : goal.invariant-loop-out
invariant-loop-out l = l.cells.items ≡ map (group_cell l.key []) (take l.out-index l.outs)
