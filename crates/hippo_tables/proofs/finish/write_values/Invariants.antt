-- Writing the remaining values gives the whole row.
use Rattle.std.proofs.Common.{◌≡◌, drop}
use Rattle.std.specs.Vec.Iter.{into_iter_items}
use Rattle.hippo_tables.specs.Finished.{written_row}
use Rattle.hippo_tables.proofs.finish.write_values.Given as goal

abbrev pub invariant-loop-place : goal.invariant-loop-place
invariant-loop-place l = written_row (drop l.place-index l.places) (into_iter_items l.left) l.cells.items ≡ written_row l.places l.fn.values.items l.initial.cells.items
