use Rattle.std.proofs.Common.{take}
use Rattle.hippo_typing_catalog.specs.ColumnIndex.{IsIndexOf}
use Rattle.hippo_typing_catalog.proofs.indexed_table.places_of.Given as goal

abbrev pub invariant-loop-place : goal.invariant-loop-place
invariant-loop-place l = IsIndexOf (take l.place l.columns) l.places
