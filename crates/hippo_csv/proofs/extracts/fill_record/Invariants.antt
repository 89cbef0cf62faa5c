-- The fields so far and those of the remaining cells are all.
use Rattle.std.proofs.Common.{◌≡◌, ◌++◌, map, drop}
use Rattle.csv.specs.Records.{fields_of}
use Rattle.hippo_csv.specs.Records.{cell_field}
use Rattle.hippo_csv.proofs.extracts.fill_record.Given as goal

abbrev pub invariant-loop-cell : goal.invariant-loop-cell
invariant-loop-cell l = fields_of l.fields ++ map cell_field (drop l.cell-index l.row) ≡ map cell_field l.row
