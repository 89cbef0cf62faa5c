-- The values before the current field are present.
use Rattle.std.proofs.Common.{◌≡◌, map, take, Some}
use Rattle.hippo_csv.specs.Records.{field_values}
use Rattle.hippo_csv.proofs.values.all_values.Given as goal

abbrev pub invariant-loop-place : goal.invariant-loop-place
invariant-loop-place l = map Some l.row ≡ take l.place (field_values l.schema l.fields)
