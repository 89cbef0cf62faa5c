-- The fields so far are those before the iterator's place.
use Rattle.std.proofs.Common.{◌≡◌, take}
use Rattle.csv.specs.Records.{fields_of}
use Rattle.hippo_csv.proofs.fields.copied_fields.Given as goal

abbrev pub invariant-loop-field : goal.invariant-loop-field
invariant-loop-field l = (l.field-iterator.row.now ≡ l.read) × (l.fields ≡ take l.field-iterator.at (fields_of l.read))
