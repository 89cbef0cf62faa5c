-- The key so far.
use Rattle.std.proofs.Common.{◌≡◌, take}
use Rattle.hippo_model.specs.Rows.{key_of}
use Rattle.hippo_model.proofs.cells.copied_key.Given as goal

abbrev pub invariant-loop-place : goal.invariant-loop-place
invariant-loop-place l = l.key ≡ key_of (take l.place-index l.places) l.row
