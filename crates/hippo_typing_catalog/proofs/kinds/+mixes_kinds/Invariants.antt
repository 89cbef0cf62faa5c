use Rattle.std.proofs.Common.{◌≡◌, drop}
use Rattle.std.specs.List.{list_any}
use Rattle.hippo_typing_catalog.specs.Comparisons.{comparisons, mixes_kinds}
use Rattle.hippo_typing_catalog.proofs.kinds.+mixes_kinds.Given as goal

abbrev pub invariant-any_mixes_kinds-loop-part : goal.invariant-any_mixes_kinds-loop-part
invariant-any_mixes_kinds-loop-part l =
    list_any (λ part. list_any (mixes_kinds l.tables) (comparisons part)) l.parts ≡ list_any (λ part. list_any (mixes_kinds l.tables) (comparisons part)) (drop l.part-index l.parts)
