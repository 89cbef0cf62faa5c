use Rattle.std.proofs.Common.{◌≡◌, drop}
use Rattle.std.specs.List.{list_any}
use Rattle.hippo_typing_catalog.specs.Comparisons.{comparisons, has_bad_text}
use Rattle.hippo_typing_catalog.proofs.literals.+is_badly_written.Given as goal

abbrev pub invariant-any_is_badly_written-loop-part : goal.invariant-any_is_badly_written-loop-part
invariant-any_is_badly_written-loop-part l =
    list_any (λ part. list_any (list_any has_bad_text) (comparisons part)) l.parts ≡ list_any (λ part. list_any (list_any has_bad_text) (comparisons part)) (drop l.part-index l.parts)
