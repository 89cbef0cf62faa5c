use Rattle.std.specs.List.{list_any}
use Rattle.hippo_typing_catalog.specs.Comparisons.{has_bad_text}
use Rattle.hippo_typing_catalog.proofs.ComparedOperands.{any-All, any-Any}
use Rattle.hippo_typing_catalog.proofs.literals.+is_badly_written.Goals as goal

pub is_badly_written-returns-in-All : goal.is_badly_written-returns-in-All
is_badly_written-returns-in-All t c =
    rw (c.in-All.is, any-All (list_any has_bad_text) c.in-All.parts) c.any_is_badly_written.ensures

pub is_badly_written-returns-in-Any : goal.is_badly_written-returns-in-Any
is_badly_written-returns-in-Any t c =
    rw (c.in-Any.is, any-Any (list_any has_bad_text) c.in-Any.parts) c.any_is_badly_written-in-Any.ensures
