use Rattle.hippo_typing_catalog.specs.Comparisons.{mixes_kinds}
use Rattle.hippo_typing_catalog.proofs.ComparedOperands.{any-All, any-Any}
use Rattle.hippo_typing_catalog.proofs.kinds.+mixes_kinds.Goals as goal

pub mixes_kinds-returns-in-All : goal.mixes_kinds-returns-in-All
mixes_kinds-returns-in-All t c =
    rw (c.in-All.is, any-All (mixes_kinds c.args.tables.now) c.in-All.parts) c.any_mixes_kinds.ensures

pub mixes_kinds-returns-in-Any : goal.mixes_kinds-returns-in-Any
mixes_kinds-returns-in-Any t c =
    rw (c.in-Any.is, any-Any (mixes_kinds c.args.tables.now) c.in-Any.parts) c.any_mixes_kinds-in-Any.ensures
