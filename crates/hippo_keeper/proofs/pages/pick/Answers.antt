-- One more page is examined.
use Rattle.std.proofs.Common.{arith}
use Rattle.hippo_keeper.proofs.PickLemmas.{with_picked-next}
use Rattle.hippo_keeper.proofs.PagesLemmas.{paged-next}
use Rattle.hippo_keeper.proofs.pages.pick.Goals as goal

pub loop-page-preserved : goal.loop-page-preserved
loop-page-preserved c = with_picked-next _ _ _ _ _ _ _ c.in_ok-pick.ensures (paged-next c.args.pages.now c.loop-page.page-index c.page-item.result (omega arith) c.page-item.is) c.loop-page.invariant
