-- All entries have numbers above 0, and no list has as many members as the limit.
use Rattle.std.proofs.Common.{◌∙◌, ◌<◌, length, ap, arith}
use Rattle.hippo_keeper.specs.MemoryKeeping.{MemoryStore}
use Rattle.hippo_keeper.proofs.PagesLemmas.{all_handed_over}
use Rattle.hippo_keeper.proofs.memory_keeper.MemoryKeeper.kept.Goals as goal

pub returns : goal.returns
returns c =
    let list = c.in_ok-list.list in
    let short : length list < 18446744073709551615 = omega (arith, c.if-prove.false, ap length c.as_slice-count.ensures) in
    all_handed_over 18446744073709551615 c.self.inside.kept list (c.in_ok-list.ensures.told tt) c.self.invariant short
    ∙ ap (λ (store : MemoryStore). store.kept) c.self.view_is
