-- There is a head for each entry.
use Rattle.std.proofs.Common.{arith}
use Rattle.hippo_keeper.proofs.PageLemmas.{some_entry}
use Rattle.hippo_keeper.proofs.page.Page.is_full.Goals as goal

pub returns-then-entries-ge-ENTRY_LIMIT : goal.returns-then-entries-ge-ENTRY_LIMIT
returns-then-entries-ge-ENTRY_LIMIT c = λ full. some_entry _ _ _ c.self.inside.heads _ c.self.view_is (omega (arith, c.len-entries.ensures, c.if-entries-ge-ENTRY_LIMIT.true))

pub returns-then-entries-gt0 : goal.returns-then-entries-gt0
returns-then-entries-gt0 c = λ full. some_entry _ _ _ c.self.inside.heads _ c.self.view_is (omega (arith, c.len-entries.ensures, c.if-entries-gt0.true))
