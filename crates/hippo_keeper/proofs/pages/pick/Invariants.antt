-- What was picked so far, and what is left.
use Rattle.std.proofs.Common.{◌≡◌, drop}
use Rattle.hippo_keeper.specs.Paging.{paged, with_picked}
use Rattle.hippo_keeper.proofs.pages.pick.Given as goal

abbrev pub invariant-loop-page : goal.invariant-loop-page
invariant-loop-page l = with_picked l.read_query l.list (paged (drop l.page-index l.pages)) ≡ with_picked l.read_query l.initial.list (paged l.pages)
