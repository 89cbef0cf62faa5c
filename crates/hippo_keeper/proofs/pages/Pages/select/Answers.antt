-- Picking from the pages above the number and then from the last entries picks from all entries.
use Rattle.std.proofs.Common.{◌∙◌, ap, sym, subst}
use Rattle.hippo_keeper.specs.Keeping.{RisesAbove}
use Rattle.hippo_keeper.specs.Selecting.{is_selected, selected_entries}
use Rattle.hippo_keeper.specs.Paging.{paged, with_picked}
use Rattle.hippo_keeper.proofs.PagesLemmas.{RisesAbove-front, picked_of_all, IsHandedOver-of}
use Rattle.hippo_keeper.proofs.pages.Pages.select.Goals as goal

pub pages_above-pages-requires-clause-order : goal.pages_above-pages-requires-clause-order
pages_above-pages-requires-clause-order c =
    let inside = c.self.inside in
    rw c.as_slice.ensures (RisesAbove-front 0 (paged inside.full) inside.last (subst (λ list. RisesAbove 0 list) (sym c.self.view_is) c.requires))

pub returns : goal.returns
returns c =
    let read_query = c.args.read_query.now in
    let first = c.in_ok-pick.ensures ∙ ap (λ list. with_picked read_query list (paged c.pages_above-pages.result.now)) c.new-list.ensures in
    let is = picked_of_all read_query _ (paged c.self.inside.full) c.self.inside.last _ _ first c.in_ok-pick-2.ensures (rw c.as_slice.ensures at c.pages_above-pages.ensures) ∙ ap (selected_entries (is_selected read_query.selection) read_query.after read_query.max) c.self.view_is in
    IsHandedOver-of (is_selected read_query.selection) read_query.after read_query.max c.args.self.now _ is c.requires
