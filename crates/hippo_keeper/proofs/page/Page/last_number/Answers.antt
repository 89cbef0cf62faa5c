-- The last head belongs to the last entry.
use Rattle.std.proofs.Common.{◌≡◌, ◌∙◌, ◌-◌, suc, length, slice_get, Some, ap, sym, arith}
use Rattle.std.proofs.lemmas.Option.{get_or_from_slice_get, slice_get_within}
use Rattle.hippo_keeper.specs.Keeping.{last_number}
use Rattle.hippo_keeper.proofs.PageLemmas.{last_number-page}
use Rattle.hippo_keeper.proofs.page.Page.last_number.Goals as goal

pub returns-in-Some : goal.returns-in-Some
returns-in-Some c =
    let inside = c.self.inside in
    let last = c.in-Some.head.now in
    let place = length inside.heads - 1 in
    let at : slice_get inside.heads place ≡ Some last = cc (c.as_slice.ensures, c.in-Some.ensures.value) in
    let within = slice_get_within inside.heads place last at in
    let size : suc place ≡ length inside.heads = omega arith in
    sym (last_number-page inside.tables inside.bodies.items 0 0 inside.heads place last size (sym (get_or_from_slice_get inside.heads place last last at)))
    ∙ ap (last_number 0) c.self.view_is
