-- One more name changes no entry; one more head and body add one entry.
use Rattle.std.proofs.Common.{◌≡◌, ◌∙◌, ◌+◌, [], ◌∷◌, ◌++◌, length, slice_get, Some}
use Rattle.hippo_keeper.specs.Paging.{page_entries}
use Rattle.hippo_keeper.proofs.PageLemmas.{front_length, AreWithinPage-named, page_entries-named, page_entries-push, AreWithinPage-push}
use Rattle.hippo_keeper.proofs.Results.{on_err_from}
use Rattle.hippo_keeper.proofs.page.Page.push.Goals as goal

pub invariant_of-self : goal.invariant_of-self
invariant_of-self c =
    let inside = c.self.inside in
    AreWithinPage-named (length inside.tables) (length c.table_in.new.tables) (length inside.bodies.items) 0 inside.heads (front_length inside.tables c.table_in.new.tables c.table_in.ensures.kept) c.self.invariant

pub returns-in_err-table-clause-err : goal.returns-in_err-table-clause-err
returns-in_err-table-clause-err c =
    let inside = c.self.inside in
    on_err_from c.from_residual-in_err-table.result _ (page_entries-named inside.tables c.table_in.new.tables inside.bodies.items (length inside.bodies.items) 0 inside.heads c.table_in.ensures.kept c.self.invariant ∙ c.self.view_is)

pub invariant_of-self-in_err-put : goal.invariant_of-self-in_err-put
invariant_of-self-in_err-put c =
    let inside = c.self.inside in
    let tables = c.table_in.new.tables in
    let known = AreWithinPage-named (length inside.tables) (length tables) (length inside.bodies.items) 0 inside.heads (front_length inside.tables tables c.table_in.ensures.kept) c.self.invariant in
    rw (c.in_err-put.ensures.same_heads, c.in_err-put.ensures.same_bodies) known

pub returns-in_err-put-clause-err : goal.returns-in_err-put-clause-err
returns-in_err-put-clause-err c =
    let inside = c.self.inside in
    let tables = c.table_in.new.tables in
    let kept = page_entries-named inside.tables tables inside.bodies.items (length inside.bodies.items) 0 inside.heads c.table_in.ensures.kept c.self.invariant ∙ c.self.view_is in
    on_err_from c.from_residual-in_err-put.result _ (rw (c.in_err-put.ensures.same_heads, c.in_err-put.ensures.same_bodies) kept)

pub invariant_of-self-2 : goal.invariant_of-self-2
invariant_of-self-2 c =
    let inside = c.self.inside in
    let entry = c.args.entry.now in
    let end : c.of-head.result.end ≡ length inside.bodies.items + length entry.body = cc (c.of-head.ensures.end, c.in_ok-end.ensures, c.as_slice.ensures.value, c.as_slice-body.ensures) in
    let named : slice_get c.table_in.new.tables c.of-head.result.table ≡ Some entry.table = cc (c.of-head.ensures.table, c.in_ok-table.ensures.place, c.as_str.ensures) in
    rw (c.in_ok-put.ensures.heads, c.in_ok-put.ensures.bodies, c.as_slice-body.ensures) (AreWithinPage-push inside.tables c.table_in.new.tables inside.bodies.items entry.body entry.table c.of-head.result inside.heads c.table_in.ensures.kept c.self.invariant end named)

pub returns-clause-ok : goal.returns-clause-ok
returns-clause-ok c =
    let inside = c.self.inside in
    let entry = c.args.entry.now in
    let end : c.of-head.result.end ≡ length inside.bodies.items + length entry.body = cc (c.of-head.ensures.end, c.in_ok-end.ensures, c.as_slice.ensures.value, c.as_slice-body.ensures) in
    let named : slice_get c.table_in.new.tables c.of-head.result.table ≡ Some entry.table = cc (c.of-head.ensures.table, c.in_ok-table.ensures.place, c.as_str.ensures) in
    let bodies : c.put.new.bodies.items ≡ inside.bodies.items ++ entry.body = cc (c.in_ok-put.ensures.bodies, c.as_slice-body.ensures) in
    (λ i. page_entries c.table_in.new.tables (bodies i) 0 (c.in_ok-put.ensures.heads i))
    ∙ page_entries-push inside.tables c.table_in.new.tables inside.bodies.items entry.body entry.table c.of-head.result inside.heads c.table_in.ensures.kept c.self.invariant end named
    ∙ (λ i. c.self.view_is i ++ c.of-head.ensures.entry i ∷ [])
