use Rattle.std.proofs.Common.{length, rules, refl, ap, ◌∙◌}
use Rattle.std.proofs.lemmas.Result.{err_from_is_err_and}
use Rattle.std.proofs.lemmas.Slice.Zip.{zip_turn, zip_end}
use Rattle.hippo_typing_catalog.specs.ChangesRefused.{in_column, assigned_refused}
use Rattle.hippo_typing_changes.proofs.ChangesLemmas.{zip-past_end, first_at_pair}
use Rattle.hippo_typing_changes.proofs.values.check_assigned.Goals as goal

pub returns-in_err-check_named : goal.returns-in_err-check_named
returns-in_err-check_named g c =
    let refusals = g.C.ValueCheck.refusals in
    let table = c.args.table.now in
    let names = c.args.names.now in
    let values = c.args.values.now in
    let turn = zip_turn names values c.loop-name.yielded c.into_iter-name-iterator.result c.loop-name.name-iterator c.next.new.self _ (search rules) (search rules) c.loop-name.yielded_by _ c.in-Some.is c.next.ensures.steps in
    let p = err_from_is_err_and c.from_residual.result c.from_residual.ensures.1 in
    rw (p.1, p.2) (first_at_pair (λ (name, value). in_column table name (λ column. refusals column value)) names values (length c.loop-name.yielded) c.in-Some.name.now c.in-Some.value.now c.in_err-check_named.field-0.0 turn.0 turn.1 (turn.2 _) (turn.3 _) c.loop-name.invariant c.in_err-check_named.ensures)

pub returns : goal.returns
returns g c =
    let table = c.args.table.now in
    let names = c.args.names.now in
    let values = c.args.values.now in
    let ended = zip_end names values c.loop-name.yielded c.into_iter-name-iterator.result c.loop-name.name-iterator c.next.new.self _ (search rules) (search rules) c.loop-name.yielded_by c.in-None.is c.next.ensures.steps in
    let none = ap (assigned_refused g.C.ValueCheck.refusals table) (zip-past_end names values (length c.loop-name.yielded) ended) in
    (c.loop-name.invariant ∙ none, refl)
