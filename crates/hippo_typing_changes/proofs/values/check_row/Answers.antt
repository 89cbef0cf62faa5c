use Rattle.std.proofs.Common.{length, rules, refl, ap, ◌∙◌}
use Rattle.std.specs.List.{flat_map}
use Rattle.std.proofs.lemmas.Result.{err_from_is_err_and}
use Rattle.std.proofs.lemmas.Slice.Zip.{zip_turn, zip_end}
use Rattle.hippo_typing_changes.proofs.ChangesLemmas.{zip-past_end, first_at_pair}
use Rattle.hippo_typing_changes.proofs.values.check_row.Goals as goal

pub returns-in_err-check : goal.returns-in_err-check
returns-in_err-check g c =
    let refusals = g.C.ValueCheck.refusals in
    let columns = c.args.columns.now in
    let values = c.args.values.now in
    let turn = zip_turn columns values c.loop-column.yielded c.into_iter-column-iterator.result c.loop-column.column-iterator c.next.new.self _ (search rules) (search rules) c.loop-column.yielded_by _ c.in-Some.is c.next.ensures.steps in
    let p = err_from_is_err_and c.from_residual.result c.from_residual.ensures.1 in
    rw (p.1, p.2) (first_at_pair (λ (column, value). refusals column value) columns values (length c.loop-column.yielded) c.in-Some.column.now c.in-Some.value.now c.in_err-check.field-0.0 turn.0 turn.1 (turn.2 _) (turn.3 _) c.loop-column.invariant c.in_err-check.ensures)

pub returns : goal.returns
returns g c =
    let columns = c.args.columns.now in
    let values = c.args.values.now in
    let ended = zip_end columns values c.loop-column.yielded c.into_iter-column-iterator.result c.loop-column.column-iterator c.next.new.self _ (search rules) (search rules) c.loop-column.yielded_by c.in-None.is c.next.ensures.steps in
    let none = ap (flat_map (λ (column, value). g.C.ValueCheck.refusals column value)) (zip-past_end columns values (length c.loop-column.yielded) ended) in
    (c.loop-column.invariant ∙ none, refl)
