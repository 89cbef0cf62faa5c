-- The field at an index gives its value, or the fault of all.
use Rattle.std.proofs.Common.{◌∙◌, ap, Some}
use Rattle.std.proofs.lemmas.Result.{err_from_is_err_and}
use Rattle.hippo_csv.specs.Records.{field_value}
use Rattle.hippo_csv.proofs.ValueLemmas.{value-read, one-more, missing-at, none-missing, fault-so, value-so}
use Rattle.hippo_csv.proofs.values.all_values.Goals as goal

pub returns-in_err-value_at : goal.returns-in_err-value_at
returns-in_err-value_at c =
    let place = c.loop-place.place in
    let there = value-read c.args.schema.now.columns c.args.fields.now place c.get.result.now c.field-item.result c.as_str.result.now c.get.ensures
    (rw c.as_slice-field-items.ensures at c.loop-place-test.true) (rw c.as_slice-field-items.ensures at c.field-item.is) c.as_str.ensures in
    let so = fault-so (field_value c.get.result.now.kind c.as_str.result.now) place c.in_err-value_at.field-0.0 _ c.in_err-value_at.ensures (λ none. missing-at _ c.loop-place.row place c.loop-place.invariant (there ∙ ap Some none)) in
    let err = err_from_is_err_and c.from_residual.result c.from_residual.ensures.1 in
    rw (err.1, err.2) so

pub loop-place-preserved : goal.loop-place-preserved
loop-place-preserved c =
    let place = c.loop-place.place in
    let there = value-read c.args.schema.now.columns c.args.fields.now place c.get.result.now c.field-item.result c.as_str.result.now c.get.ensures
    (rw c.as_slice-field-items.ensures at c.loop-place-test.true) (rw c.as_slice-field-items.ensures at c.field-item.is) c.as_str.ensures in
    let found = value-so (field_value c.get.result.now.kind c.as_str.result.now) place c.in_ok-value_at.field-0 c.in_ok-value_at.ensures in
    rw c.in_ok-push.ensures.ok (one-more _ c.loop-place.row place c.in_ok-value_at.field-0 c.loop-place.invariant (there ∙ ap Some found))

pub returns : goal.returns
returns c = none-missing c.args.schema.now.columns c.args.fields.now c.loop-place.row c.loop-place.place (rw c.as_slice-field-items.ensures at c.loop-place-test.false) c.loop-place.invariant
