-- One more row has its entry.
use Rattle.std.proofs.Common.{Some, sym, ap, ◌∙◌, arith}
use Rattle.std.specs.Prelude.{option_map}
use Rattle.std.proofs.lemmas.Option.{slice_get-get_or, get_or_from_slice_get}
use Rattle.hippo_tables_rows.proofs.EntryLemmas.{AreFilled-next, AreFilled-all}
use Rattle.hippo_tables_rows.proofs.column_order.fill.Goals as goal

pub loop-place-preserved : goal.loop-place-preserved
loop-place-preserved c key =
    let entered = rw (c.as_slice-row.ensures, c.as_slice-key.ensures, c.key.ensures) at c.in_ok-enter.ensures in
    AreFilled-next c.args.column c.args.set.now c.args.places.now c.loop-place.entries c.enter.new.entries c.loop-place.place-index _ c.born_row-kept.result.now.row c.born_row-kept.result.now.born (λ place is. sym (get_or_from_slice_get c.args.places.now c.loop-place.place-index place 0 (slice_get-get_or c.args.places.now c.loop-place.place-index place c.loop-place-test.true ∙ ap Some is))) (ap (option_map (λ kept. kept.row)) c.born_row-kept.ensures) entered (c.loop-place.invariant key)

pub returns : goal.returns
returns c key = AreFilled-all c.args.column c.args.set.now c.args.places.now c.loop-place.entries c.loop-place.place-index (omega (arith, c.loop-place-test.false)) (c.loop-place.invariant key)
