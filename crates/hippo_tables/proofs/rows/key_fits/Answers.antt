-- One more place of the key.
use Rattle.std.proofs.Common.{◌∙◌, sym, refl, arith}
use Rattle.hippo_tables.proofs.RowLemmas.{fits_within, column_there, column_missing, key_passes, key_goes_on, key_stops}
use Rattle.hippo_tables.proofs.rows.key_fits.Goals as goal
use Rattle.hippo_tables.proofs.rows.key_fits.Goals.{in-Some+else-not-fits_at, in_default}

pub returns-then-not-fits_at : goal.returns-then-not-fits_at
returns-then-not-fits_at c =
    let columns = c.as_slice-columns.result.now in
    let places = c.as_slice-places.result.now in
    let values = c.as_slice-values.result.now in
    let found = c.in-Some.ensures.lookup in
    key_stops columns places values c.loop-place.place-index c.loop-place.count _ c.loop-place-test.true c.loop-place.invariant.left c.in-Some.column.now (column_there columns _ c.in-Some.column.now found.3.0 found.1)
    (sym c.fits_at.ensures ∙ c.if-not-fits_at.true)
    ∙ rw (c.as_slice-columns.ensures, c.as_slice-places.ensures, c.as_slice-values.ensures) refl

pub loop-place-preserved : goal.loop-place-preserved
loop-place-preserved c =
    let columns = c.as_slice-columns.result.now in
    let places = c.as_slice-places.result.now in
    let values = c.as_slice-values.result.now in
    let i = c.loop-place.place-index in
    let so_far = c.loop-place.invariant in
    elim c.match-get.branch [
      | in-Some+else-not-fits_at w ↦
          let found = w.in-Some.ensures.lookup in
          let fit = sym w.fits_at.ensures ∙ w.if-not-fits_at.false in
          let within = fits_within w.in-Some.column.now values c.loop-place.count fit in
          rw w.count-is (record {
            left = key_goes_on columns places values i c.loop-place.count _ c.loop-place-test.true so_far.left w.in-Some.column.now (column_there columns _ w.in-Some.column.now found.3.0 found.1) fit;
            within = omega arith;
          })
      | in_default w ↦
          rw w.count-is (record {
            left = key_passes columns places values i c.loop-place.count _ c.loop-place-test.true so_far.left (column_missing columns _ w.in_default.ensures.lookup.3);
            within = so_far.within;
          })
    ]
