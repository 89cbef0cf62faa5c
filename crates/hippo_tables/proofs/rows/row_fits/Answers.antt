-- One more column.
use Rattle.std.proofs.Common.{◌∙◌, sym, refl, arith}
use Rattle.hippo_tables.proofs.RowLemmas.{fits_within, row_goes_on, row_stops}
use Rattle.hippo_tables.proofs.rows.row_fits.Goals as goal

pub returns-then-not-fits_at : goal.returns-then-not-fits_at
returns-then-not-fits_at c =
    row_stops c.as_slice-columns.result.now c.as_slice-values.result.now c.loop-place.place c.index-columns-place.result _ c.loop-place-test.true c.index-columns-place.is c.loop-place.invariant.left (sym c.fits_at.ensures ∙ c.if-not-fits_at.true)
    ∙ rw (c.as_slice-columns.ensures, c.as_slice-values.ensures) refl

pub loop-place-preserved : goal.loop-place-preserved
loop-place-preserved c =
    let columns = c.as_slice-columns.result.now in
    let values = c.as_slice-values.result.now in
    let fit = sym c.fits_at.ensures ∙ c.if-not-fits_at.false in
    let within = fits_within c.index-columns-place.result values c.loop-place.place fit in
    record {
      left = row_goes_on columns values c.loop-place.place c.index-columns-place.result _ c.loop-place-test.true c.index-columns-place.is c.loop-place.invariant.left fit;
      within = omega arith;
    }
