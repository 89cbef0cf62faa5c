use Rattle.std.proofs.Common.{◌≡◌, refl, arith, rules, FitsSigned, w16, to_z-of_z, ap, unsigned_abs}
use Rattle.jiff_core.specs.Date.{epoch_day}
use Rattle.jiff_core.proofs.SignedLemmas.{signed_casts}
use Rattle.hippo_values_text.proofs.DatesLemmas.{HasDate-of_number}
use Rattle.hippo_values_text.proofs.dates.date_of_day.Goals as goal

pub overflow_cast-result : goal.overflow_cast-result
overflow_cast-result c =
    let date = c.from_days_since_min-date.result in
    let number : epoch_day date ≡ c.args.day = omega (arith, signed_casts) in
    let has = HasDate-of_number date c.args.day (unsigned_abs date.year) c.day.ensures.range number refl in
    let fits : FitsSigned w16 date.year = search rules in
    omega (arith, signed_casts)

pub returns : goal.returns
returns c =
    let date = c.from_days_since_min-date.result in
    let number : epoch_day date ≡ c.args.day = omega (arith, signed_casts) in
    let fits : FitsSigned w16 date.year = search rules in
    (HasDate-of_number date c.args.day _ c.day.ensures.range number (ap unsigned_abs (to_z-of_z fits))).0
