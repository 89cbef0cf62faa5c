use Rattle.std.proofs.Common.{◌≡◌, ℤ, Option, None, Some, SomeIff, IfNone, arith, pos, rules, FitsSigned, w32, to_z-of_z, ◌∙◌}
use Rattle.jiff_core.specs.Date.{epoch_day}
use Rattle.jiff_core.proofs.SignedLemmas.{signed_casts}
use Rattle.hippo_values.specs.Moments.{IsDayNumber}
use Rattle.hippo_values_text.proofs.DatesLemmas.{IsDayNumber-of_date, HasDate-of_civil}
use Rattle.hippo_values_text.proofs.dates.day_of_date.Goals as goal

none_of : (r : Option ℤ) (day number : ℤ) (P : Type 0) → SomeIff r (IsDayNumber number) number → number ≡ day → IsDayNumber day → IfNone r P
none_of None day number P h e is = absurd (h (rw e is))
none_of (Some x) day number P h e is = tt

pub returns-in-Ok-clause-none : goal.returns-in-Ok-clause-none
returns-in-Ok-clause-none c =
    let date = c.in-Ok.date in
    let same = c.in-Ok.ensures.value in
    let year : date.year ≡ pos c.args.year = omega (arith, signed_casts, same) in
    let month : date.month ≡ c.args.month = omega (arith, signed_casts, same) in
    let day : date.day ≡ c.args.day = omega (arith, signed_casts, same) in
    let has = HasDate-of_civil date _ _ _ (omega arith) year month day in
    let fits : FitsSigned w32 c.to_unix_epoch_day.result = search rules in
    none_of _ _ _ _ c.new-in-Ok.ensures (to_z-of_z fits ∙ c.to_unix_epoch_day.ensures.value) (IsDayNumber-of_date _ _ _ _ has)
