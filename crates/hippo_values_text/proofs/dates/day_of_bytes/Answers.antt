use Rattle.std.proofs.lemmas.Option.{IfSome_then}
use Rattle.hippo_values_text.proofs.OptionLemmas.{IfNone_then, IfNone_always}
use Rattle.hippo_values_text.proofs.DateTextLemmas.{AreShort, IsDayText-of_date, no_day-without_date, no_day-of_date}
use Rattle.hippo_values_text.proofs.dates.day_of_bytes.Goals as goal

pub returns-in_err-year-clause-none : goal.returns-in_err-year-clause-none
returns-in_err-year-clause-none c =
    IfNone_always _ (no_day-without_date c.args.bytes.now c.in_err-year.ensures.none)

pub returns-clause-some : goal.returns-clause-some
returns-clause-some c =
    IfSome_then _ c.day_of_date.ensures.some (λ day has. IsDayText-of_date _ day _ _ _ has c.in_ok-year.ensures.some.3)

pub returns-clause-none : goal.returns-clause-none
returns-clause-none c =
    let parts = c.in_ok-year.ensures.some in
    let short : AreShort c.in_ok-year.year c.in_ok-year.month c.in_ok-year.day = record { year = parts.0; month = parts.1; day = parts.2 } in
    IfNone_then _ c.day_of_date.ensures.none (no_day-of_date c.args.bytes.now _ _ _ short parts.3)
