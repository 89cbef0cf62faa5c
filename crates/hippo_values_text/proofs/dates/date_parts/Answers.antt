use Rattle.std.proofs.Common.{arith}
use Rattle.hippo_values_text.proofs.DateTextLemmas.{date_text-read}
use Rattle.hippo_values_text.proofs.dates.date_parts.Goals as goal

pub returns-clause-some : goal.returns-clause-some
returns-clause-some c =
    let s = c.args.bytes.now in (
      omega (arith, c.in_ok-century.ensures.some, c.in_ok-year.ensures.some),
      c.in_ok-month.ensures.some.0,
      c.in_ok-day.ensures.some.0,
      date_text-read s _ c.in_ok-century.century c.in_ok-year.year c.in_ok-month.month c.in_ok-day.day (cc) (c.in_ok-year.ensures.some.0) (cc) (cc) (cc) c.in_ok-century.ensures.some.1 c.in_ok-year.ensures.some.1 c.in_ok-month.ensures.some.1 c.in_ok-day.ensures.some.1,
    )
