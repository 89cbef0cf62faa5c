use Rattle.hippo_values_text.proofs.OptionLemmas.{IfNone_always}
use Rattle.hippo_values_text.proofs.MomentTextLemmas.{IsMomentText-of_parts, length-moment_text, no_moment-without_day, no_moment-without_time}
use Rattle.hippo_values_text.proofs.dates.moment_of_bytes.Goals as goal

pub returns-in_err-date-clause-none : goal.returns-in_err-date-clause-none
returns-in_err-date-clause-none c =
    IfNone_always _ (length-moment_text c.args.bytes.now c.in_err-date.ensures.cases)

pub returns-in_err-day-clause-none : goal.returns-in_err-day-clause-none
returns-in_err-day-clause-none c =
    let split = c.in_ok-date.ensures.cases in
    IfNone_always _ (no_moment-without_day c.args.bytes.now c.in_ok-date.date.now c.in_ok-date.time.now split c.in_err-day.ensures.none)

pub returns-in_err-second-clause-none : goal.returns-in_err-second-clause-none
returns-in_err-second-clause-none c =
    let split = c.in_ok-date.ensures.cases in
    IfNone_always _ (no_moment-without_time c.args.bytes.now c.in_ok-date.date.now c.in_ok-date.time.now split c.in_err-second.ensures.none)

pub returns-clause-some : goal.returns-clause-some
returns-clause-some c =
    let split = c.in_ok-date.ensures.cases in
    rw c.moment_at.ensures (IsMomentText-of_parts c.args.bytes.now c.in_ok-date.date.now c.in_ok-date.time.now c.in_ok-day.day c.in_ok-second.second split c.in_ok-day.ensures.some c.in_ok-second.ensures.some)
