use Rattle.std.proofs.Common.{arith}
use Rattle.hippo_values_text.proofs.OptionLemmas.{IfNone_always}
use Rattle.hippo_values_text.proofs.ClockTextLemmas.{AreShort, IsTime, time_text-of_clock, no_time-without_clock, no_time-of_clock}
use Rattle.hippo_values_text.proofs.dates.second_of_bytes.Goals as goal
use Rattle.hippo_values_text.proofs.dates.second_of_bytes.Goals.{then-hour-gt-LAST_HOUR-via-then-hour-gt-LAST_HOUR, then-hour-gt-LAST_HOUR-via-else-hour-gt-LAST_HOUR+then-minute-gt59, then-hour-gt-LAST_HOUR-via-else-hour-gt-LAST_HOUR+else-minute-gt59+then-second-gt59}

pub returns-in_err-hour-clause-none : goal.returns-in_err-hour-clause-none
returns-in_err-hour-clause-none c =
    IfNone_always _ (no_time-without_clock c.args.bytes.now c.in_err-hour.ensures.none)

pub returns-then-hour-gt-LAST_HOUR-clause-none : goal.returns-then-hour-gt-LAST_HOUR-clause-none
returns-then-hour-gt-LAST_HOUR-clause-none c =
    let h = c.in_ok-hour.hour in
    let m = c.in_ok-hour.minute in
    let s = c.in_ok-hour.second in
    let parts = c.in_ok-hour.ensures.some in
    let short : AreShort h m s = record { hour = parts.0; minute = parts.1; second = parts.2 } in
    let none : ¬ (IsTime h m s) = λ t.
    elim c.then-hour-gt-LAST_HOUR.branch [
      | then-hour-gt-LAST_HOUR-via-then-hour-gt-LAST_HOUR w ↦ omega (arith, t.hour)
      | then-hour-gt-LAST_HOUR-via-else-hour-gt-LAST_HOUR+then-minute-gt59 w ↦ omega (arith, t.minute)
      | then-hour-gt-LAST_HOUR-via-else-hour-gt-LAST_HOUR+else-minute-gt59+then-second-gt59 w ↦ omega (arith, t.second)
    ] in
    no_time-of_clock c.args.bytes.now h m s short parts.3 none

pub returns-clause-some : goal.returns-clause-some
returns-clause-some c =
    let t : IsTime c.in_ok-hour.hour c.in_ok-hour.minute c.in_ok-hour.second = record { hour = omega arith; minute = omega arith; second = omega arith } in
    time_text-of_clock c.args.bytes.now _ _ _ _ (omega arith) t c.in_ok-hour.ensures.some.3
