use Rattle.hippo_values_text.proofs.DateTextLemmas.{IsDayText-of_date, AreShort-of_date, date_text-joined, IsAscii-date_text}
use Rattle.hippo_values_text.proofs.dates.day_text.Goals as goal

pub returns : goal.returns
returns c =
    let has = c.date_of_day-year.ensures in
    let written = date_text-joined c.digits.result c.digits-2.result c.digits-3.result c.digits-4.result _ _ _ c.digits.ensures c.digits-2.ensures c.digits-3.ensures c.digits-4.ensures in
    record {
      value = (IsDayText-of_date _ c.args.day _ _ _ has written).1;
      ascii = IsAscii-date_text _ _ _ _ (AreShort-of_date c.args.day _ _ _ has) written;
    }
