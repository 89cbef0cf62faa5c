use Rattle.hippo_values_text.proofs.ClockTextLemmas.{time_text-joined, IsAscii-time_text}
use Rattle.hippo_values_text.proofs.dates.time_text.Goals as goal

pub returns : goal.returns
returns c =
    let value = time_text-joined c.digits.result c.digits-2.result c.digits-3.result c.args.second c.digits.ensures c.digits-2.ensures c.digits-3.ensures in
    record { value = value; ascii = IsAscii-time_text _ c.args.second c.requires value }
