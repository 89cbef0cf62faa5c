use Rattle.hippo_values_text.specs.Dates.{IsDayText}
use Rattle.hippo_values_text.proofs.OptionLemmas.{Some_of_unique}
use Rattle.hippo_values_text.proofs.DateTextLemmas.{IsDayText-unique}
use Rattle.hippo_values_text.proofs.dates.read_day.Goals as goal

pub returns-clause-inverse : goal.returns-clause-inverse
returns-clause-inverse c =
    let read = rw c.as_bytes.ensures.value at c.day_of_bytes.ensures in
    Some_of_unique c.day_of_bytes.result (IsDayText c.args.text.now) read.some read.none (IsDayText-unique c.args.text.now)
