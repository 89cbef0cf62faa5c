use Rattle.hippo_values_text.specs.Dates.{IsMomentText}
use Rattle.hippo_values_text.proofs.OptionLemmas.{Some_of_unique}
use Rattle.hippo_values_text.proofs.MomentTextLemmas.{IsMomentText-unique}
use Rattle.hippo_values_text.proofs.dates.read_moment.Goals as goal

pub returns-clause-inverse : goal.returns-clause-inverse
returns-clause-inverse c =
    let read = rw c.as_bytes.ensures.value at c.moment_of_bytes.ensures in
    Some_of_unique c.moment_of_bytes.result (IsMomentText c.args.text.now) read.some read.none (IsMomentText-unique c.args.text.now)
