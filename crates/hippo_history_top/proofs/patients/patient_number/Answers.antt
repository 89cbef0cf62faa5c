-- The word is a number of 64 bits, or is none.
use Rattle.std.proofs.Common.{◌∙◌}
use Rattle.hippo_history_top.proofs.NumberLemmas.{patient-parsed}
use Rattle.hippo_history_top.proofs.patients.patient_number.Goals as goal

pub returns : goal.returns
returns c = c.ok.ensures.value ∙ patient-parsed c.args.word.now c.from_str_radix.result c.from_str_radix.ensures.value
