use Rattle.hippo_entry_codec.proofs.TextLemmas.{stored_text-some, stored_text-none}
use Rattle.hippo_entry_codec.proofs.reading.text_of.Goals as goal

pub returns-in-Ok : goal.returns-in-Ok
returns-in-Ok c = stored_text-some _ _ c.in-Ok.ensures.cases.0 c.in-Ok.ensures.cases.1

pub returns-in-Err : goal.returns-in-Err
returns-in-Err c = stored_text-none _ c.in-Err.ensures.cases.0
