use Rattle.hippo_typing.proofs.LastingMeanings.{meaning_lasts}
use Rattle.hippo_audit_job.proofs.laws.meanings_last.Goals as goal

pub returns : goal.returns
returns c = meaning_lasts
