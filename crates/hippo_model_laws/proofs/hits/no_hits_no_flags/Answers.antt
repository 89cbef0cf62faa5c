use Rattle.hippo_model_laws.proofs.HitsTheorem as hits
use Rattle.hippo_model_laws.proofs.hits.no_hits_no_flags.Goals as goal

pub returns : goal.returns
returns c = record { needs = hits.needs_none; serve = hits.serves_none; share = hits.shares_none; flag = hits.flags_none }
