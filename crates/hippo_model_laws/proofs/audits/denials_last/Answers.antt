use Rattle.std.proofs.Common.{ap}
use Rattle.hippo_model.specs.Terms.{History}
use Rattle.hippo_model.specs.Denials.{denials_in}
use Rattle.hippo_model_laws.proofs.ValidFronts.{before-append}
use Rattle.hippo_model_laws.proofs.audits.denials_last.Goals as goal

pub returns : goal.returns
returns c = λ meaning history entry stands later. ap (λ (h : History). denials_in meaning h entry.moment entry.act) (before-append meaning history entry stands later)
