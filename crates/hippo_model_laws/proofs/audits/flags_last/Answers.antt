use Rattle.std.proofs.Common.{ap}
use Rattle.hippo_model.specs.Terms.{History}
use Rattle.hippo_model.specs.Audits.{shared_in}
use Rattle.std.specs.Prelude.{is_some}
use Rattle.hippo_model_laws.proofs.ValidFronts.{before-append}
use Rattle.hippo_model_laws.proofs.audits.flags_last.Goals as goal

pub returns : goal.returns
returns c = λ meaning history entry stands later audit.
    let before = before-append meaning history entry stands later in
    (ap (λ (h : History). shared_in meaning h audit entry.moment entry.act) before, ap (λ (h : History). is_some (shared_in meaning h audit entry.moment entry.act)) before)
