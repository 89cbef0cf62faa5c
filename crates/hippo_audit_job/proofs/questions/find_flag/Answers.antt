-- The shared tuple becomes a flag, or the fault is returned.
use Rattle.std.proofs.Common.{refl, ap, Ok, Err}
use Rattle.hippo_audit_job.proofs.questions.find_flag.Goals as goal

pub returns-in-Ok : goal.returns-in-Ok
returns-in-Ok g c = record {
  shares = Ok c.in-Ok.shared;
  looks = c.in-Ok.ensures.looks;
  found = ap Ok c.flagged.ensures;
}

pub returns-in-Err : goal.returns-in-Err
returns-in-Err g c = record { shares = Err c.in-Err.fault; looks = c.in-Err.ensures.looks; found = refl }
