use Rattle.std.proofs.Common.{◌≡◌, drop}
use Rattle.std.specs.Prelude.{◌&&◌, bytes_eq}
use Rattle.std.specs.List.{list_any}
use Rattle.hippo_model.specs.declared.audit.Pair.{Pair}
use Rattle.hippo_model.specs.Audits.{is_exempt}
use Rattle.hippo_audit_job.proofs.candidates.is_exempt.Given as goal

abbrev pub invariant-loop-pair : goal.invariant-loop-pair
invariant-loop-pair l =
    is_exempt l.audit l.purpose l.recipient
    ≡ list_any (λ (pair : Pair). bytes_eq pair.purpose l.purpose && bytes_eq pair.recipient l.recipient) (drop l.pair-index l.audit.exempt)
