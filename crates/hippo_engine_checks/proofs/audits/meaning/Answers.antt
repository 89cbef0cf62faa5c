-- The meaning of an audit expression that is found is its meaning.
use Rattle.std.proofs.Common.{◌≡◌, []}
use Rattle.hippo_typing_catalog.specs.AuditExpressions.{audit_refused, audit_of}
use Rattle.hippo_stmt_lines.specs.Moments.{period_in}
use Rattle.hippo_engine_checks.proofs.AskingLemmas.{meant_so, meant_not}
use Rattle.hippo_engine_checks.proofs.AuditLemmas.{period_is}
use Rattle.hippo_engine_checks.proofs.BoxLemmas.{found_in_box, held_in_box}
use Rattle.hippo_engine_checks.proofs.audits.meaning.Goals as goal

pub returns-in-Ok-clause-found : goal.returns-in-Ok-clause-found
returns-in-Ok-clause-found c =
    let resolved = c.in-Ok.ensures.resolved (period_in c.args.written.now) (period_is c.args.written.now) in
    found_in_box _ c.in-Ok.audit c.boxed.result (meant_so _ _ c.in-Ok.audit resolved.0 resolved.1) c.boxed.ensures

pub returns-in-Ok-clause-unrefused : goal.returns-in-Ok-clause-unrefused
returns-in-Ok-clause-unrefused c =
    let known = c.args.catalog.now.names in
    let written = c.args.written.now in
    held_in_box (λ audit. (audit_refused known (period_in written) written ≡ []) × (audit ≡ audit_of known (period_in written) written)) c.in-Ok.audit c.boxed.result
    (c.in-Ok.ensures.resolved (period_in written) (period_is written)) c.boxed.ensures

pub returns-in-Err-clause-found : goal.returns-in-Err-clause-found
returns-in-Err-clause-found c =
    meant_not _ _ c.in-Err.fault c.name_refusal.result (c.in-Err.ensures.resolved (period_in c.args.written.now) (period_is c.args.written.now)) c.name_refusal.ensures
