-- From the meaning of an audit expression by a catalog's names to its meaning in a history.
use Rattle.std.proofs.Common.{◌≡◌, ◌∙◌, ℤ, refl, sym, ap, subst, true, [], ◌++◌, Option, Some, None, append-nil}
use Rattle.hippo_values.specs.Texts.{Txt}
use Rattle.hippo_model.specs.declared.audit.Audit.{Audit}
use Rattle.hippo_stmt_ast.specs.declared.statement.RawAudit.{RawAudit}
use Rattle.hippo_model.specs.Terms.{History}
use Rattle.hippo_model.specs.Validity.{is_valid}
use Rattle.hippo_typing_catalog.specs.AuditExpressions.{IsMomentIn, IsPeriodOf, audit_refused, audit_of}
use Rattle.hippo_typing_catalog.specs.Catalogs.{KnownNames, known_at}
use Rattle.hippo_typing.specs.Meanings.{meaning}
use Rattle.hippo_stmt_lines.specs.Moments.{moment_in, period_in}
use Rattle.hippo_stmt_lines.proofs.MomentLemmas.{moments_are_read}
use Rattle.hippo_audit_job.specs.Examining.{IsAuditOf}
use Rattle.hippo_audit_job.proofs.AuditLemmas.{unrefused_is_audit}
use Rattle.hippo_report.specs.declared.speaker.Speaker.TheVariants.{Console}
use Rattle.hippo_replay.specs.declared.state.State.{State}
use Rattle.hippo_replay.specs.Standing.{Represents}
use Rattle.hippo_engine_checks.specs.Checks.{Checked, Finds, unless_refused}
use Rattle.hippo_engine_checks.specs.Judging.{audit_in}

-- the moment found in a text is the one that the text writes
moment_is : (text : Txt) → IsMomentIn text (moment_in text)
moment_is text = by (moment_in text) refl
  where
    missing : (second : ℤ) → ◌≡◌ {A = Option ℤ} None (Some second) → ⊥
    missing second e = cc

    by : (found : Option ℤ) → moment_in text ≡ found → IsMomentIn text found
    by None is = λ second writes. missing second (sym is ∙ (moments_are_read text second).1 writes)
    by (Some second) is = (moments_are_read text second).0 is

-- the period of an audit is the one that its texts write
pub period_is : (written : RawAudit) → IsPeriodOf written (period_in written)
period_is written = record { from = moment_is written.from; to = moment_is written.to }

-- at the console, the audit by a catalog's names is the audit of the history
pub audit_found : (history : History) (written : RawAudit) (known : KnownNames) (result : Checked Audit) → known ≡ known_at history
    → Finds (λ audit. audit) (unless_refused (audit_refused known (period_in written) written) (audit_of known (period_in written) written)) result → Finds (λ audit. audit) (audit_in history Console written) result
audit_found history written known result same finds =
    subst (λ (names : KnownNames). Finds (λ audit. audit) (unless_refused (audit_refused names (period_in written) written) (audit_of names (period_in written) written)) result) same finds

-- an audit expression without faults means an audit of every history that the state stands for
pub audit_stands : (held : State) (written : RawAudit) (audit : Audit) (history : History) → Represents held history
    → (audit_refused held.catalog.names (period_in written) written ≡ []) × (audit ≡ audit_of held.catalog.names (period_in written) written) → IsAuditOf history audit
audit_stands held written audit history stands unrefused =
    let period = period_in written in
    let none : audit_refused (known_at history) period written ≡ [] = subst (λ (known : KnownNames). audit_refused known period written ≡ []) stands.names unrefused.0 in
    let is : audit ≡ audit_of (known_at history) period written = subst (λ (known : KnownNames). audit ≡ audit_of known period written) stands.names unrefused.1 in
    let valid : is_valid meaning (history ++ []) ≡ true = ap (is_valid meaning) (append-nil history) ∙ stands.valid in
    subst (IsAuditOf history) (sym is)
    (subst (λ (h : History). IsAuditOf h (audit_of (known_at history) period written)) (append-nil history) (unrefused_is_audit history [] period written valid none))
