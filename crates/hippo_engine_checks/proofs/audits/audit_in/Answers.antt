-- The console's audit is the one that the expression means, in every history that the state stands
-- for.
use Rattle.std.proofs.lemmas.Result.{IfOk-weaker}
use Rattle.hippo_engine_checks.proofs.AuditLemmas.{audit_found, audit_stands}
use Rattle.hippo_engine_checks.proofs.audits.audit_in.Goals as goal

pub returns-clause-found : goal.returns-clause-found
returns-clause-found c = λ history stands.
    audit_found history c.args.written.now c.args.state.now.catalog.names c.meaning.result stands.names c.meaning.ensures.found

pub returns-clause-audit : goal.returns-clause-audit
returns-clause-audit c =
    IfOk-weaker c.meaning.result _ _ (λ audit unrefused history stands. audit_stands c.args.state.now c.args.written.now audit history stands unrefused) c.meaning.ensures.unrefused

pub returns-clause-differ : goal.returns-clause-differ
returns-clause-differ c =
    IfOk-weaker c.meaning.result _ _
    (λ audit unrefused. (audit_stands c.args.state.now c.args.written.now audit c.requires.sound.history c.requires.sound.stands unrefused).differ) c.meaning.ensures.unrefused
