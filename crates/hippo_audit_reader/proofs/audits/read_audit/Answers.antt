-- What is found is the grammar's audit expression, and each audit expression of the grammar is
-- found.
use Rattle.std.proofs.Common.{[]}
use Rattle.hippo_spj_reader.specs.Front.{kinds_between}
use Rattle.hippo_spj_reader.proofs.WholeTheorem.{reads_all}
use Rattle.hippo_audit_reader.specs.AuditGrammar.{IsAudit}
use Rattle.hippo_audit_reader.specs.AuditFinder.{leading_audit}
use Rattle.hippo_audit_reader.proofs.AuditTheorem.{found, complete, ends-nothing}
use Rattle.hippo_audit_reader.proofs.audits.read_audit.Goals as goal

pub returns : goal.returns
returns c =
    let tokens = kinds_between c.args.t.now c.args.first c.args.last in
    reads_all leading_audit IsAudit tokens (found tokens) (λ audit is. complete tokens audit [] is ends-nothing) c.whole.result (rw c.as_slice.ensures at c.whole.ensures)
