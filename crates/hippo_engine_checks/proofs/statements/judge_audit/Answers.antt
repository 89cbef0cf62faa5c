use Rattle.std.proofs.Common.{refl, Ok}
use Rattle.hippo_stmt_ast.specs.declared.statement.Stmt.TheVariants as stmt
use Rattle.hippo_stmt_lines.specs.Commands as commands
use Rattle.hippo_engine_checks.proofs.FindingLemmas.{may_audit, refused_audit}
use Rattle.hippo_report.specs.declared.speaker.Speaker.TheVariants.{Console}
use Rattle.hippo_engine_checks.specs.Deeds as deeds
use Rattle.hippo_engine_checks.proofs.statements.judge_audit.Goals as goal

pub returns-in-Ok : goal.returns-in-Ok
returns-in-Ok c = λ text world.
    may_audit c.args.state.now world c.args.written.now text c.in-Ok.audit
    (record { fits = c.in-Ok.ensures.audit; differ = c.in-Ok.ensures.differ }) c.in-Ok.ensures.found

pub returns-in-Err : goal.returns-in-Err
returns-in-Err c = λ text world.
    refused_audit c.args.state.now world c.args.written.now (commands.make_statement Console (stmt.Audit c.args.written.now) text) (λ audit. Ok (deeds.audit audit)) c.in-Err.refusal
    refl (λ history. refl) c.in-Err.ensures.found
