use Rattle.hippo_stmt_lines.specs.Commands.{syntax_refusal}
use Rattle.hippo_stmt_lines.proofs.StatementLemmas.{read, refused, told}
use Rattle.hippo_stmt_lines.proofs.statements.statement_by.Goals as goal

pub returns-in-Ok : goal.returns-in-Ok
returns-in-Ok c = rw (read c.args.tokens.now c.in-Ok.statement c.in-Ok.ensures.words c.in-Ok.ensures.found) c.boxed.ensures

pub returns-in-Err : goal.returns-in-Err
returns-in-Err c = told c.args.tokens.now c.in-Err.fault c.syntax_refusal.result c.syntax_refusal.ensures (refused c.args.tokens.now c.in-Err.fault c.in-Err.ensures.errors)
