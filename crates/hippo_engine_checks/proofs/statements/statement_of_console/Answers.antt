-- Each statement of the console is judged by its own checks.
use Rattle.std.proofs.Common.{refl}
use Rattle.hippo_stmt_ast.specs.declared.statement.Stmt.TheVariants as stmt
use Rattle.hippo_stmt_lines.specs.Commands as commands
use Rattle.hippo_report.specs.declared.speaker.Speaker.TheVariants.{Console}
use Rattle.hippo_engine_checks.proofs.FindingLemmas.{judges_found, sessions_only}
use Rattle.hippo_engine_checks.proofs.statements.statement_of_console.Goals as goal

pub returns-in-Audit-clause-judges : goal.returns-in-Audit-clause-judges
returns-in-Audit-clause-judges g c = λ text.
    rw c.in-Audit.is
    (judges_found (commands.make_statement Console (stmt.Audit c.in-Audit.written) text) c.judge_audit.result c.unread.result
    c.args.state.now (g.W.WorldView.seen c.args.world.now) (g.P.Keeper.state c.args.keeper.now) (g.P.Keeper.state c.args.keeper.now) c.args.steps.now c.args.steps.now c.unread.ensures (c.judge_audit.ensures text (g.W.WorldView.seen c.args.world.now)))

pub returns-in-BeginAudit-clause-judges : goal.returns-in-BeginAudit-clause-judges
returns-in-BeginAudit-clause-judges g c = λ text.
    rw c.in-BeginAudit.is
    (judges_found (commands.make_statement Console (stmt.BeginAudit c.in-BeginAudit.written) text) c.judge_begin.result c.unread-in-BeginAudit.result
    c.args.state.now (g.W.WorldView.seen c.args.world.now) (g.P.Keeper.state c.args.keeper.now) (g.P.Keeper.state c.args.keeper.now) c.args.steps.now c.args.steps.now c.unread-in-BeginAudit.ensures (c.judge_begin.ensures text))

pub returns-in-Watch-clause-judges : goal.returns-in-Watch-clause-judges
returns-in-Watch-clause-judges g c = λ text.
    rw c.in-Watch.is
    (judges_found (commands.make_statement Console (stmt.Watch c.in-Watch.written) text) c.judge_begin-in-Watch.result c.unread-in-Watch.result
    c.args.state.now (g.W.WorldView.seen c.args.world.now) (g.P.Keeper.state c.args.keeper.now) (g.P.Keeper.state c.args.keeper.now) c.args.steps.now c.args.steps.now c.unread-in-Watch.ensures (c.judge_begin-in-Watch.ensures text))

pub returns-in-Some : goal.returns-in-Some
returns-in-Some g c = record {
  judges = λ text. sessions_only Console c.args.statement.now c.in-Some.field-0 text c.args.state.now (g.W.WorldView.seen c.args.world.now) refl c.in-Some.ensures;
  still = λ is. refl;
  idle = λ is. refl;
}

pub returns-in-None : goal.returns-in-None
returns-in-None g c = record {
  judges = λ text. judges_found (commands.make_statement Console c.args.statement.now text) c.judge_change.result c.unread-in-None.result
      c.args.state.now (g.W.WorldView.seen c.args.world.now) (g.P.Keeper.state c.args.keeper.now) (g.P.Keeper.state c.args.keeper.now) c.args.steps.now c.args.steps.now c.unread-in-None.ensures (c.judge_change.ensures text);
  still = λ is. refl;
  idle = λ is. refl;
}
