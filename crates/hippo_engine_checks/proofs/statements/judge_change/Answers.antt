-- The entry is added, or the change is refused.
use Rattle.std.proofs.Common.{refl}
use Rattle.hippo_stmt_lines.specs.Commands as commands
use Rattle.hippo_engine_checks.specs.Judging.{judged_change}
use Rattle.hippo_engine_checks.proofs.ChangeLemmas.{judged_as_change}
use Rattle.hippo_engine_checks.proofs.FindingLemmas.{may_change, refused_change}
use Rattle.hippo_report.specs.declared.speaker.Speaker.TheVariants.{Console}
use Rattle.hippo_engine_checks.proofs.statements.judge_change.Goals as goal

pub returns-in-Ok : goal.returns-in-Ok
returns-in-Ok g c = λ text.
    may_change c.args.state.now (g.W.WorldView.seen c.args.world.now) (commands.make_statement Console c.args.statement.now text) (λ history. judged_change history (g.W.WorldView.seen c.args.world.now) Console c.args.statement.now) refl
    (λ history. judged_as_change history (g.W.WorldView.seen c.args.world.now) Console c.args.statement.now text c.requires.changes)
    c.in-Ok.entry refl c.in-Ok.ensures.found c.in-Ok.ensures.number c.in-Ok.ensures.follows

pub returns-in-Err : goal.returns-in-Err
returns-in-Err g c = λ text.
    refused_change c.args.state.now (g.W.WorldView.seen c.args.world.now) (commands.make_statement Console c.args.statement.now text) (λ history. judged_change history (g.W.WorldView.seen c.args.world.now) Console c.args.statement.now) refl
    (λ history. judged_as_change history (g.W.WorldView.seen c.args.world.now) Console c.args.statement.now text c.requires.changes)
    c.in-Err.refusal c.in-Err.ensures.found
