-- The clock is set, or the line is refused.
use Rattle.hippo_stmt_lines.specs.Commands as commands
use Rattle.hippo_engine_checks.proofs.FindingLemmas.{judges_found}
use Rattle.hippo_engine_checks.proofs.judging.judge.Goals as goal

pub returns-in-SetClock-clause-judges : goal.returns-in-SetClock-clause-judges
returns-in-SetClock-clause-judges g c =
    rw c.in-SetClock.is
    (judges_found (commands.set_clock c.in-SetClock.moment) c.judge_clock.result c.unread.result
    c.args.state.now (g.W.WorldView.seen c.args.world.now) (g.P.Keeper.state c.args.keeper.now) (g.P.Keeper.state c.args.keeper.now) c.args.steps.now c.args.steps.now c.unread.ensures (c.judge_clock.ensures c.args.state.now))
