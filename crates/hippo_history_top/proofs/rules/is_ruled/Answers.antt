-- A column has a rule, or the remaining ones decide.
use Rattle.std.proofs.Common.{take, arith}
use Rattle.hippo_history_top.proofs.PolicyLemmas.{column_ruled, column_unruled}
use Rattle.hippo_history_top.proofs.rules.is_ruled.Goals as goal

pub returns-then-has_rule : goal.returns-then-has_rule
returns-then-has_rule c history stands =
    column_ruled (take c.args.policy.now.n history) c.args.group.now.purpose.now c.args.group.now.recipient.now c.args.group.now.schema.now c.loop-place.place
    (omega (arith, c.loop-place-test.true, c.len-place-end.ensures)) (c.loop-place.invariant history stands) (c.if-has_rule.ensures history stands)

pub loop-place-preserved : goal.loop-place-preserved
loop-place-preserved c history stands =
    column_unruled (take c.args.policy.now.n history) c.args.group.now.purpose.now c.args.group.now.recipient.now c.args.group.now.schema.now c.loop-place.place
    (omega (arith, c.loop-place-test.true, c.len-place-end.ensures)) (c.loop-place.invariant history stands) (c.if-has_rule.ensures history stands)
