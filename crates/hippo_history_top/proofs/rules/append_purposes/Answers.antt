-- One more purpose, and none.
use Rattle.std.proofs.Common.{◌++◌, take, arith}
use Rattle.hippo_values.specs.Texts.{Txt}
use Rattle.hippo_values.specs.declared.names.Name.{Name}
use Rattle.hippo_history_top.specs.Dating.{dated_line}
use Rattle.hippo_history_top.specs.Ruling.{recipients_shown, rules_by_names}
use Rattle.hippo_history_top.proofs.LoopLemmas.{one_lent, none_lent}
use Rattle.hippo_history_top.proofs.rules.append_purposes.Goals as goal

pub loop-purpose-preserved : goal.loop-purpose-preserved
loop-purpose-preserved c history stands =
    let policy = c.args.policy.now in
    let names = policy.catalog.now.names in
    let text : Name → Txt = recipients_shown names (dated_line policy.format policy.moments.now) policy.scope.now (take policy.n history) in
    one_lent text (c.args.out.now ++ rules_by_names names (dated_line policy.format policy.moments.now) policy.scope.now (take policy.n history)) c.loop-purpose.out c.append_recipients.new.out c.purpose-item.result names.purposes c.purposes-purpose-items.result.now c.loop-purpose.purpose-index
    c.purposes-purpose-items.ensures c.loop-purpose-test.true c.purpose-item.is (c.in_ok-append_recipients.ensures history stands) (c.loop-purpose.invariant history stands)

pub returns : goal.returns
returns c history stands =
    none_lent (recipients_shown c.args.policy.now.catalog.now.names (dated_line c.args.policy.now.format c.args.policy.now.moments.now) c.args.policy.now.scope.now (take c.args.policy.now.n history))
    (c.args.out.now ++ rules_by_names c.args.policy.now.catalog.now.names (dated_line c.args.policy.now.format c.args.policy.now.moments.now) c.args.policy.now.scope.now (take c.args.policy.now.n history)) c.loop-purpose.out
    c.args.policy.now.catalog.now.names.purposes c.purposes-purpose-items.result.now c.loop-purpose.purpose-index
    c.purposes-purpose-items.ensures (omega (arith, c.loop-purpose-test.false)) (c.loop-purpose.invariant history stands)
