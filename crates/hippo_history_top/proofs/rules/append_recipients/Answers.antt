-- One more recipient, and none.
use Rattle.std.proofs.Common.{◌++◌, flat_map, take, arith}
use Rattle.hippo_values.specs.Texts.{Txt}
use Rattle.hippo_values.specs.declared.names.Name.{Name}
use Rattle.hippo_history_top.specs.Dating.{dated_line}
use Rattle.hippo_history_top.specs.Ruling.{tables_shown}
use Rattle.hippo_history_top.proofs.LoopLemmas.{one_lent, none_lent}
use Rattle.hippo_history_top.proofs.rules.append_recipients.Goals as goal

pub loop-recipient-preserved : goal.loop-recipient-preserved
loop-recipient-preserved c history stands =
    let policy = c.args.policy.now in
    let recipients = policy.catalog.now.names.recipients in
    let text : Name → Txt = tables_shown policy.catalog.now.names (dated_line policy.format policy.moments.now) policy.scope.now (take policy.n history) c.args.purpose.now in
    one_lent text (c.args.out.now ++ flat_map text recipients) c.loop-recipient.out c.append_tables.new.out c.recipient-item.result recipients c.recipients-recipient-items.result.now c.loop-recipient.recipient-index
    c.recipients-recipient-items.ensures c.loop-recipient-test.true c.recipient-item.is (c.in_ok-append_tables.ensures history stands) (c.loop-recipient.invariant history stands)

pub returns : goal.returns
returns c history stands =
    let policy = c.args.policy.now in
    let recipients = policy.catalog.now.names.recipients in
    let text : Name → Txt = tables_shown policy.catalog.now.names (dated_line policy.format policy.moments.now) policy.scope.now (take policy.n history) c.args.purpose.now in
    none_lent text (c.args.out.now ++ flat_map text recipients) c.loop-recipient.out recipients c.recipients-recipient-items.result.now c.loop-recipient.recipient-index
    c.recipients-recipient-items.ensures (omega (arith, c.loop-recipient-test.false)) (c.loop-recipient.invariant history stands)
