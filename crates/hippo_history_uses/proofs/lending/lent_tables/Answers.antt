-- Each table is lent.
use Rattle.std.proofs.Common.{arith}
use Rattle.hippo_history_uses.proofs.LendingLemmas.{lends_each}
use Rattle.hippo_history_uses.proofs.lending.lent_tables.Goals as goal

pub returns : goal.returns
returns c =
    lends_each c.args.tables.now c.args.names.now (record { schemas = c.loop-name.schemas; sets = c.loop-name.sets }) c.loop-name.name-index
    (omega (arith, c.loop-name-test.false, c.loop-name.auto.name-index-end)) c.loop-name.invariant.schemas_each c.loop-name.invariant.sets_each
    c.loop-name.invariant.schemas c.loop-name.invariant.sets c.loop-name.invariant.created
