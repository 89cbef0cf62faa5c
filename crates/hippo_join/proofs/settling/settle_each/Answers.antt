-- One more table.
use Rattle.std.proofs.Common.{arith}
use Rattle.hippo_join.proofs.SettlingLemmas.{Settles_refl, Settles-trans}
use Rattle.hippo_join.proofs.settling.settle_each.Goals as goal

pub loop-table-init : goal.loop-table-init
loop-table-init g c = Settles_refl (g.C.ChoiceView.choices c.args.side.now.choices.now) c.args.side.now.query.now c.args.side.now.sets.now c.args.slots.now

pub settle_table-requires-clause-slots : goal.settle_table-requires-clause-slots
settle_table-requires-clause-slots g c = let long = c.loop-table.invariant.long in let same = c.requires in omega (arith, long, same, c.loop-table-test.true, c.len-table-end.ensures)

pub loop-table-preserved : goal.loop-table-preserved
loop-table-preserved g c =
    Settles-trans (g.C.ChoiceView.choices c.args.side.now.choices.now) c.args.side.now.query.now c.args.side.now.sets.now c.args.slots.now c.loop-table.slots c.settle_table.new.slots
    c.loop-table.invariant c.in_ok-settle_table.ensures
