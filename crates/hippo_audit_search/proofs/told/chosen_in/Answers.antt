-- One more place, and finally all.
use Rattle.std.proofs.Common.{sym, ◌∙◌, arith}
use Rattle.hippo_audit_search.proofs.ToldLemmas.{chosen-more, chosen-all}
use Rattle.hippo_audit_search.proofs.told.chosen_in.Goals as goal

pub loop-table-preserved : goal.loop-table-preserved
loop-table-preserved c =
    chosen-more c.args.slots.now c.args.tables.now c.loop-table.table-index c.in-Some.place c.loop-table.places.items c.push.new.self.items c.loop-table-test.true
    (sym c.place_in_slot.ensures ∙ c.in-Some.is) c.in_ok-push.ensures.items c.loop-table.invariant

pub returns : goal.returns
returns c = chosen-all c.args.slots.now c.args.tables.now c.loop-table.table-index c.loop-table.places.items (omega (arith, c.loop-table-test.false)) c.loop-table.invariant
