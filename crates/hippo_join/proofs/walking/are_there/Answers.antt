-- One more table's place.
use Rattle.std.proofs.Common.{◌+◌, ◌&&◌, ap, drop, refl, sym, ◌∙◌}
use Rattle.hippo_join_lookups.specs.Places.{are_there}
use Rattle.hippo_join_lookups.proofs.SlotLemmas.{there-more}
use Rattle.hippo_join.proofs.walking.are_there.Goals as goal

pub returns-then-not-is_there : goal.returns-then-not-is_there
returns-then-not-is_there g c =
    let sets = c.args.side.now.sets.now in
    let slots = c.args.slots.now in
    let table = c.loop-table.table in
    sym (there-more sets slots table c.get.result.now _ _ c.get.ensures c.loop-table-test.true refl ∙ ap (λ b. b && are_there (drop (table + 1) sets) (drop (table + 1) slots)) (sym c.is_there.ensures ∙ c.if-not-is_there.true)) ∙ c.loop-table.invariant

pub loop-table-preserved : goal.loop-table-preserved
loop-table-preserved g c =
    let sets = c.args.side.now.sets.now in
    let slots = c.args.slots.now in
    let table = c.loop-table.table in
    sym (there-more sets slots table c.get.result.now _ _ c.get.ensures c.loop-table-test.true refl ∙ ap (λ b. b && are_there (drop (table + 1) sets) (drop (table + 1) slots)) (sym c.is_there.ensures ∙ c.if-not-is_there.false)) ∙ c.loop-table.invariant
