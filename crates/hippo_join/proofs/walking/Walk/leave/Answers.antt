-- The rows of the other tables stay the same.
use Rattle.std.proofs.Common.{length, ap, ◌∙◌, arith}
use Rattle.std.specs.Prelude.{slice_set}
use Rattle.hippo_join_lookups.proofs.SlotLemmas.{length-rows_at}
use Rattle.hippo_join.proofs.VisitingLemmas.{rows-left}
use Rattle.hippo_join.proofs.walking.Walk.leave.Goals as goal

pub set-requires : goal.set-requires
set-requires g c = omega (arith, c.requires.long, c.requires.table, ap length c.requires.rows, length-rows_at c.args.self.now.side.now.sets.now c.args.slots.now)

pub returns-clause-rows : goal.returns-clause-rows
returns-clause-rows g c =
    c.set.ensures ∙ (λ i. slice_set (c.requires.rows i) c.args.table (c.args.self.now.side.now.is_blank i))
    ∙ rows-left c.args.self.now.side.now.sets.now c.args.slots.now c.args.table c.requires.table
