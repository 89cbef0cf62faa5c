-- The stages so far are those of the first tables.
use Rattle.std.proofs.Common.{◌≡◌, length, take}
use Rattle.hippo_join_stages.specs.Walking.{AreWalkable}
use Rattle.hippo_join_stages.proofs.sides.Side.stages_after.Given as goal

abbrev pub invariant-loop-table : goal.invariant-loop-table
invariant-loop-table g l = record {
  long : length l.slots.items ≡ length l.self.sets.now;
  so_far : AreWalkable (g.C.ChoiceView.choices l.self.choices.now) l.self.query.now l.self.sets.now l.lists (take l.table-index l.order) l.stages.items;
}
