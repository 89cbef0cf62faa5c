-- The values so far are those of the first columns.
use Rattle.std.proofs.Common.{◌≡◌, length, take}
use Rattle.hippo_model.specs.Conditions.{outer_parts}
use Rattle.hippo_join_stages.specs.Keys.{IsKeyTold}
use Rattle.hippo_join_stages.proofs.sides.Side.told_front.Given as goal

abbrev pub invariant-loop-column : goal.invariant-loop-column
invariant-loop-column g l = record {
  long : length l.front ≡ l.column-index;
  told : IsKeyTold (g.C.ChoiceView.choices l.self.choices.now) l.self.sets.now l.slots (outer_parts l.self.query.now.cond) l.table (take l.column-index l.columns) l.front;
}
