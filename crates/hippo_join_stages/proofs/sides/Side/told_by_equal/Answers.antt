-- The column is on either side of the equality.
use Rattle.std.proofs.lemmas.Option.{IfSome_then}
use Rattle.hippo_join_stages.proofs.KeyLemmas.{told-left, told-right}
use Rattle.hippo_join_stages.proofs.sides.Side.told_by_equal.Goals as goal

pub returns-then-shows_column : goal.returns-then-shows_column
returns-then-shows_column g c =
    IfSome_then c.shown_value.result c.shown_value.ensures (λ value shown. told-left (g.C.ChoiceView.choices c.args.self.now.choices.now) c.args.self.now.sets.now c.args.slots.now c.args.left.now c.args.right.now c.args.column value.now (c.shows_column.ensures c.if-shows_column.true) shown)

pub returns-then-shows_column-2 : goal.returns-then-shows_column-2
returns-then-shows_column-2 g c =
    IfSome_then c.shown_value-then-shows_column-2.result c.shown_value-then-shows_column-2.ensures (λ value shown. told-right (g.C.ChoiceView.choices c.args.self.now.choices.now) c.args.self.now.sets.now c.args.slots.now c.args.left.now c.args.right.now c.args.column value.now (c.shows_column-else-shows_column.ensures c.if-shows_column-2.true) shown)
