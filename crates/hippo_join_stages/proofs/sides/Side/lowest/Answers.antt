-- A value with a bound is not null.
use Rattle.hippo_model.specs.Masking.{raw_value}
use Rattle.hippo_join_lookups.specs.Places.{chosen_rows}
use Rattle.hippo_join_stages.proofs.sides.Side.lowest.Goals as goal

pub returns-in-Some : goal.returns-in-Some
returns-in-Some g c = λ places fits all.
    let own = c.in-Some.ensures places fits all in
    (c.above_null.ensures (raw_value (chosen_rows c.args.self.now.sets.now places) c.args.column) own.1 own.0, own.1)

pub returns-in-Some-told_end : goal.returns-in-Some-told_end
returns-in-Some-told_end g c = λ places fits all.
    let own = c.in-Some-told_end.ensures places fits all in
    (c.over_null.ensures (raw_value (chosen_rows c.args.self.now.sets.now places) c.args.column) own.1, own.1)
