-- One more combination, with everything that can follow it.
use Rattle.std.proofs.Common.{length, map, Some, [], ap, ◌∙◌}
use Rattle.hippo_join_lookups.specs.Places.{chosen_rows}
use Rattle.hippo_join_lookups.proofs.SlotLemmas.{length-rows_at}
use Rattle.hippo_join.proofs.PlannedLemmas.{told-none, told-more, told-all, told-enough}
use Rattle.hippo_join.proofs.planned.visit_each.Goals as goal

pub loop-places-init : goal.loop-places-init
loop-places-init g c = (
  ap length c.in_ok-rows.ensures ∙ length-rows_at c.args.side.now.sets.now [],
  told-none (g.V.Visitor.Keeps c.args.visitor.now) (chosen_rows c.args.side.now.sets.now) c.args.found.now.keys c.into_iter-places-iterator.result c.args.state.now c.into_iter-places-iterator.ensures.into_iter_gives.0,
)

pub choose-requires : goal.choose-requires
choose-requires g c = c.loop-places.invariant.0

pub returns-in-Enough : goal.returns-in-Enough
returns-in-Enough g c =
    told-enough (g.V.Visitor.Keeps c.args.visitor.now) (chosen_rows c.args.side.now.sets.now) c.args.found.now.keys c.loop-places.places-iterator c.args.state.now c.loop-places.state c.loop-places.invariant.1
    c.in-Some.places.now c.next.new.self c.choose.new.rows c.visit.new.state c.in-Some.ensures.steps (c.choose.ensures ∙ ap (chosen_rows c.args.side.now.sets.now) c.as_slice.ensures)
    (λ before kept. rw c.in-Enough.is at (c.in_ok-onward.ensures before kept))

pub loop-places-preserved : goal.loop-places-preserved
loop-places-preserved g c = (
  ap length c.choose.ensures ∙ length-rows_at c.args.side.now.sets.now (map Some c.as_slice.result.now),
  told-more (g.V.Visitor.Keeps c.args.visitor.now) (chosen_rows c.args.side.now.sets.now) c.args.found.now.keys c.loop-places.places-iterator c.args.state.now c.loop-places.state c.loop-places.invariant.1
      c.in-Some.places.now c.next.new.self c.choose.new.rows c.visit.new.state c.in-Some.ensures.steps (c.choose.ensures ∙ ap (chosen_rows c.args.side.now.sets.now) c.as_slice.ensures)
      c.in_ok-onward.onward c.in_ok-onward.ensures,
)

pub returns : goal.returns
returns g c =
    told-all (g.V.Visitor.Keeps c.args.visitor.now) (chosen_rows c.args.side.now.sets.now) c.args.found.now.keys c.loop-places.places-iterator c.args.state.now c.loop-places.state c.loop-places.invariant.1
    c.in-None.ensures.steps.0
