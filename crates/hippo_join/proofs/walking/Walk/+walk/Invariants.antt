-- Fewer stages are left; what qualifies with each place so far was visited, and the rows chosen
-- before are chosen again.
use Rattle.std.proofs.Common.{◌≡◌, ◌+◌, ◌*◌, List, None, length}
use Rattle.std.specs.Prelude.{slice_set}
use Rattle.hippo_model.specs.Terms.{Combination, Place}
use Rattle.hippo_eval.specs.declared.walks.Onward.TheVariants.{More}
use Rattle.hippo_join_stages.specs.Visiting.{Visited}
use Rattle.hippo_join_stages.specs.Walking.{candidate_places}
use Rattle.hippo_join.specs.Walked.{StandAt}
use Rattle.hippo_join.proofs.VisitingLemmas.{Tried}
use Rattle.hippo_join.proofs.walking.Walk.+walk.Given as goal

abbrev pub decreases-walk : goal.decreases-walk
decreases-walk g l = 4 * length l.stages.now

abbrev pub decreases-walk_with : goal.decreases-walk_with
decreases-walk_with g l = 4 * length l.rest.now + 1

abbrev pub decreases-walk_each : goal.decreases-walk_each
decreases-walk_each g l = 4 * length l.rest.now + 2

abbrev pub decreases-walk_through : goal.decreases-walk_through
decreases-walk_through g l = 4 * length l.rest.now + 3

abbrev pub invariant-walk_each-loop-index : goal.invariant-walk_each-loop-index
invariant-walk_each-loop-index g l = record {
  same : slice_set l.slots l.stage.table None ≡ l.initial.slots;
  stand : StandAt l.self.side.now.sets.now l.slots l.rows;
  so_far : (front : List Combination) (before : List (List Place)) → g.V.PlaceVisitor.Keeps l.self.visitor.now l.self.side.now.sets.now front before l.initial.state
      → Visited (Tried (g.C.ChoiceView.choices l.self.side.now.choices.now) l.self.side.now.query.now l.self.side.now.sets.now l.initial.slots l.stage.table (candidate_places l.following) l.index) l.self.in_order (g.V.PlaceVisitor.Keeps l.self.visitor.now l.self.side.now.sets.now front) More before l.state;
}
