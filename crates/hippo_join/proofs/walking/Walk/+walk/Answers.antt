-- The qualifying combinations are visited stage by stage and place by place.
use Rattle.std.proofs.Common.{◌≡◌, suc, List, [], ◌++◌, length, length-set, Option, Some, None, refl, sym, ap, ◌∙◌, arith}
use Rattle.std.specs.Prelude.{slice_set}
use Rattle.std.proofs.lemmas.Bool.{false≢true}
use Rattle.std.proofs.lemmas.List.{set-set}
use Rattle.hippo_model.specs.Terms.{Place}
use Rattle.hippo_join_lookups.specs.Places.{are_there, stays}
use Rattle.hippo_join_lookups.proofs.SlotLemmas.{length-rows_at}
use Rattle.hippo_join_stages.specs.Visiting.{Completes}
use Rattle.hippo_join_stages.specs.Walking.{candidate_places, IsWalkable}
use Rattle.hippo_join_stages.proofs.FindingLemmas.{all-first, open-within, still-open, within-set}
use Rattle.hippo_join.specs.Walked.{join_of}
use Rattle.hippo_join.proofs.VisitingLemmas.{Tried, counts-again, has-at, none-counted, none-left, none-there, next-on, on-again, on-closed, on-same, on-with, visited-none, visited-more, visited-all, visited-enough}
use Rattle.hippo_join.proofs.walking.Walk.+walk.Goals as goal

pub walk-visit_whole-requires : goal.walk-visit_whole-requires
walk-visit_whole-requires g t c = on-same _ c.args.stages.now [] _ _ c.requires (none-counted c.args.stages.now c.in_default.ensures.cases)

pub walk-walk-requires : goal.walk-walk-requires
walk-walk-requires g t c κs within =
    let shorter : length c.args.stages.now ≡ suc (length c.in-Some.rest.now) = ap length c.in-Some.ensures.cases.0 in
    (omega arith, (within.0, (within.1.0, (within.1.1, on-closed _ _ c.in-Some.stage.now _ _ _ c.requires c.in-Some.ensures.cases.0 (sym c.is_open.ensures ∙ c.if-not-is_open.true)))))

pub walk-following-requires-clause-table : goal.walk-following-requires-clause-table
walk-following-requires-clause-table g t c =
    let within = open-within c.args.slots.now c.in-Some.stage.now.table (sym c.is_open.ensures ∙ c.if-not-is_open.false) in
    let long = c.requires.can.long in
    omega (arith, within, long)

pub walk-following-requires-clause-stage : goal.walk-following-requires-clause-stage
walk-following-requires-clause-stage g t c =
    all-first (IsWalkable (g.C.ChoiceView.choices c.args.self.now.side.now.choices.now) c.args.self.now.side.now.query.now c.args.self.now.side.now.sets.now) c.args.stages.now c.in-Some.stage.now c.in-Some.rest.now c.requires.can.walkable c.in-Some.ensures.cases.0

pub walk-listed_places-requires-clause-stage : goal.walk-listed_places-requires-clause-stage
walk-listed_places-requires-clause-stage g t c =
    all-first (IsWalkable (g.C.ChoiceView.choices c.args.self.now.side.now.choices.now) c.args.self.now.side.now.query.now c.args.self.now.side.now.sets.now) c.args.stages.now c.in-Some.stage.now c.in-Some.rest.now c.requires.can.walkable c.in-Some.ensures.cases.0

pub walk-walk_through-requires : goal.walk-walk_through-requires
walk-walk_through-requires g t c κs within =
    let shorter : length c.args.stages.now ≡ suc (length c.in-Some.rest.now) = ap length c.in-Some.ensures.cases.0 in
    let still = sym c.is_open.ensures ∙ c.if-not-is_open.false in
    let listed = c.in-Some-listed_places.ensures in
    (omega arith, (within.0, (within.1.0, (within.1.1, (still, (on-same _ _ _ _ _ c.requires c.in-Some.ensures.cases.0, listed))))))

pub walk-walk_through-requires-2 : goal.walk-walk_through-requires-2
walk-walk_through-requires-2 g t c κs within =
    let shorter : length c.args.stages.now ≡ suc (length c.in-Some.rest.now) = ap length c.in-Some.ensures.cases.0 in
    let still = sym c.is_open.ensures ∙ c.if-not-is_open.false in
    let found = c.in_ok-following.ensures in
    (omega arith, (within.0, (within.1.0, (within.1.1, (still, (on-same _ _ _ _ _ c.requires c.in-Some.ensures.cases.0, found))))))

pub walk_through-all_count-count-requires-clause-table : goal.walk_through-all_count-count-requires-clause-table
walk_through-all_count-count-requires-clause-table g t c =
    let within = open-within c.args.slots.now c.args.stage.now.table c.requires.still in
    let long = c.requires.can.can.long in
    omega (arith, within, long)

pub walk_through-walk_each-requires : goal.walk_through-walk_each-requires
walk_through-walk_each-requires g t c κs within =
    (omega arith, (within.0, (within.1.0, (within.1.1, (c.requires.still, (c.requires.can, c.all_count-count.ensures))))))

pub walk_through-leave-requires-clause-long : goal.walk_through-leave-requires-clause-long
walk_through-leave-requires-clause-long g t c =
    let long = c.requires.can.can.long in
    omega (arith, ap length c.in_ok-onward.ensures.slots, length-set c.walk_each.new.slots c.args.stage.now.table None, length-set c.args.slots.now c.args.stage.now.table None, long)

pub walk_through-leave-requires-clause-table : goal.walk_through-leave-requires-clause-table
walk_through-leave-requires-clause-table g t c =
    let within = open-within c.args.slots.now c.args.stage.now.table c.requires.still in
    omega (arith, within, ap length c.in_ok-onward.ensures.slots, length-set c.walk_each.new.slots c.args.stage.now.table None, length-set c.args.slots.now c.args.stage.now.table None)

pub walk_through-leave-requires-clause-rows : goal.walk_through-leave-requires-clause-rows
walk_through-leave-requires-clause-rows g t c = c.in_ok-onward.ensures.stand.are

pub walk_through-returns : goal.walk_through-returns
walk_through-returns g t c = record {
  slots = c.leave.ensures.slots ∙ c.in_ok-onward.ensures.slots ∙ still-open c.args.slots.now c.args.stage.now.table c.requires.still;
  rows = c.leave.ensures.rows;
  kept = c.in_ok-onward.ensures.kept;
}

pub walk_each-walk_with-requires : goal.walk_each-walk_with-requires
walk_each-walk_with-requires g t c κs within =
    let same = c.loop-index.invariant.same in
    let inside = within-set c.args.slots.now c.loop-index.slots c.args.stage.now.table (open-within c.args.slots.now c.args.stage.now.table c.requires.still) same in
    let choices = g.C.ChoiceView.choices c.args.self.now.side.now.choices.now in
    let some = candidate_places c.args.following.now in
    (omega arith, (within.0, (within.1.0, (within.1.1, (inside, (λ yes. counts-again choices c.args.self.now.side.now.query.now c.args.self.now.side.now.sets.now c.args.slots.now c.loop-index.slots c.args.stage.now.table c.place-place.result same (c.requires.follow.count c.requires.still yes c.place-place.result (has-at some c.loop-index.index c.place-place.result (omega (arith, c.loop-index-test.true, c.len-index-end.ensures)) c.place-place.ensures)), on-again _ c.args.stage.now c.args.rest.now c.args.slots.now c.args.rows.now c.requires.can c.loop-index.slots c.loop-index.rows same c.loop-index.invariant.stand))))))

pub walk_each-loop-index-init : goal.walk_each-loop-index-init
walk_each-loop-index-init g t c =
    let join = join_of g.C.ChoiceView.choices c.args.self.now in
    record {
      same = still-open c.args.slots.now c.args.stage.now.table c.requires.still;
      stand = c.requires.can.stand;
      so_far = λ front before kept.
          visited-none (g.V.PlaceVisitor.Keeps c.args.self.now.visitor.now join.sets front) join.in_order (Tried join.choices join.query join.sets c.args.slots.now c.args.stage.now.table (candidate_places c.args.following.now) 0) before c.args.state.now
          (λ places tried. absurd (omega (arith, tried.lower))) kept;
    }

pub walk_each-loop-index-preserved : goal.walk_each-loop-index-preserved
walk_each-loop-index-preserved g t c =
    let join = join_of g.C.ChoiceView.choices c.args.self.now in
    let next = next-on join c.args.stage.now c.args.rest.now c.args.slots.now c.args.rows.now c.requires.can (candidate_places c.args.following.now) c.requires.still c.requires.follow.reaches c.requires.follow.order in
    record {
      same = c.in_ok-onward.ensures.slots ∙ c.loop-index.invariant.same;
      stand = c.in_ok-onward.ensures.stand;
      so_far = λ front before kept.
          let so_far = c.loop-index.invariant.so_far front before kept in
          visited-more (g.V.PlaceVisitor.Keeps c.args.self.now.visitor.now join.sets front) join.in_order join.choices join.query join.sets c.args.slots.now c.args.stage.now.table (candidate_places c.args.following.now) next
          c.loop-index.index before c.loop-index.state so_far (omega (arith, c.loop-index-test.true, c.len-index-end.ensures)) c.loop-index.slots c.place-place.result c.loop-index.invariant.same c.place-place.ensures
          c.in_ok-onward.onward c.walk_with.new.state (c.in_ok-onward.ensures.kept front (before ++ so_far.all) so_far.kept);
    }

pub walk_each-returns-in-Enough : goal.walk_each-returns-in-Enough
walk_each-returns-in-Enough g t c =
    let join = join_of g.C.ChoiceView.choices c.args.self.now in
    let next = next-on join c.args.stage.now c.args.rest.now c.args.slots.now c.args.rows.now c.requires.can (candidate_places c.args.following.now) c.requires.still c.requires.follow.reaches c.requires.follow.order in
    record {
      slots = c.in_ok-onward.ensures.slots ∙ c.loop-index.invariant.same ∙ sym (still-open c.args.slots.now c.args.stage.now.table c.requires.still);
      stand = c.in_ok-onward.ensures.stand;
      kept = λ front before kept.
          let so_far = c.loop-index.invariant.so_far front before kept in
          visited-enough (g.V.PlaceVisitor.Keeps c.args.self.now.visitor.now join.sets front) join.in_order join.choices join.query join.sets c.args.slots.now c.args.stage.now.table (candidate_places c.args.following.now) next
          c.loop-index.index before c.loop-index.state so_far (omega (arith, c.loop-index-test.true, c.len-index-end.ensures)) c.loop-index.slots c.place-place.result c.loop-index.invariant.same c.place-place.ensures
          c.in_ok-onward.onward c.walk_with.new.state (c.in_ok-onward.ensures.kept front (before ++ so_far.all) so_far.kept) c.in-Enough.is;
    }

pub walk_each-returns : goal.walk_each-returns
walk_each-returns g t c =
    let join = join_of g.C.ChoiceView.choices c.args.self.now in
    let next = next-on join c.args.stage.now c.args.rest.now c.args.slots.now c.args.rows.now c.requires.can (candidate_places c.args.following.now) c.requires.still c.requires.follow.reaches c.requires.follow.order in
    record {
      slots = c.loop-index.invariant.same ∙ sym (still-open c.args.slots.now c.args.stage.now.table c.requires.still);
      stand = c.loop-index.invariant.stand;
      kept = λ front before kept.
          visited-all (g.V.PlaceVisitor.Keeps c.args.self.now.visitor.now join.sets front) join.in_order join.choices join.query join.sets c.args.slots.now c.args.stage.now.table (candidate_places c.args.following.now) next
          c.loop-index.index before c.loop-index.state (c.loop-index.invariant.so_far front before kept) (omega (arith, c.loop-index-test.false, c.len-index-end.ensures));
    }

pub walk_with-get-set-requires : goal.walk_with-get-set-requires
walk_with-get-set-requires g t c =
    let long = c.requires.can.can.long in
    omega (arith, c.requires.table, long)

-- the table has no row at this place
pub walk_with-returns-then-place-len : goal.walk_with-returns-then-place-len
walk_with-returns-then-place-len g t c =
    let join = join_of g.C.ChoiceView.choices c.args.self.now in
    let slots = c.args.slots.now in
    let table = c.args.stage.now.table in
    record {
      slots = refl;
      stand = c.requires.can.stand;
      kept = λ front before kept.
          visited-none (g.V.PlaceVisitor.Keeps c.args.self.now.visitor.now join.sets front) join.in_order (Completes join.choices join.query join.sets (slice_set slots table (Some c.args.place))) before c.args.state.now
          (none-there join.choices join.query join.sets slots table c.args.place c.get-set.result.now c.requires.table c.get-set.ensures (omega (arith, c.if-place-len.true, c.len.ensures.rows))) kept;
    }

pub walk_with-set-requires : goal.walk_with-set-requires
walk_with-set-requires g t c =
    let sets = c.args.self.now.side.now.sets.now in
    let long = c.requires.can.can.long in
    omega (arith, c.requires.table, long, ap length c.requires.can.stand.are, length-rows_at sets c.args.slots.now)

-- the row is chosen: continue along the other stages
pub walk_with-visit_last-requires-clause-can : goal.walk_with-visit_last-requires-clause-can
walk_with-visit_last-requires-clause-can g t c =
    let on = on-with (join_of g.C.ChoiceView.choices c.args.self.now) c.args.stage.now c.args.rest.now c.args.slots.now c.args.rows.now c.requires.can c.args.place c.get-set.result.now c.born_row-kept.result.now c.set.new.self c.requires.table c.get-set.ensures (omega (arith, c.if-place-len.false, c.len.ensures.rows)) c.born_row-kept.ensures c.set.ensures in
    on-same _ c.args.rest.now [] _ _ on (none-left c.args.rest.now (sym c.is_empty.ensures ∙ c.if-is_empty.true))

pub walk_with-visit_last-requires-clause-counts : goal.walk_with-visit_last-requires-clause-counts
walk_with-visit_last-requires-clause-counts g t c sure =
    let on = on-with (join_of g.C.ChoiceView.choices c.args.self.now) c.args.stage.now c.args.rest.now c.args.slots.now c.args.rows.now c.requires.can c.args.place c.get-set.result.now c.born_row-kept.result.now c.set.new.self c.requires.table c.get-set.ensures (omega (arith, c.if-place-len.false, c.len.ensures.rows)) c.born_row-kept.ensures c.set.ensures in
    ap (stays (g.C.ChoiceView.choices c.args.self.now.side.now.choices.now) c.args.self.now.side.now.query.now) on.stand.are
    ∙ c.requires.counts sure c.get-set.result.now c.get-set.ensures (omega (arith, c.if-place-len.false, c.len.ensures.rows))

pub walk_with-returns-then-is_empty : goal.walk_with-returns-then-is_empty
walk_with-returns-then-is_empty g t c =
    let on = on-with (join_of g.C.ChoiceView.choices c.args.self.now) c.args.stage.now c.args.rest.now c.args.slots.now c.args.rows.now c.requires.can c.args.place c.get-set.result.now c.born_row-kept.result.now c.set.new.self c.requires.table c.get-set.ensures (omega (arith, c.if-place-len.false, c.len.ensures.rows)) c.born_row-kept.ensures c.set.ensures in
    record {
      slots = set-set c.args.slots.now c.args.stage.now.table (Some c.args.place) None;
      stand = on.stand;
      kept = c.in_ok-whole.ensures.kept;
    }

pub walk_with-tests_hold-requires : goal.walk_with-tests_hold-requires
walk_with-tests_hold-requires g t c =
    let on = on-with (join_of g.C.ChoiceView.choices c.args.self.now) c.args.stage.now c.args.rest.now c.args.slots.now c.args.rows.now c.requires.can c.args.place c.get-set.result.now c.born_row-kept.result.now c.set.new.self c.requires.table c.get-set.ensures (omega (arith, c.if-place-len.false, c.len.ensures.rows)) c.born_row-kept.ensures c.set.ensures in
    on.stand.are

pub walk_with-returns-then-not-tests_hold : goal.walk_with-returns-then-not-tests_hold
walk_with-returns-then-not-tests_hold g t c =
    let join = join_of g.C.ChoiceView.choices c.args.self.now in
    let on = on-with (join_of g.C.ChoiceView.choices c.args.self.now) c.args.stage.now c.args.rest.now c.args.slots.now c.args.rows.now c.requires.can c.args.place c.get-set.result.now c.born_row-kept.result.now c.set.new.self c.requires.table c.get-set.ensures (omega (arith, c.if-place-len.false, c.len.ensures.rows)) c.born_row-kept.ensures c.set.ensures in
    record {
      slots = set-set c.args.slots.now c.args.stage.now.table (Some c.args.place) None;
      stand = on.stand;
      kept = λ front before kept.
          visited-none (g.V.PlaceVisitor.Keeps c.args.self.now.visitor.now join.sets front) join.in_order (Completes join.choices join.query join.sets (slice_set c.args.slots.now c.args.stage.now.table (Some c.args.place))) before c.args.state.now
          (λ places is. false≢true (sym c.if-not-tests_hold.true ∙ c.tests_hold.ensures places is.0 is.1)) kept;
    }

pub walk_with-walk-requires : goal.walk_with-walk-requires
walk_with-walk-requires g t c κs within =
    let on = on-with (join_of g.C.ChoiceView.choices c.args.self.now) c.args.stage.now c.args.rest.now c.args.slots.now c.args.rows.now c.requires.can c.args.place c.get-set.result.now c.born_row-kept.result.now c.set.new.self c.requires.table c.get-set.ensures (omega (arith, c.if-place-len.false, c.len.ensures.rows)) c.born_row-kept.ensures c.set.ensures in
    (omega arith, (within.0, (within.1.0, (within.1.1, on))))

pub walk_with-returns : goal.walk_with-returns
walk_with-returns g t c =
    let on = on-with (join_of g.C.ChoiceView.choices c.args.self.now) c.args.stage.now c.args.rest.now c.args.slots.now c.args.rows.now c.requires.can c.args.place c.get-set.result.now c.born_row-kept.result.now c.set.new.self c.requires.table c.get-set.ensures (omega (arith, c.if-place-len.false, c.len.ensures.rows)) c.born_row-kept.ensures c.set.ensures in
    record {
      slots = ap (λ (slots : List (Option Place)). slice_set slots c.args.stage.now.table None) c.in_ok-onward.ensures.slots ∙ set-set c.args.slots.now c.args.stage.now.table (Some c.args.place) None;
      stand = record { there = ap (are_there c.args.self.now.side.now.sets.now) c.in_ok-onward.ensures.slots ∙ on.stand.there; are = c.in_ok-onward.ensures.rows };
      kept = c.in_ok-onward.ensures.kept;
    }
