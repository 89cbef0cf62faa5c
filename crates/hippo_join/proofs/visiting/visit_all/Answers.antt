-- All tables, in the order of FROM.
use Rattle.std.proofs.Common.{◌≡◌, true, List, [], ◌++◌, map, length, sym, ap, subst, ◌∙◌}
use Rattle.std.specs.List.{range_with_len}
use Rattle.std.proofs.lemmas.List.{append-nil}
use Rattle.hippo_model.specs.Terms.{Combination, Place}
use Rattle.hippo_eval.specs.declared.walks.Onward.TheVariants.{More}
use Rattle.hippo_eval.specs.Walks.{rows_of}
use Rattle.hippo_model.specs.Answers.{product}
use Rattle.hippo_join_lookups.specs.Places.{chosen_rows, stands}
use Rattle.hippo_join_stages.specs.Visiting.{counting, Visited}
use Rattle.hippo_join_stages.proofs.FoundLemmas.{rows-in-order}
use Rattle.hippo_join_lookups.proofs.PlaceSteps.{ok-then}
use Rattle.hippo_join.proofs.VisitingLemmas.{below-all, whole-all, rises-all}
use Rattle.hippo_join.proofs.visiting.visit_all.Goals as goal

pub walk_all-requires-clause-below : goal.walk_all-requires-clause-below
walk_all-requires-clause-below g c = below-all (length c.args.side.now.sets.now) c.deref.result.now (c.deref.ensures.value ∙ c.in_ok-order.ensures ∙ ap (λ n. range_with_len 0 n) c.len.ensures)

pub walk_all-requires-clause-whole : goal.walk_all-requires-clause-whole
walk_all-requires-clause-whole g c = whole-all (length c.args.side.now.sets.now) c.deref.result.now (c.deref.ensures.value ∙ c.in_ok-order.ensures ∙ ap (λ n. range_with_len 0 n) c.len.ensures)

pub walk_all-requires-clause-rises : goal.walk_all-requires-clause-rises
walk_all-requires-clause-rises g c = λ asked. rises-all (length c.args.side.now.sets.now) c.deref.result.now (c.deref.ensures.value ∙ c.in_ok-order.ensures ∙ ap (λ n. range_with_len 0 n) c.len.ensures)

pub returns : goal.returns
returns g c before kept =
    let keeps = g.V.Visitor.Keeps c.args.visitor.now in
    let sets = c.args.side.now.sets.now in
    let held : List Combination → List (List Place) → _ = λ front visited. keeps (front ++ map (chosen_rows sets) visited) in
    ok-then (λ _. Visited (λ places. stands (g.C.ChoiceView.choices c.args.side.now.choices.now) c.args.side.now.query.now sets places ≡ true) true (held before) More [] c.walk_all.new.state)
    (λ _. keeps (before ++ counting (g.C.ChoiceView.choices c.args.side.now.choices.now) c.args.side.now.query.now (product (rows_of sets))) c.walk_all.new.state) c.walk_all.result
    (c.walk_all.ensures before [] (subst (λ (some : List Combination). keeps some c.args.state.now) (sym (append-nil before)) kept))
    (λ _ visited. subst (λ (some : List Combination). keeps (before ++ some) c.walk_all.new.state) (rows-in-order (g.C.ChoiceView.choices c.args.side.now.choices.now) c.args.side.now.query.now sets visited.all visited.are) visited.kept)
