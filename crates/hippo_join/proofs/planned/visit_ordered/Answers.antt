-- All that qualifies is found, or more than the limit.
use Rattle.std.proofs.Common.{◌≡◌, true, []}
use Rattle.std.proofs.lemmas.Bool.{false≢true}
use Rattle.hippo_eval.specs.declared.answers.TheConstants.{ANSWER_LIMIT}
use Rattle.hippo_join_lookups.specs.Places.{stands}
use Rattle.hippo_join_stages.proofs.FindingLemmas.{found-are, found-none}
use Rattle.hippo_join.proofs.planned.visit_ordered.Goals as goal

pub walk_all-requires-clause-rises : goal.walk_all-requires-clause-rises
walk_all-requires-clause-rises g c = λ asked. absurd (false≢true asked)

pub visit_found-requires : goal.visit_found-requires
visit_found-requires g c =
    let visited = c.in-Ok.ensures [] [] (found-none ANSWER_LIMIT c.new-found.result.keys c.new-found.ensures.empty) in
    found-are (λ places. stands (g.C.ChoiceView.choices c.args.side.now.choices.now) c.args.side.now.query.now c.args.side.now.sets.now places ≡ true) ANSWER_LIMIT visited.all c.walk_all.new.state.keys visited.are.sound visited.are.whole visited.kept
