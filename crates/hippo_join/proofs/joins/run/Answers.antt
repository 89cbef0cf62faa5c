-- The visit begins with no row, and visits the combinations of the answer.
use Rattle.std.proofs.Common.{◌≡◌, [], List, subst}
use Rattle.hippo_model.specs.Terms.{ShownRow}
use Rattle.hippo_eval.specs.declared.answers.TheConstants.{ANSWER_LIMIT}
use Rattle.hippo_eval.specs.Gathering.{IsGathered}
use Rattle.hippo_eval.proofs.FoundLemmas.{gathered-none}
use Rattle.hippo_join.proofs.GatheringLemmas.{counted-answer}
use Rattle.hippo_join.proofs.PlannedLemmas.{not-answered}
use Rattle.hippo_join.proofs.joins.run.Goals as goal

pub returns-in-Ok : goal.returns-in-Ok
returns-in-Ok g c =
    let counted = c.in-Ok.ensures [] (gathered-none (λ found rows. rows ≡ found) (λ found. found) ANSWER_LIMIT c.start-rows.result c.start-rows.ensures) in
    c.answered.ensures _
    (subst (λ (found : List ShownRow). IsGathered (λ found rows. rows ≡ found) (λ found. found) ANSWER_LIMIT found c.visit_planned.new.state) (counted-answer (g.C.ChoiceView.choices c.args.choices.now) c.args.query.now c.args.sets.now) counted)

pub returns-in-Err : goal.returns-in-Err
returns-in-Err g c =
    not-answered (g.C.ChoiceView.choices c.args.choices.now) c.args.query.now c.args.sets.now ANSWER_LIMIT c.in-Err.fault
    (c.in-Err.ensures [] (gathered-none (λ found rows. rows ≡ found) (λ found. found) ANSWER_LIMIT c.start-rows.result c.start-rows.ensures))
