-- The visit begins without lines.
use Rattle.std.proofs.Common.{List, [], refl, subst}
use Rattle.hippo_model.specs.Terms.{ShownRow}
use Rattle.hippo_eval.specs.declared.answers.TheConstants.{ANSWER_LIMIT}
use Rattle.hippo_eval.specs.Gathering.{IsGathered}
use Rattle.hippo_join.proofs.GatheringLemmas.{counted-answer}
use Rattle.hippo_eval_answer.specs.Lines.{AreLinesOf}
use Rattle.hippo_eval_answer.proofs.LineLemmas.{not_said}
use Rattle.hippo_eval_answer.proofs.lines.printed_lines.Goals as goal

pub returns-in-Ok : goal.returns-in-Ok
returns-in-Ok c =
    let counted = c.in-Ok.ensures [] (record { front = []; later = []; is = refl; holds = c.in_ok-lines.ensures c.args.session; whole = λ few. refl }) in
    c.within_limit.ensures c.args.session _
    (subst (λ (found : List ShownRow). IsGathered (AreLinesOf c.args.session) (λ rows. rows) ANSWER_LIMIT found c.visit_rows.new.state)
    (counted-answer _ c.args.inquiry.now.query.now c.args.inquiry.now.sets) counted)

pub returns : goal.returns
returns c =
    not_said _ c.args.inquiry.now.query.now c.args.inquiry.now.sets ANSWER_LIMIT c.args.session c.in-Err.fault
    (c.in-Err.ensures [] (record { front = []; later = []; is = refl; holds = c.in_ok-lines.ensures c.args.session; whole = λ few. refl }))
