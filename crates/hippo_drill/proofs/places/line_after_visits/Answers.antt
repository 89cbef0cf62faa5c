use Rattle.std.proofs.Common.{◌∷◌, suc, ◌-◌, ◌*◌, ◌/◌, ◌∙◌, arith}
use Rattle.hippo_drill.specs.Script.{choice_line, login_line}
use Rattle.hippo_drill.specs.Kinds.{after_login}
use Rattle.hippo_drill.proofs.PlaceLemmas.{each, remaining}
use Rattle.hippo_drill.proofs.places.line_after_visits.Goals as goal

pub returns-then-place-choices-clause-text : goal.returns-then-place-choices-clause-text
returns-then-place-choices-clause-text c number =
    each (λ k. choice_line (10 * k)) (login_line ∷ after_login c.args.patients number) (c.args.patients / 10) c.args.place (omega arith)

pub returns-then-place-choices-2-clause-text : goal.returns-then-place-choices-2-clause-text
returns-then-place-choices-2-clause-text c number =
    remaining (λ k. choice_line (10 * k)) (login_line ∷ after_login c.args.patients number) (c.args.patients / 10) c.args.place 0 (omega arith)

pub returns-clause-text : goal.returns-clause-text
returns-clause-text c number =
    c.line_after_login.ensures.text number
    ∙ remaining (λ k. choice_line (10 * k)) (login_line ∷ after_login c.args.patients number) (c.args.patients / 10) c.args.place
    (suc (c.args.place - c.from-choices.result - 1)) (omega arith)
