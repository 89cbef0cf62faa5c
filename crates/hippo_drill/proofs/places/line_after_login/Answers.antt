use Rattle.std.proofs.Common.{[], ◌∷◌, ◌-◌, ◌*◌, ◌/◌, sym, ◌∙◌, arith}
use Rattle.hippo_drill.specs.Script.{phone_line, question_line, audit_line}
use Rattle.hippo_drill.proofs.PlaceLemmas.{first_of_turn, second_of_turn, after_turns, after_one}
use Rattle.hippo_drill.proofs.places.line_after_login.Goals as goal

pub returns-then-place-eq0-clause-text : goal.returns-then-place-eq0-clause-text
returns-then-place-eq0-clause-text c number =
    first_of_turn phone_line (question_line number) (audit_line number ∷ []) c.args.patients (c.args.place / 2) c.args.place
    (omega arith) (omega arith)

pub returns-else-place-eq0-clause-text : goal.returns-else-place-eq0-clause-text
returns-else-place-eq0-clause-text c number =
    second_of_turn phone_line (question_line number) (audit_line number ∷ []) c.args.patients (c.args.place / 2) c.args.place
    (omega arith) (omega arith)

pub returns-then-place-from-clause-text : goal.returns-then-place-from-clause-text
returns-then-place-from-clause-text c number =
    after_turns phone_line (question_line number) (audit_line number ∷ []) c.args.patients c.args.place 0 (omega arith)

pub returns-else-place-from-clause-text : goal.returns-else-place-from-clause-text
returns-else-place-from-clause-text c number =
    let beyond = c.args.place - 2 * c.args.patients in
    sym (after_one (audit_line number) beyond (omega arith))
    ∙ after_turns phone_line (question_line number) (audit_line number ∷ []) c.args.patients c.args.place beyond (omega arith)
