use Rattle.std.proofs.Common.{◌++◌, map, ◌-◌, ◌∙◌, arith}
use Rattle.hippo_drill.specs.Script.{up_to, patient_line, visit_line}
use Rattle.hippo_drill.specs.Kinds.{after_visits}
use Rattle.hippo_drill.proofs.PlaceLemmas.{each, remaining}
use Rattle.hippo_drill.proofs.places.line_after_opening.Goals as goal

pub returns-then-place-each-clause-text : goal.returns-then-place-each-clause-text
returns-then-place-each-clause-text c number =
    let patients = c.args.patients in
    each (patient_line number) (map visit_line (up_to patients) ++ after_visits patients number) patients c.args.place (omega arith)

pub returns-then-place-each-2-clause-text : goal.returns-then-place-each-2-clause-text
returns-then-place-each-2-clause-text c number =
    let patients = c.args.patients in
    let place = c.args.place - c.from-each.result in
    each visit_line (after_visits patients number) patients place (omega arith)
    ∙ remaining (patient_line number) (map visit_line (up_to patients) ++ after_visits patients number) patients c.args.place place (omega arith)

pub returns-clause-text : goal.returns-clause-text
returns-clause-text c number =
    let patients = c.args.patients in
    let place = c.args.place - c.from-each.result in
    c.line_after_visits.ensures.text number
    ∙ (remaining visit_line (after_visits patients number) patients place (place - c.from-each.result) (omega arith)
    ∙ remaining (patient_line number) (map visit_line (up_to patients) ++ after_visits patients number) patients c.args.place place (omega arith))
