use Rattle.std.proofs.Common.{ap}
use Rattle.hippo_model.specs.Forms.{rows_by_form}
use Rattle.hippo_rewrite.proofs.RulesInForce.{rewritten_answer-raw}
use Rattle.hippo_rewrite.proofs.laws.rewriting_answers.Goals as goal

pub returns : goal.returns
returns c = λ meaning history context query schemas has.
    let raw = rewritten_answer-raw meaning history context query schemas has in
    (raw, ap (rows_by_form query.form) raw)
