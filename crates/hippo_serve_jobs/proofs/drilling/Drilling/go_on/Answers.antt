use Rattle.std.proofs.Common.{◌≡◌, ◌++◌, true, ap, ◌∙◌, Ok}
use Rattle.hippo_values.specs.Texts.{Txt}
use Rattle.hippo_drill.specs.Scripting.{HandsOutLine}
use Rattle.hippo_serve_jobs.proofs.DrillLemmas.{drilled_more}
use Rattle.hippo_serve_jobs.proofs.drilling.Drilling.go_on.Goals as goal

pub returns-clause-drilled : goal.returns-clause-drilled
returns-clause-drilled g c size number drilled =
    let handed : HandsOutLine (Ok true) c.args.self.now.left c.next_line.new.self c.new-line.result c.next_line.new.out =
    rw c.if-not-branch.false at c.in_ok-next_line.ensures.hands_out in
    let said : c.as_str.result.now ≡ handed.0 =
    c.as_str.ensures ∙ (handed.2 ∙ ap (λ (text : Txt). text ++ handed.0) c.new-line.ensures) in
    drilled_more size number c.args.self.now _ handed.0 c.as_str.result.now c.reply.result.now drilled handed.1 said c.reply.ensures
    c.in_ok-answer.ensures.done c.in_ok-self.ensures
