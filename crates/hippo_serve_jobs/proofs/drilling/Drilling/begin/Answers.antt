use Rattle.std.proofs.Common.{◌≡◌, ap, ◌∙◌, ℕ}
use Rattle.hippo_drill.specs.Script.{script}
use Rattle.hippo_serve_jobs.proofs.DrillLemmas.{drilled_none, at_work_none}
use Rattle.hippo_serve_jobs.proofs.drilling.Drilling.begin.Goals as goal

pub returns-clause-drilled : goal.returns-clause-drilled
returns-clause-drilled c =
    let left : c.new.result ≡ script c.args.size c.args.number =
    c.new.ensures ∙ (ap (λ (s : ℕ). script s c.from-2.result) c.from.ensures ∙ ap (λ (n : ℕ). script c.args.size n) c.from-2.ensures) in
    drilled_none c.args.size c.args.number _ left c.in_ok-engine.ensures.world c.in_ok-engine.ensures.stands c.in_ok-keeper.ensures.empty c.new-2.ensures

pub returns-clause-at_work : goal.returns-clause-at_work
returns-clause-at_work c =
    at_work_none c.in_ok-engine.engine c.in_ok-keeper.keeper c.in_ok-engine.ensures.stands c.in_ok-keeper.ensures.empty c.in_ok-engine.ensures.world c.in_ok-keeper.ensures.ready
