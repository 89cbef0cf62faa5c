-- An existing job takes a step, or the line is refused.
use Rattle.std.proofs.Common.{rules}
use Rattle.hippo_engine_checks.proofs.FindingLemmas.{may_step, refused_step}
use Rattle.hippo_engine_checks.proofs.requests.judge_step.Goals as goal

pub returns : goal.returns
returns g c = λ state. search (rules, may_step, refused_step)
