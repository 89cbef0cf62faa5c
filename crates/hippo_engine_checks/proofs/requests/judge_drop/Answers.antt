-- An existing job ends, or the line is refused.
use Rattle.std.proofs.Common.{rules}
use Rattle.hippo_engine_checks.proofs.FindingLemmas.{may_drop, refused_drop}
use Rattle.hippo_engine_checks.proofs.requests.judge_drop.Goals as goal

pub returns : goal.returns
returns g c = λ state. search (rules, may_drop, refused_drop)
