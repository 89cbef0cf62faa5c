-- An existing watch ends, or the line is refused.
use Rattle.std.proofs.Common.{rules}
use Rattle.hippo_engine_checks.proofs.FindingLemmas.{refused_unwatch}
use Rattle.hippo_engine_checks.proofs.requests.judge_unwatch.Goals as goal

pub returns : goal.returns
returns g c = λ state. search (rules, refused_unwatch)
