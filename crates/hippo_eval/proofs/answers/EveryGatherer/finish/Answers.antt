-- More rows do not make the answer shorter.
use Rattle.std.proofs.Common.{◌≡◌, length, ap, arith}
use Rattle.std.proofs.lemmas.List.{length-append}
use Rattle.hippo_eval.proofs.answers.EveryGatherer.finish.Goals as goal

pub returns : goal.returns
returns c found held = record {
  rows_are = held;
  not_fewer = λ later. let same : length c.args.rows ≡ length found = ap length held in omega (arith, same, length-append found later);
}
