-- The different rows of the beginning of a list come first.
use Rattle.std.proofs.Common.{◌≡◌, length, ap, arith, ◌++◌, ◌∙◌}
use Rattle.std.proofs.lemmas.List.{length-append}
use Rattle.hippo_model.specs.Forms.{distinct_rows}
use Rattle.hippo_distinct.proofs.DifferentLemmas.{distinct_rows-append}
use Rattle.hippo_distinct.proofs.deduplication.DifferentGatherer.finish.Goals as goal

pub returns : goal.returns
returns c found held =
    let are = c.from_vec.ensures ∙ c.in_ok-listed.ensures ∙ held in record {
      rows_are = are;
      not_fewer = λ later.
          let whole = distinct_rows-append later found in
          let same : length c.from_vec.result ≡ length (distinct_rows found) = ap length are in
          let more : length (distinct_rows (found ++ later)) ≡ length (distinct_rows found ++ whole.0) = ap length whole.1 in
          omega (arith, same, more, length-append (distinct_rows found) whole.0);
    }
