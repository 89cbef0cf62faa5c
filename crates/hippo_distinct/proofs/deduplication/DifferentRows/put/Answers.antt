-- A row that was found before, or a new one.
use Rattle.std.proofs.Common.{[], ◌∷◌, ◌++◌, ap, ◌∙◌}
use Rattle.hippo_model.specs.Terms.{ShownRow}
use Rattle.hippo_model.specs.Forms.{distinct_rows}
use Rattle.hippo_distinct.proofs.KeptLemmas.{put_in}
use Rattle.hippo_distinct.proofs.deduplication.DifferentRows.put.Goals as goal

pub returns : goal.returns
returns c found are =
    c.in_ok-self.ensures.keys
    ∙ put_in c.expect_last.new.self.rows.keys found c.replace.result (c.in_ok-expect_last.ensures.0 ∙ are)
    ∙ ap (λ (row : ShownRow). distinct_rows (found ++ row ∷ [])) (c.replace.ensures.value ∙ c.in_ok-expect_last.ensures.1)
