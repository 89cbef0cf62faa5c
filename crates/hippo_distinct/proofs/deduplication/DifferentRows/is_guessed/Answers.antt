-- The row at the guessed place is compared.
use Rattle.std.proofs.Common.{[], ◌∷◌, ◌++◌, sym, ap, ◌∙◌}
use Rattle.hippo_model.specs.Terms.{ShownRow}
use Rattle.hippo_model.specs.Forms.{distinct_rows}
use Rattle.hippo_distinct.proofs.KeptLemmas.{stands_at}
use Rattle.hippo_distinct.proofs.deduplication.DifferentRows.is_guessed.Goals as goal

pub returns-in-Some-get_index : goal.returns-in-Some-get_index
returns-in-Some-get_index g c found are same =
    stands_at c.args.self.now.rows.keys found c.place.result c.in-Some-get_index.row.now are (sym c.in-Some-get_index.ensures.key)
    ∙ ap (λ (row : ShownRow). distinct_rows (found ++ row ∷ [])) (c.is_row.ensures same)
