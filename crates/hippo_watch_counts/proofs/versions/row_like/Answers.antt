-- The row with the same key as this one, among the table's rows.
use Rattle.std.proofs.Common.{◌∙◌}
use Rattle.hippo_watch_counts.proofs.Counting.{like_there}
use Rattle.hippo_watch_counts.proofs.versions.row_like.Goals as goal

pub returns-in-Some : goal.returns-in-Some
returns-in-Some c = λ history stands.
    c.like_in.ensures ∙ like_there history c.args.table.now c.args.row.now c.in-Some.rows.now (c.in-Some.ensures history stands)
