-- The row at the place that is found.
use Rattle.std.proofs.Common.{◌∙◌, sym, ap, Option}
use Rattle.std.specs.Prelude.{slice_get, option_map, option_and_then}
use Rattle.hippo_model.specs.declared.born_row.BornRow.{BornRow}
use Rattle.hippo_model.specs.Terms.{Place}
use Rattle.hippo_model.specs.Rows.{key_of}
use Rattle.hippo_watch_counts.proofs.Counting.{found_there}
use Rattle.hippo_watch_counts.proofs.versions.like_in.Goals as goal

pub returns-in-Some : goal.returns-in-Some
returns-in-Some c =
    sym (found_there c.args.rows.now (key_of c.args.rows.now.key c.args.row.now) c.find_like.result c.find_like.ensures.place
    ∙ ap (λ (found : Option Place). option_map (λ (kept : BornRow). kept.row) (option_and_then (slice_get c.args.rows.now.rows) found)) c.in-Some.is ∙ c.row.ensures)

pub returns-in-None : goal.returns-in-None
returns-in-None c =
    sym (found_there c.args.rows.now (key_of c.args.rows.now.key c.args.row.now) c.find_like.result c.find_like.ensures.place
    ∙ ap (λ (found : Option Place). option_map (λ (kept : BornRow). kept.row) (option_and_then (slice_get c.args.rows.now.rows) found)) c.in-None.is)
