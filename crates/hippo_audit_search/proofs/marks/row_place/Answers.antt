-- The row's key is looked up in its table.
use Rattle.std.proofs.Common.{◌∙◌}
use Rattle.hippo_audit_search.proofs.MarkLemmas.{row_place-is}
use Rattle.hippo_audit_search.proofs.marks.row_place.Goals as goal

pub returns : goal.returns
returns c = c.unwrap_or.ensures ∙ row_place-is c.args.sets.now c.args.rows.now c.args.table c.get.result.now c.row.result.now c.get.ensures c.row.ensures c.find_like.result c.find_like.ensures.place
