-- Rows within the bound are on its side of the end.
use Rattle.std.proofs.Common.{◌∷◌, ◌++◌, [], ap, sym, ◌∙◌, Bool}
use Rattle.hippo_tables_rows.specs.Ranges.{stands_low}
use Rattle.hippo_tables_rows.proofs.RangeLemmas.{bounded-edge}
use Rattle.hippo_join_stages.proofs.ranges.bounded_edge.Goals as goal

pub returns : goal.returns
returns c =
    let set = c.args.set.now in
    let front = c.args.front.now in
    let bound = c.args.bound in
    let pushed = c.as_slice.ensures ∙ c.in_ok-push.ensures.ok ∙ (λ i. c.in_ok-values.ensures i ++ c.in_ok-copy.ensures i ∷ []) in
    bounded-edge set front c.as_slice.result.now c.args.column c.args.above bound c.split.result c.requires pushed
    (λ place within. ap (λ (past : Bool). stands_low set c.as_slice.result.now past place) (sym c.is_past.ensures) ∙ c.split.ensures.parted place within)
