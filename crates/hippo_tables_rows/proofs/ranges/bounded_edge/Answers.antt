-- Rows within the bound are on its side of the end.
use Rattle.std.proofs.Common.{[], ap, sym, ◌∙◌, Bool}
use Rattle.hippo_tables_rows.specs.Ranges.{stands_low}
use Rattle.hippo_tables_rows.proofs.RangeLemmas.{bounded-edge}
use Rattle.hippo_tables_rows.proofs.ranges.bounded_edge.Goals as goal

pub returns-clause-edge : goal.returns-clause-edge
returns-clause-edge c =
    let set = c.args.set.now in
    bounded-edge set [] c.from_ref.result.now c.args.column c.args.above c.args.bound c.split.result c.requires c.from_ref.ensures.value
    (λ place within. ap (λ (past : Bool). stands_low set c.from_ref.result.now past place) (sym c.is_past.ensures) ∙ c.split.ensures.parted place within)
