-- One more table.
use Rattle.std.proofs.Common.{ap, sym, ◌∙◌, List, ℕ, [], ◌∷◌, ◌++◌}
use Rattle.hippo_join.proofs.OrderLemmas.{range-more}
use Rattle.hippo_join.proofs.orders.tables_below.Goals as goal

pub loop-table-preserved : goal.loop-table-preserved
loop-table-preserved c = c.in_ok-push.ensures.items ∙ ap (λ (l : List ℕ). l ++ c.loop-table.table ∷ []) c.loop-table.invariant ∙ sym (range-more c.loop-table.table)
