-- The row's key is new, and so is its entry.
use Rattle.std.proofs.Common.{sym, subst}
use Rattle.hippo_tables_rows.specs.ColumnOrders.{AreReadyFor}
use Rattle.hippo_tables_rows.proofs.EntryLemmas.{OnOk-weaker, ready-new}
use Rattle.hippo_tables_rows.proofs.column_order.prepare.Goals as goal

pub returns-in-None : goal.returns-in-None
returns-in-None c are =
    let entered = rw (c.as_slice.ensures, c.as_slice-key.ensures, c.key.ensures) at c.enter.ensures in
    OnOk-weaker _ _ c.enter.result (λ is. subst (AreReadyFor c.args.column (record { row = c.args.row.now; born = c.args.born }) c.args.set.now) (sym is)
    (ready-new c.args.column c.args.set.now c.args.entries.now are c.args.row.now c.args.born)) entered
