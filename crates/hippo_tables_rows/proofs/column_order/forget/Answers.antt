-- The entry of the removed row is removed, if there is one.
use Rattle.std.proofs.Common.{sym, subst}
use Rattle.hippo_tables_keyed.specs.RowSets.{without_row}
use Rattle.hippo_tables_rows.specs.ColumnOrders.{AreOrderKeysOf}
use Rattle.hippo_tables_rows.proofs.EntryLemmas.{OnOk-weaker, forgotten-none, forgotten-at}
use Rattle.hippo_tables_rows.proofs.column_order.forget.Goals as goal

pub returns-in-None : goal.returns-in-None
returns-in-None c are = forgotten-none c.args.column c.args.set.now c.args.entries.now are c.find.ensures.order c.args.key.now

pub returns-in-Some : goal.returns-in-Some
returns-in-Some c are =
    let left = rw (c.as_slice.ensures, c.as_slice-in-Some.ensures, c.key.ensures) at c.leave.ensures in
    OnOk-weaker _ _ c.leave.result (λ is. subst (AreOrderKeysOf c.args.column (without_row c.args.key.now c.args.set.now)) (sym is)
    (forgotten-at c.args.column c.args.set.now c.args.entries.now c.args.key.now c.in-Some.place c.row.result.now are c.find.ensures.order (sym c.in-Some.ensures.place) c.row.ensures)) left
