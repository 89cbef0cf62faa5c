-- The row's entry already exists, or it replaces that of the other row.
use Rattle.std.proofs.Common.{sym, subst, ◌∙◌}
use Rattle.hippo_tables_keyed.specs.RowSets.{with_row}
use Rattle.hippo_tables_rows.specs.ColumnOrders.{AreOrderKeysOf}
use Rattle.hippo_tables_rows.proofs.EntryLemmas.{OnOk-weaker, stays-at, replaced-at}
use Rattle.hippo_tables_rows.proofs.column_order.replace.Goals as goal

pub returns-then-is_alike : goal.returns-then-is_alike
returns-then-is_alike c are =
    let alike = rw (c.as_slice-old.ensures, c.as_slice.ensures) at (sym c.is_alike.ensures ∙ c.if-is_alike.true) in
    stays-at c.args.column c.args.set.now c.args.entries.now c.args.row.now c.args.born c.args.place c.row.result.now are c.requires.found c.row.ensures alike

pub returns : goal.returns
returns c are =
    let left = rw (c.as_slice-old.ensures, c.as_slice-key.ensures, c.key.ensures) at c.in_ok-leave.ensures in
    let entered = rw (c.as_slice-2.ensures, c.as_slice-key.ensures, c.key.ensures, left) at c.enter.ensures in
    OnOk-weaker _ _ c.enter.result (λ is. subst (AreOrderKeysOf c.args.column (with_row (record { row = c.args.row.now; born = c.args.born }) c.args.set.now)) (sym is)
    (replaced-at c.args.column c.args.set.now c.args.entries.now c.args.row.now c.args.born c.args.place c.row.result.now are c.requires.found c.row.ensures)) entered
