-- One more column.
use Rattle.std.proofs.Common.{◌≡◌, ◌∙◌, sym, ℕ, take}
use Rattle.std.proofs.lemmas.List.{map_more}
use Rattle.hippo_policy.specs.Books.{cell_keys}
use Rattle.hippo_policy.specs.declared.keys.CellKey.{CellKey}
use Rattle.hippo_policy.proofs.book.cell_keys.Goals as goal

pub loop-column-preserved : goal.loop-column-preserved
loop-column-preserved c =
    let key_of : ℕ → CellKey = λ column. record { table = record { purpose = c.args.purpose.now; recipient = c.args.recipient.now; table = c.args.table.now }; column = column } in
    let so_far : c.loop-column.keys ≡ cell_keys c.args.purpose.now c.args.recipient.now c.args.table.now (take c.loop-column.column-index c.args.columns.now) = c.loop-column.invariant in
    c.in_ok-push.ensures.ok ∙ rw (so_far, c.in_ok-owned.ensures, c.lent-key.ensures) (sym (map_more key_of c.args.columns.now c.loop-column.column-index 0 c.loop-column-test.true))
