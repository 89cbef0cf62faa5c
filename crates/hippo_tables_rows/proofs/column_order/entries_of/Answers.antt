-- All rows have their entries.
use Rattle.std.proofs.Common.{List, ℕ, ◌<◌, length, sym, subst, rules}
use Rattle.std.specs.List.{All}
use Rattle.hippo_tables_rows.specs.ColumnOrders.{AreEntered}
use Rattle.hippo_tables_rows.proofs.EntryLemmas.{entered-all, places-below}
use Rattle.hippo_tables_rows.proofs.column_order.entries_of.Goals as goal

pub fill-requires : goal.fill-requires
fill-requires c =
    subst (λ (l : List ℕ). All (λ place. place < length c.args.set.now.rows) l) (sym c.deref.ensures.value)
    (places-below (length c.args.set.now.rows) c.in_ok-places.places.items c.in_ok-places.ensures)

pub returns : goal.returns
returns c =
    entered-all c.args.column c.args.set.now c.in_ok-places.places.items c.fill.new.entries c.in_ok-places.ensures
    (subst (λ (l : List ℕ). AreEntered c.args.column c.args.set.now l c.fill.new.entries) c.deref.ensures.value (c.in_ok-fill.ensures (search rules)))
