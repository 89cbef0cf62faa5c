-- The row and its number stay at their place.
use Rattle.std.proofs.Common.{◌≡◌, length, Some, subst, sym, ap, arith}
use Rattle.std.proofs.lemmas.List.{length-set}
use Rattle.hippo_model.specs.declared.born_row.BornRow.{BornRow}
use Rattle.hippo_model.specs.Rows.{key_of}
use Rattle.hippo_tables_keyed.specs.RowSets.{KeyedRows, find_row}
use Rattle.hippo_tables.specs.KeptTables.{KeptTable}
use Rattle.hippo_tables.proofs.KeptLemmas.{rows_as_long}
use Rattle.hippo_tables.proofs.table.Table.renew.Goals as goal

pub invariant_of-self : goal.invariant_of-self
invariant_of-self c =
    let table : KeptTable = record { schema = c.self.inside.schema; rows = c.self.inside.rows; numbers = c.self.inside.numbers } in
    let kept : BornRow = record { row = c.args.row; born = c.born-born.result } in
    let found : find_row table.rows.key (key_of table.rows.key c.args.row) table.rows.rows ≡ Some c.args.place = subst (λ (other : KeptTable). find_row other.rows.key (key_of other.rows.key c.args.row) other.rows.rows ≡ Some c.args.place) (sym c.self.view_is) c.requires in
    omega (arith, c.self.invariant, ap length c.replace.ensures.set, length-set c.self.inside.numbers c.args.place c.args.number, ap (λ (set : KeyedRows). length set.rows) c.replace-old.ensures.set, rows_as_long table c.len-count.ensures.order kept c.args.place found)
