-- The row's number stays at its place.
use Rattle.std.proofs.Common.{◌≡◌, length, refl, sym, ap, arith}
use Rattle.std.specs.Option.{IsSome}
use Rattle.std.proofs.lemmas.List.{length-set}
use Rattle.hippo_model.specs.declared.born_row.BornRow.{BornRow}
use Rattle.hippo_model.specs.Rows.{key_of}
use Rattle.hippo_tables_keyed.specs.RowSets.{KeyedRows, with_row, find_row}
use Rattle.hippo_tables.specs.KeptTables.{KeptTable}
use Rattle.hippo_tables.proofs.KeptLemmas.{ok_from, rows_as_long}
use Rattle.hippo_tables.proofs.table.Table.update.Goals as goal

pub invariant_of-self : goal.invariant_of-self
invariant_of-self c =
    let table : KeptTable = record { schema = c.self.inside.schema; rows = c.self.inside.rows; numbers = c.self.inside.numbers } in
    let kept : BornRow = record { row = c.args.row; born = c.args.born } in
    let there : IsSome (find_row table.rows.key (key_of table.rows.key c.args.row) table.rows.rows) = rw (← c.in-Some.ensures.place) refl in
    let put = ok_from c.put.result (c.put.new.self ≡ with_row kept table.rows) (c.put.ensures.replaces there) c.put.ensures.ok in
    omega (arith, c.self.invariant, ap length c.set.ensures, length-set c.self.inside.numbers c.in-Some.place c.args.number, ap (λ (set : KeyedRows). length set.rows) put, rows_as_long table c.len-count.ensures.order kept c.in-Some.place (sym c.in-Some.ensures.place))
