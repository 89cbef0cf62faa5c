-- A row and its number are removed together.
use Rattle.std.proofs.Common.{length, sym, ap, arith}
use Rattle.std.proofs.lemmas.List.Edits.{length-remove}
use Rattle.hippo_tables_keyed.specs.RowSets.{KeyedRows}
use Rattle.hippo_tables.proofs.RowPlaces.{length-taken}
use Rattle.hippo_tables.proofs.table.Table.delete.Goals as goal

pub invariant_of-self : goal.invariant_of-self
invariant_of-self c =
    let parts = length-taken c.self.inside.rows.key c.args.key.now c.self.inside.rows.rows c.in-Some.place (sym c.in-Some.ensures.place) in
    omega (arith, c.self.invariant, ap length c.remove.ensures, length-remove c.self.inside.numbers c.in-Some.place (omega (arith, c.self.invariant, parts.0)), ap (λ (set : KeyedRows). length set.rows) c.take.ensures, parts.1)
