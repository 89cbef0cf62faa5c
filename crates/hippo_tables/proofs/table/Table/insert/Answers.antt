-- The number is inserted at the place of the row.
use Rattle.std.proofs.Common.{◌≡◌, length, unwrap_or, sym, ap, ◌∙◌, arith}
use Rattle.std.proofs.lemmas.List.Edits.{length-insert}
use Rattle.hippo_model.specs.declared.born_row.BornRow.{BornRow}
use Rattle.hippo_model.specs.Terms.{Key}
use Rattle.hippo_model.specs.Rows.{key_of}
use Rattle.hippo_tables_keyed.specs.RowSets.{KeyedRows, with_row, without_row, find_row}
use Rattle.hippo_tables.specs.KeptTables.{KeptTable, place_of_key}
use Rattle.hippo_tables.proofs.KeptLemmas.{place_within, rows_longer, rows_back}
use Rattle.hippo_tables.proofs.table.Table.insert.Goals as goal

pub insert-requires-2 : goal.insert-requires-2
insert-requires-2 c =
    let table : KeptTable = record { schema = c.self.inside.schema; rows = c.self.inside.rows; numbers = c.self.inside.numbers } in
    let kept : BornRow = record { row = c.args.row; born = c.args.born } in
    let parts = rw c.in-Some.is at c.in_ok-found.ensures.ok in
    let place : place_of_key (key_of table.rows.key c.args.row) (with_row kept table.rows) ≡ c.in-Some.place = ap (λ found. unwrap_or found 0) (ap (λ (set : KeyedRows). find_row table.rows.key (key_of table.rows.key c.args.row) set.rows) (sym parts.1) ∙ parts.2) in
    omega (arith, place, place_within table kept parts.0 c.self.invariant)

pub invariant_of-self-in-Err : goal.invariant_of-self-in-Err
invariant_of-self-in-Err c =
    let table : KeptTable = record { schema = c.self.inside.schema; rows = c.self.inside.rows; numbers = c.self.inside.numbers } in
    let kept : BornRow = record { row = c.args.row; born = c.args.born } in
    let parts = rw c.in-Some.is at c.in_ok-found.ensures.ok in
    let same_key : c.args.key.now ≡ key_of table.rows.key c.args.row = c.requires ∙ ap (λ (other : KeptTable). key_of other.rows.key c.args.row) (sym c.self.view_is) in
    let back : c.take.new.self ≡ table.rows = c.take.ensures ∙ ap (without_row c.args.key.now) parts.1 ∙ ap (λ (key : Key). without_row key (with_row kept table.rows)) same_key ∙ rows_back table kept parts.0 in
    omega (arith, ap length c.in-Err.ensures.err, ap (λ (set : KeyedRows). length set.rows) back, c.self.invariant)

pub returns-in-Err-clause-err : goal.returns-in-Err-clause-err
returns-in-Err-clause-err c =
    let table : KeptTable = record { schema = c.self.inside.schema; rows = c.self.inside.rows; numbers = c.self.inside.numbers } in
    let kept : BornRow = record { row = c.args.row; born = c.args.born } in
    let parts = rw c.in-Some.is at c.in_ok-found.ensures.ok in
    let same_key : c.args.key.now ≡ key_of table.rows.key c.args.row = c.requires ∙ ap (λ (other : KeptTable). key_of other.rows.key c.args.row) (sym c.self.view_is) in
    let back : c.take.new.self ≡ table.rows = c.take.ensures ∙ ap (without_row c.args.key.now) parts.1 ∙ ap (λ (key : Key). without_row key (with_row kept table.rows)) same_key ∙ rows_back table kept parts.0 in
    ap (λ (rows : KeyedRows). record { schema = table.schema; rows = rows; numbers = c.insert-2.new.self }) back
    ∙ ap (λ numbers. record { schema = table.schema; rows = table.rows; numbers = numbers }) c.in-Err.ensures.err ∙ c.self.view_is

pub invariant_of-self-in_default-insert : goal.invariant_of-self-in_default-insert
invariant_of-self-in_default-insert c =
    let table : KeptTable = record { schema = c.self.inside.schema; rows = c.self.inside.rows; numbers = c.self.inside.numbers } in
    let kept : BornRow = record { row = c.args.row; born = c.args.born } in
    let parts = rw c.in-Some.is at c.in_ok-found.ensures.ok in
    let place : place_of_key (key_of table.rows.key c.args.row) (with_row kept table.rows) ≡ c.in-Some.place = ap (λ found. unwrap_or found 0) (ap (λ (set : KeyedRows). find_row table.rows.key (key_of table.rows.key c.args.row) set.rows) (sym parts.1) ∙ parts.2) in
    omega (arith, ap length c.in_default-insert.ensures.ok, length-insert table.numbers c.in-Some.place c.args.number (omega (arith, place, place_within table kept parts.0 c.self.invariant)), ap (λ (set : KeyedRows). length set.rows) parts.1, rows_longer table kept parts.0, c.self.invariant)
