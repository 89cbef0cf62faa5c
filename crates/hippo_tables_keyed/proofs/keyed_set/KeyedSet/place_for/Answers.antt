-- The search uses the keys, which ascend.
use Rattle.std.proofs.Common.{subst, refl}
use Rattle.std.specs.Option.{IsSome}
use Rattle.hippo_model.specs.Rows.{key_of}
use Rattle.hippo_tables_keyed.specs.RowSets.{KeyedRows, IsFree, find_row}
use Rattle.hippo_tables_keyed.proofs.KeptRows.{answers_rise, find_row-found}
use Rattle.hippo_tables_keyed.proofs.FreePlaces.{is_free}
use Rattle.hippo_tables_keyed.proofs.keyed_set.KeyedSet.place_for.Goals as goal

pub returns-in-Ok : goal.returns-in-Ok
returns-in-Ok c =
    let place = rw (c.as_slice.ensures, c.as_slice-2.ensures) at c.in-Ok.ensures.place in
    let found = find_row-found c.self.inside.key (key_of c.self.inside.key c.args.row.now) c.self.inside.rows c.in-Ok.field-0 c.self.invariant c.in-Ok.ensures.range place in
    subst (λ (set : KeyedRows). IsSome (find_row set.key (key_of set.key c.args.row.now) set.rows)) c.self.view_is (rw found refl)

pub returns-in-Err : goal.returns-in-Err
returns-in-Err c =
    let place = rw (c.as_slice.ensures, c.as_slice-2.ensures) at c.in-Err.ensures.place in
    let parted = place (answers_rise c.self.inside.key (key_of c.self.inside.key c.args.row.now) c.self.inside.rows c.self.invariant) in
    subst (λ (set : KeyedRows). IsFree set c.args.row.now c.in-Err.place) c.self.view_is
    (is_free (record { key = c.self.inside.key; rows = c.self.inside.rows }) c.args.row.now c.in-Err.place c.self.invariant c.in-Err.ensures.range parted)
