-- The search uses the keys, which ascend.
use Rattle.std.proofs.Common.{ap, ◌∙◌, sym}
use Rattle.hippo_tables_keyed.specs.RowSets.{without_row}
use Rattle.hippo_tables_keyed.proofs.KeptRows.{IsAscending-remove, answers_rise, without_row-found, without_row-missing}
use Rattle.hippo_tables_keyed.proofs.keyed_set.KeyedSet.take.Goals as goal

-- the row exists, and is removed
pub invariant_of-self : goal.invariant_of-self
invariant_of-self c =
    let range = c.in-Ok.ensures.range in
    let place = rw (c.as_slice.ensures, c.as_slice-2.ensures) at c.in-Ok.ensures.place in
    rw c.remove.ensures (IsAscending-remove c.self.inside.key c.args.key.now c.self.inside.rows c.in-Ok.place c.self.invariant range place)

pub returns-in-Ok : goal.returns-in-Ok
returns-in-Ok c =
    let range = c.in-Ok.ensures.range in
    let place = rw (c.as_slice.ensures, c.as_slice-2.ensures) at c.in-Ok.ensures.place in
    rw c.remove.ensures (without_row-found c.self.inside.key c.args.key.now c.self.inside.rows c.in-Ok.place c.self.invariant range place ∙ ap (without_row c.args.key.now) c.self.view_is)

-- no row has the key
pub returns-in_default : goal.returns-in_default
returns-in_default c =
    let place = rw (c.in_default.is, c.as_slice.ensures, c.as_slice-2.ensures) at c.look_up.ensures.place in
    let parted = place (answers_rise c.self.inside.key c.args.key.now c.self.inside.rows c.self.invariant) in
    sym c.self.view_is ∙ without_row-missing c.self.inside.key c.args.key.now c.self.inside.rows c.in_default.field-0 parted ∙ ap (without_row c.args.key.now) c.self.view_is
