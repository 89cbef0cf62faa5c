-- The row is overwritten.
use Rattle.std.proofs.Common.{◌≡◌, Some, map, slice_get, sym, ap, ◌∙◌, subst}
use Rattle.hippo_model.specs.declared.born_row.BornRow.{BornRow}
use Rattle.hippo_model.specs.Rows.{key_of}
use Rattle.hippo_tables_keyed.specs.RowSets.{KeyedRows, IsAscending, key_in, find_row, with_row}
use Rattle.hippo_tables_keyed.proofs.KeptRows.{IsAscending-put}
use Rattle.hippo_tables_keyed.proofs.FreePlaces.{found_within, set_so}
use Rattle.hippo_tables_keyed.proofs.keyed_set.KeyedSet.replace.Goals as goal

pub replace-requires : goal.replace-requires
replace-requires c =
    let kept : BornRow = record { row = c.args.row; born = c.args.born } in
    let found = subst (λ (held : KeyedRows). find_row held.key (key_of held.key c.args.row) held.rows ≡ Some c.args.place) (sym c.self.view_is) c.requires in
    found_within c.self.inside.key kept c.self.inside.rows c.args.place c.self.invariant found

pub invariant_of-self : goal.invariant_of-self
invariant_of-self c =
    let kept : BornRow = record { row = c.args.row; born = c.args.born } in
    let found = subst (λ (held : KeyedRows). find_row held.key (key_of held.key c.args.row) held.rows ≡ Some c.args.place) (sym c.self.view_is) c.requires in
    let so = set_so c.self.inside.key kept c.self.inside.rows c.args.place c.self.invariant found in
    rw c.replace.ensures.set (subst (λ (held : KeyedRows). IsAscending (map (key_in c.self.inside.key) held.rows)) (sym so) (IsAscending-put c.self.inside.key kept c.self.inside.rows c.self.invariant))

pub returns-clause-set : goal.returns-clause-set
returns-clause-set c =
    let kept : BornRow = record { row = c.args.row; born = c.args.born } in
    let found = subst (λ (held : KeyedRows). find_row held.key (key_of held.key c.args.row) held.rows ≡ Some c.args.place) (sym c.self.view_is) c.requires in
    rw c.replace.ensures.set (set_so c.self.inside.key kept c.self.inside.rows c.args.place c.self.invariant found ∙ ap (with_row kept) c.self.view_is)

pub returns-clause-old : goal.returns-clause-old
returns-clause-old c = subst (λ (held : KeyedRows). slice_get held.rows c.args.place ≡ Some c.replace.result) c.self.view_is c.replace.ensures.old
