-- The rows are the old ones with one inserted at its place.
use Rattle.std.proofs.Common.{◌≡◌, ◌≤◌, List, length, map, sym, ap, ◌∙◌, subst}
use Rattle.std.specs.List.{insert}
use Rattle.hippo_model.specs.declared.born_row.BornRow.{BornRow}
use Rattle.hippo_tables_keyed.specs.RowSets.{KeyedRows, IsAscending, IsFree, key_in, put_row, with_row}
use Rattle.hippo_tables_keyed.proofs.KeptRows.{IsAscending-put}
use Rattle.hippo_tables_keyed.proofs.keyed_set.KeyedSet.insert_at.Goals as goal

pub insert-requires : goal.insert-requires
insert-requires c = subst (λ (held : KeyedRows). c.args.place ≤ length held.rows) (sym c.self.view_is) c.requires.within

pub invariant_of-self-2 : goal.invariant_of-self-2
invariant_of-self-2 c =
    let kept : BornRow = record { row = c.args.row; born = c.args.born } in
    let free : IsFree (record { key = c.self.inside.key; rows = c.self.inside.rows }) c.args.row c.args.place = subst (λ (held : KeyedRows). IsFree held c.args.row c.args.place) (sym c.self.view_is) c.requires in
    let ascends : IsAscending (map (key_in c.self.inside.key) (insert c.self.inside.rows c.args.place kept)) = subst (λ (rows : List BornRow). IsAscending (map (key_in c.self.inside.key) rows)) (free.put c.args.born) (IsAscending-put c.self.inside.key kept c.self.inside.rows c.self.invariant) in
    rw c.in_ok-insert.ensures.ok ascends

pub returns-clause-ok : goal.returns-clause-ok
returns-clause-ok c =
    let kept : BornRow = record { row = c.args.row; born = c.args.born } in
    let free : IsFree (record { key = c.self.inside.key; rows = c.self.inside.rows }) c.args.row c.args.place = subst (λ (held : KeyedRows). IsFree held c.args.row c.args.place) (sym c.self.view_is) c.requires in
    let put : insert c.self.inside.rows c.args.place kept ≡ put_row c.self.inside.key kept c.self.inside.rows = sym (free.put c.args.born) in
    rw c.in_ok-insert.ensures.ok (ap (λ (rows : List BornRow). record { key = c.self.inside.key; rows = rows }) put ∙ ap (with_row kept) c.self.view_is)
