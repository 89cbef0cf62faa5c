-- The search uses the keys, which ascend.
use Rattle.std.proofs.Common.{sym, ap, ◌∙◌}
use Rattle.hippo_model.specs.Rows.{key_of}
use Rattle.hippo_tables_keyed.specs.RowSets.{KeyedRows, find_row}
use Rattle.hippo_tables_keyed.proofs.KeptRows.{find_row-range, find_row-searched}
use Rattle.hippo_tables_keyed.proofs.keyed_set.KeyedSet.find_like.Goals as goal

pub returns-clause-place : goal.returns-clause-place
returns-clause-place c =
    let range = c.look_up.ensures.range in
    let place = rw (c.as_slice.ensures, c.as_slice-2.ensures) at c.look_up.ensures.place in
    let found = find_row-searched c.self.inside.key (key_of c.self.inside.key c.args.row.now) c.self.inside.rows c.look_up.result c.self.invariant range place in
    c.ok.ensures.value ∙ sym found ∙ ap (λ (set : KeyedRows). find_row set.key (key_of set.key c.args.row.now) set.rows) c.self.view_is

pub returns-clause-range : goal.returns-clause-range
returns-clause-range c = rw (returns-clause-place c) (find_row-range c.args.self.now.key (key_of c.args.self.now.key c.args.row.now) c.args.self.now.rows)
