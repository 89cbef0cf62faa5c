-- The search uses the keys, which ascend.
use Rattle.std.proofs.Common.{ap, ◌∙◌, refl, rules, sym}
use Rattle.std.proofs.lemmas.Bool.{false≢true}
use Rattle.hippo_model.specs.Rows.{key_of}
use Rattle.hippo_tables_keyed.specs.RowSets.{KeyedRows, with_row, find_row}
use Rattle.hippo_tables_keyed.proofs.KeptRows.{IsAscending-set, IsAscending-insert, answers_rise, with_row-found, with_row-missing, find_row-missing}
use Rattle.hippo_tables_keyed.proofs.keyed_set.KeyedSet.put.Goals as goal

-- the key exists, and its row is overwritten
pub invariant_of-self : goal.invariant_of-self
invariant_of-self c =
    let range = c.in-Ok.ensures.range in
    let place = rw (c.as_slice.ensures, c.as_slice-2.ensures) at c.in-Ok.ensures.place in
    rw c.set.ensures (IsAscending-set c.self.inside.key (record { row = c.args.row; born = c.args.born }) c.self.inside.rows c.in-Ok.place c.self.invariant range place)

pub returns-in-Ok : goal.returns-in-Ok
returns-in-Ok c =
    let range = c.in-Ok.ensures.range in
    let place = rw (c.as_slice.ensures, c.as_slice-2.ensures) at c.in-Ok.ensures.place in
    record {
      ok = rw c.set.ensures (with_row-found c.self.inside.key (record { row = c.args.row; born = c.args.born }) c.self.inside.rows c.in-Ok.place c.self.invariant range place ∙ ap (with_row (record { row = c.args.row; born = c.args.born })) c.self.view_is);
      err = tt;
      replaces = λ there. refl;
    }

-- the row is inserted at the place that the search gives
pub invariant_of-self-in-Err : goal.invariant_of-self-in-Err
invariant_of-self-in-Err c =
    let range = c.in-Err.ensures.range in
    let place = rw (c.as_slice.ensures, c.as_slice-2.ensures) at c.in-Err.ensures.place in
    let parted = place (answers_rise c.self.inside.key (key_of c.self.inside.key c.args.row) c.self.inside.rows c.self.invariant) in
    rw c.in_ok-insert-in-Err.ensures.ok (IsAscending-insert c.self.inside.key (record { row = c.args.row; born = c.args.born }) c.self.inside.rows c.in-Err.place c.self.invariant range parted)

pub returns-in_ok-insert-in-Err : goal.returns-in_ok-insert-in-Err
returns-in_ok-insert-in-Err c =
    let range = c.in-Err.ensures.range in
    let place = rw (c.as_slice.ensures, c.as_slice-2.ensures) at c.in-Err.ensures.place in
    let parted = place (answers_rise c.self.inside.key (key_of c.self.inside.key c.args.row) c.self.inside.rows c.self.invariant) in
    record {
      ok = rw c.in_ok-insert-in-Err.ensures.ok (with_row-missing c.self.inside.key (record { row = c.args.row; born = c.args.born }) c.self.inside.rows c.in-Err.place range parted ∙ ap (with_row (record { row = c.args.row; born = c.args.born })) c.self.view_is);
      err = tt;
      replaces = λ there. refl;
    }

-- out of memory happens only for a new key
pub returns-in_err-insert-in-Err : goal.returns-in_err-insert-in-Err
returns-in_err-insert-in-Err c =
    let place = rw (c.as_slice.ensures, c.as_slice-2.ensures) at c.in-Err.ensures.place in
    let parted = place (answers_rise c.self.inside.key (key_of c.self.inside.key c.args.row) c.self.inside.rows c.self.invariant) in
    let missing = find_row-missing c.self.inside.key (key_of c.self.inside.key c.args.row) c.self.inside.rows c.in-Err.place parted in
    let absent = sym (ap (λ (set : KeyedRows). find_row set.key (key_of set.key c.args.row) set.rows) c.self.view_is) ∙ missing in
    record {
      ok = search rules;
      err = search rules;
      replaces = λ there. absurd (false≢true (rw absent at there));
    }
