-- One more row, and the last.
use Rattle.std.proofs.Common.{◌∙◌, ◌++◌, sym, ap, arith, List}
use Rattle.std.specs.Prelude.{slice_get}
use Rattle.hippo_model.specs.declared.born_row.BornRow.{BornRow}
use Rattle.hippo_history_uses.specs.Asking.{front_of}
use Rattle.hippo_history_uses.specs.Searching.{rows_accesses}
use Rattle.hippo_history_uses.proofs.SearchLemmas.{rows_are, row_turn, rows_done}
use Rattle.hippo_history_uses.proofs.searching.Search.add_rows.Goals as goal

pub loop-row-preserved : goal.loop-row-preserved
loop-row-preserved c = λ history schema its.
    let search = c.args.self.now in
    let rows = c.get-rows.result.now.rows in
    let there = sym (ap (λ (r : List BornRow). slice_get r c.loop-row.row) (rows_are search c.args.place c.requires.seat history schema its c.get-rows.result.now c.get-rows.ensures)) ∙ c.born_row.ensures in
    row_turn search (front_of search.asked.now history) schema rows c.loop-row.row c.born_row.result.now c.loop-row.accesses c.add_row.new.accesses
    (c.args.accesses.now ++ rows_accesses search (front_of search.asked.now history) schema rows) c.born_row.ensures (c.loop-row.invariant history schema its)
    (c.in_ok-add_row.ensures history schema its c.loop-row.row there)

pub returns : goal.returns
returns c = λ history schema its.
    let search = c.args.self.now in
    let rows = c.get-rows.result.now.rows in
    rows_done search (front_of search.asked.now history) schema rows c.loop-row.row c.loop-row.accesses _
    (omega (arith, c.loop-row-test.false, c.loop-row.auto.row-end, c.len-row-end.ensures.rows)) (c.loop-row.invariant history schema its)
    ∙ ap (λ (r : List BornRow). c.args.accesses.now ++ rows_accesses search (front_of search.asked.now history) schema r)
    (rows_are search c.args.place c.requires.seat history schema its c.get-rows.result.now c.get-rows.ensures)
