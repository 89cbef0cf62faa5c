-- One more row.
use Rattle.std.proofs.Common.{get_or, arith, ◌∙◌}
use Rattle.hippo_audit_search.specs.Tuples.{tuple_at}
use Rattle.hippo_audit_search.proofs.TupleLemmas.{tuple-more, row-made, name-read}
use Rattle.hippo_audit_search.proofs.tuples.tuple_at.Goals as goal

pub loop-index-preserved : goal.loop-index-preserved
loop-index-preserved c =
    let tables = c.args.tables.now in
    let places = c.args.places.now in
    let i = c.loop-index.index in
    tuple-more c.args.names.now c.args.sets.now tables places i c.loop-index.tuple c.push.new.self (tuple_at c.args.names.now c.args.sets.now tables places) _
    c.loop-index-test.true (omega (arith, c.requires.places))
    (row-made c.args.names.now c.args.sets.now (get_or tables i 0) (get_or places i 0) c.in_ok-table.table c.get.result.now c.in_ok-key.key c.get.ensures
    (c.in_ok-table.ensures ∙ name-read c.args.names.now (get_or tables i 0) c.index-names-table.result (c.requires.names i 0 c.loop-index-test.true) c.index-names-table.is) c.in_ok-key.ensures)
    c.in_ok-push.ensures.ok c.loop-index.invariant
