-- One more table, and finally all.
use Rattle.std.proofs.Common.{map, arith}
use Rattle.hippo_tables_keyed.specs.RowSets.{KeyedRows, IsAscending, key_in}
use Rattle.hippo_audit_common.proofs.LoopLemmas.{all-one-more, all-of-them}
use Rattle.hippo_audit_search.proofs.sharing.know_order.Goals as goal

pub loop-table-preserved : goal.loop-table-preserved
loop-table-preserved c =
    all-one-more (λ (set : KeyedRows). IsAscending (map (key_in set.key) set.rows)) c.args.sets.now c.loop-table.table c.get.result.now c.get.ensures c.loop-table.invariant c.len-rows.ensures.order

pub returns : goal.returns
returns c = all-of-them (λ (set : KeyedRows). IsAscending (map (key_in set.key) set.rows)) c.args.sets.now c.loop-table.table (omega (arith, c.len-table-end.ensures, c.loop-table-test.false)) c.loop-table.invariant
