-- The rows at the places so far have their entries.
use Rattle.std.proofs.Common.{◌≡◌, suc, length}
use Rattle.std.specs.List.{range_with_len}
use Rattle.hippo_tables_rows.proofs.EntryLemmas.{AreFilled}
use Rattle.hippo_tables_rows.proofs.column_order.fill.Given as goal

abbrev pub invariant-loop-place : goal.invariant-loop-place
invariant-loop-place l =
    l.initial.entries.key ≡ range_with_len 0 (suc (length l.set.key)) → AreFilled l.column l.set l.places l.entries l.place-index
