use Rattle.std.proofs.Common.{◌≡◌, ◌++◌, ◌-◌, map}
use Rattle.std.specs.List.{range_with_len}
use Rattle.hippo_typing.proofs.items.push_table.Given as goal

abbrev pub invariant-loop-column : goal.invariant-loop-column
invariant-loop-column l =
    l.columns ++ map (λ column. record { table = l.place; column = column }) (range_with_len l.column (l.count - l.column))
    ≡ l.fn.columns ++ map (λ column. record { table = l.place; column = column }) (range_with_len 0 l.count)
