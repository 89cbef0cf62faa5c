-- The open tables so far, followed by the open ones of the rest, are all open tables.
use Rattle.std.proofs.Common.{◌≡◌, ◌++◌, drop}
use Rattle.std.specs.Prelude.{filter}
use Rattle.hippo_join_lookups.specs.Known.{is_open}
use Rattle.hippo_join.proofs.settling.still_open.Given as goal

abbrev pub invariant-loop-table : goal.invariant-loop-table
invariant-loop-table l = l.left.items ++ filter (is_open l.slots) (drop l.table-index l.order) ≡ filter (is_open l.slots) l.order
