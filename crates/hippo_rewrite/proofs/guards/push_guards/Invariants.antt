-- The guards of the key columns so far.
use Rattle.std.proofs.Common.{◌≡◌, ◌++◌, take, map}
use Rattle.hippo_rewrite.specs.Rewriting.{key_guard}
use Rattle.hippo_rewrite.proofs.guards.push_guards.Given as goal

abbrev pub invariant-loop-column : goal.invariant-loop-column
invariant-loop-column l = l.guards ≡ l.initial.guards ++ map (key_guard l.place l.table) (take l.column-index l.table.key)
