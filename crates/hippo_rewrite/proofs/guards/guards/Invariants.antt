-- The guards so far, and those of the remaining tables.
use Rattle.std.proofs.Common.{◌≡◌, ◌++◌, drop}
use Rattle.hippo_rewrite.specs.Rewriting.{guards_from}
use Rattle.hippo_rewrite.proofs.guards.guards.Given as goal

abbrev pub invariant-loop-place : goal.invariant-loop-place
invariant-loop-place l = l.guards ++ guards_from l.place (drop l.place l.rules) ≡ guards_from 0 l.rules
