-- The text so far and the remaining authorizations make up the whole.
use Rattle.std.proofs.Common.{◌≡◌, ◌++◌, drop}
use Rattle.hippo_history_top.specs.Granting.{grants_shown}
use Rattle.hippo_history_top.proofs.users.append_grants.Given as goal

abbrev pub invariant-loop-grant : goal.invariant-loop-grant
invariant-loop-grant l = l.out ++ grants_shown l.format (drop l.grant-index l.grants) ≡ l.initial.out ++ grants_shown l.format l.grants
