-- The text so far and the remaining tables make up the whole.
use Rattle.std.proofs.Common.{◌≡◌, ◌++◌, flat_map, drop, take}
use Rattle.hippo_model.specs.Terms.{History}
use Rattle.hippo_policy.specs.Books.{BookRepresents}
use Rattle.hippo_history_top.specs.Dating.{dated_line}
use Rattle.hippo_history_top.specs.Ruling.{table_shown}
use Rattle.hippo_history_top.proofs.rules.append_tables.Given as goal

abbrev pub invariant-loop-place : goal.invariant-loop-place
invariant-loop-place l =
    (history : History) → BookRepresents l.policy.book.now history
    → l.out ++ flat_map (λ named. table_shown (dated_line l.policy.format l.policy.moments.now) l.policy.scope.now (take l.policy.n history) l.purpose l.recipient named.1) (drop l.place l.policy.catalog.now.names.tables)
    ≡ l.initial.out ++ flat_map (λ named. table_shown (dated_line l.policy.format l.policy.moments.now) l.policy.scope.now (take l.policy.n history) l.purpose l.recipient named.1) l.policy.catalog.now.names.tables
