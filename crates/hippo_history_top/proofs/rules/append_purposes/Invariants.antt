-- The text so far and the remaining purposes make up the whole.
use Rattle.std.proofs.Common.{◌≡◌, ◌++◌, flat_map, drop, take}
use Rattle.hippo_model.specs.Terms.{History}
use Rattle.hippo_policy.specs.Books.{BookRepresents}
use Rattle.hippo_history_top.specs.Dating.{dated_line}
use Rattle.hippo_history_top.specs.Ruling.{recipients_shown, rules_by_names}
use Rattle.hippo_history_top.proofs.rules.append_purposes.Given as goal

abbrev pub invariant-loop-purpose : goal.invariant-loop-purpose
invariant-loop-purpose l =
    (history : History) → BookRepresents l.policy.book.now history
    → l.out ++ flat_map (recipients_shown l.policy.catalog.now.names (dated_line l.policy.format l.policy.moments.now) l.policy.scope.now (take l.policy.n history)) (drop l.purpose-index l.policy.catalog.now.names.purposes)
    ≡ l.initial.out ++ rules_by_names l.policy.catalog.now.names (dated_line l.policy.format l.policy.moments.now) l.policy.scope.now (take l.policy.n history)
