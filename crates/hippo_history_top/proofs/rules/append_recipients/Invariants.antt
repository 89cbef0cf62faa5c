-- The text so far and the remaining recipients make up the whole.
use Rattle.std.proofs.Common.{◌≡◌, ◌++◌, flat_map, drop, take}
use Rattle.hippo_model.specs.Terms.{History}
use Rattle.hippo_policy.specs.Books.{BookRepresents}
use Rattle.hippo_history_top.specs.Dating.{dated_line}
use Rattle.hippo_history_top.specs.Ruling.{tables_shown, recipients_shown}
use Rattle.hippo_history_top.proofs.rules.append_recipients.Given as goal

abbrev pub invariant-loop-recipient : goal.invariant-loop-recipient
invariant-loop-recipient l =
    (history : History) → BookRepresents l.policy.book.now history
    → l.out ++ flat_map (tables_shown l.policy.catalog.now.names (dated_line l.policy.format l.policy.moments.now) l.policy.scope.now (take l.policy.n history) l.purpose) (drop l.recipient-index l.policy.catalog.now.names.recipients)
    ≡ l.initial.out ++ recipients_shown l.policy.catalog.now.names (dated_line l.policy.format l.policy.moments.now) l.policy.scope.now (take l.policy.n history) l.purpose
