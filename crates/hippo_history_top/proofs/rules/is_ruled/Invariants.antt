-- No column so far has a rule.
use Rattle.std.proofs.Common.{◌≡◌, ◌-◌, take, length}
use Rattle.std.specs.Prelude.{is_some}
use Rattle.std.specs.List.{list_any, range_with_len}
use Rattle.hippo_model.specs.Terms.{History}
use Rattle.hippo_policy.specs.Books.{BookRepresents}
use Rattle.hippo_history_top.specs.Ruling.{column_rule, is_ruled}
use Rattle.hippo_history_top.proofs.rules.is_ruled.Given as goal

abbrev pub invariant-loop-place : goal.invariant-loop-place
invariant-loop-place l =
    (history : History) → BookRepresents l.policy.book.now history
    → list_any (λ place. is_some (column_rule (take l.policy.n history) l.group.purpose.now l.group.recipient.now l.group.schema.now place)) (range_with_len l.place (length l.group.schema.now.columns - l.place))
    ≡ is_ruled (take l.policy.n history) l.group.purpose.now l.group.recipient.now l.group.schema.now
