-- The text so far and the remaining columns make up the whole.
use Rattle.std.proofs.Common.{◌≡◌, ◌++◌, ◌-◌, flat_map, take, length}
use Rattle.std.specs.List.{range_with_len}
use Rattle.hippo_model.specs.Terms.{History}
use Rattle.hippo_policy.specs.Books.{BookRepresents}
use Rattle.hippo_history_top.specs.Dating.{dated_line}
use Rattle.hippo_history_top.specs.Ruling.{column_line, columns_shown}
use Rattle.hippo_history_top.proofs.rules.append_columns.Given as goal

abbrev pub invariant-loop-place : goal.invariant-loop-place
invariant-loop-place l =
    (history : History) → BookRepresents l.policy.book.now history
    → l.out ++ flat_map (column_line (dated_line l.policy.format l.policy.moments.now) (take l.policy.n history) l.group.purpose.now l.group.recipient.now l.group.schema.now) (range_with_len l.place (length l.group.schema.now.columns - l.place))
    ≡ l.initial.out ++ columns_shown (dated_line l.policy.format l.policy.moments.now) (take l.policy.n history) l.group.purpose.now l.group.recipient.now l.group.schema.now
