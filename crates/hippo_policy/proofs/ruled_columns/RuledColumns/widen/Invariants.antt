-- The rules stay the same.
use Rattle.std.proofs.Common.{◌≡◌}
use Rattle.hippo_model.specs.Terms.{Place}
use Rattle.hippo_policy.specs.Cells.{column_words}
use Rattle.hippo_policy.proofs.ruled_columns.RuledColumns.widen.Given as goal

abbrev pub invariant-loop : goal.invariant-loop
invariant-loop l = (other : Place) → column_words l.self other ≡ column_words l.initial.self other
