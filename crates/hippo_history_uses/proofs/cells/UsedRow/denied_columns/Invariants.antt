-- The columns so far, followed by the remaining ones.
use Rattle.std.proofs.Common.{◌≡◌, ◌++◌, drop, filter_map, None}
use Rattle.std.specs.Prelude.{if◌then◌else◌}
use Rattle.std.specs.List.{enumerate_from}
use Rattle.hippo_model.specs.Terms.{History}
use Rattle.hippo_policy.specs.Books.{BookRepresents}
use Rattle.hippo_history_uses.specs.Asking.{front_of}
use Rattle.hippo_history_uses.specs.Cells.{names_column, denied_by, denied_columns}
use Rattle.hippo_history_uses.specs.Using.{verdict_then}
use Rattle.hippo_history_uses.proofs.cells.UsedRow.denied_columns.Given as goal

abbrev pub invariant-loop-place : goal.invariant-loop-place
invariant-loop-place l =
    (history : History) → BookRepresents l.self.asked.now.book.now history
    → l.columns ++ filter_map (λ (place, column). if names_column l.self.asked.now.query.now l.self.schema.now.name place
    then denied_by column.name (verdict_then l.self (front_of l.self.asked.now history) place) else None)
    (enumerate_from l.place (drop l.place l.self.schema.now.columns))
    ≡ denied_columns (names_column l.self.asked.now.query.now l.self.schema.now.name)
    (verdict_then l.self (front_of l.self.asked.now history)) l.self.schema.now
