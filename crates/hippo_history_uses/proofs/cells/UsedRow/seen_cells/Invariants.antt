-- The values so far, followed by those of the remaining columns.
use Rattle.std.proofs.Common.{◌≡◌, ◌++◌, drop, filter_map, None}
use Rattle.std.specs.Prelude.{if◌then◌else◌}
use Rattle.std.specs.List.{enumerate_from}
use Rattle.hippo_model.specs.Rows.{cell_at}
use Rattle.hippo_model.specs.Terms.{History}
use Rattle.hippo_policy.specs.Books.{BookRepresents}
use Rattle.hippo_history_uses.specs.Asking.{front_of}
use Rattle.hippo_history_uses.specs.Cells.{is_in_part, seen_by, seen_cells}
use Rattle.hippo_history_uses.specs.Using.{verdict_then}
use Rattle.hippo_history_uses.proofs.cells.UsedRow.seen_cells.Given as goal

abbrev pub invariant-loop-place : goal.invariant-loop-place
invariant-loop-place l =
    (history : History) → BookRepresents l.self.asked.now.book.now history
    → l.cells ++ filter_map (λ (place, column). if is_in_part l.part l.self.asked.now.query.now l.self.schema.now.name place
    then seen_by column.name (cell_at l.self.kept.now.row place) (verdict_then l.self (front_of l.self.asked.now history) place) else None)
    (enumerate_from l.place (drop l.place l.self.schema.now.columns))
    ≡ seen_cells (is_in_part l.part l.self.asked.now.query.now l.self.schema.now.name)
    (verdict_then l.self (front_of l.self.asked.now history)) l.self.schema.now l.self.kept.now.row
