-- Whether the remaining conditions let the row pass.
use Rattle.std.proofs.Common.{◌≡◌, drop, not, ◌||◌}
use Rattle.std.specs.List.{list_all}
use Rattle.hippo_model.specs.Columns.{condition_columns}
use Rattle.hippo_model.specs.Conditions.{is_true}
use Rattle.hippo_watch_counts.specs.Rows.{are_of, row_truth}
use Rattle.hippo_watch_counts.proofs.own.all_pass.Given as goal

abbrev pub invariant-loop-condition : goal.invariant-loop-condition
invariant-loop-condition l =
    list_all (λ condition. not (are_of l.table (condition_columns condition)) || is_true (row_truth l.row condition)) l.conditions
    ≡ list_all (λ condition. not (are_of l.table (condition_columns condition)) || is_true (row_truth l.row condition)) (drop l.condition-index l.conditions)
