-- Whether the remaining parts have only columns of the table.
use Rattle.std.proofs.Common.{◌≡◌, drop}
use Rattle.std.specs.List.{list_all}
use Rattle.hippo_model.specs.Columns.{condition_columns}
use Rattle.hippo_watch_counts.specs.Rows.{are_of}
use Rattle.hippo_watch_counts.proofs.own.+is_of.Given as goal

abbrev pub invariant-all_are_of-loop-part : goal.invariant-all_are_of-loop-part
invariant-all_are_of-loop-part l =
    list_all (λ part. are_of l.table (condition_columns part)) l.parts ≡ list_all (λ part. are_of l.table (condition_columns part)) (drop l.part-index l.parts)
