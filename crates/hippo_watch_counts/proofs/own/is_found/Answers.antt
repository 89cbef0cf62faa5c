-- The own conditions are those of the outermost parts that count.
use Rattle.std.proofs.Common.{◌∙◌, ap, sym, List, not, ◌||◌}
use Rattle.std.specs.List.{list_all}
use Rattle.hippo_model.specs.declared.query.CondOf.{CondOf}
use Rattle.hippo_model.specs.declared.query.Operand.{Operand}
use Rattle.hippo_model.specs.Columns.{condition_columns}
use Rattle.hippo_model.specs.Conditions.{is_true, outer_parts}
use Rattle.hippo_watch_counts.specs.Rows.{are_of, row_truth}
use Rattle.hippo_watch_counts.proofs.OwnColumns.{all_of_those}
use Rattle.hippo_watch_counts.proofs.own.is_found.Goals as goal

pub returns : goal.returns
returns c =
    let own = λ (part : CondOf Operand). are_of c.args.table (condition_columns part) in
    let true_in = λ (part : CondOf Operand). is_true (row_truth c.args.row.now part) in
    c.all_pass.ensures
    ∙ ap (λ (parts : List (CondOf Operand)). list_all (λ part. not (own part) || true_in part) parts) c.outer_parts.ensures
    ∙ sym (all_of_those own true_in (outer_parts c.args.audit.now.cond))
