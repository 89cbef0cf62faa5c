use Rattle.std.proofs.Common.{◌∙◌}
use Rattle.hippo_model.specs.declared.query.Form.TheVariants.{Grouped}
use Rattle.hippo_model.specs.Answers.{selected_cells, passes, seen_combinations}
use Rattle.hippo_model.specs.Audits.{has_tuple}
use Rattle.hippo_distinct.proofs.NeededForms.{needs_by_form}
use Rattle.hippo_distinct.proofs.NeededGroups.{needs_what_changes_groups}
use Rattle.hippo_distinct.proofs.laws.grouped_query_needs.Goals as goal

pub returns : goal.returns
returns c = λ history context query shape tuple is_grouped.
    needs_by_form history context query tuple (Grouped shape) is_grouped
    ∙ needs_what_changes_groups (selected_cells query.items) (passes query.cond) (has_tuple history query.tables tuple) shape (seen_combinations history context query)
