use Rattle.std.proofs.Common.{◌∙◌}
use Rattle.hippo_model.specs.declared.query.Form.TheVariants.{Distinct}
use Rattle.hippo_model.specs.Answers.{selected_cells, passes, seen_combinations}
use Rattle.hippo_model.specs.Audits.{has_tuple}
use Rattle.hippo_distinct.proofs.NeededForms.{needs_by_form}
use Rattle.hippo_distinct.proofs.NeededRows.{needs_what_comes_alone}
use Rattle.hippo_distinct.proofs.laws.distinct_query_needs.Goals as goal

pub returns : goal.returns
returns c = λ history context query tuple is_distinct.
    needs_by_form history context query tuple Distinct is_distinct
    ∙ needs_what_comes_alone (selected_cells query.items) (passes query.cond) (has_tuple history query.tables tuple) (seen_combinations history context query)
