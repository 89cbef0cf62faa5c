use Rattle.std.proofs.Common.{not, List, ap, ◌∙◌}
use Rattle.std.specs.Prelude.{filter}
use Rattle.hippo_model.specs.declared.query.Form.{Form}
use Rattle.hippo_model.specs.Terms.{ShownRow}
use Rattle.hippo_model.specs.Bags.{same_bag}
use Rattle.hippo_model.specs.Forms.{rows_by_form}
use Rattle.hippo_model.specs.Answers.{selected_cells, passes, answer_of, seen_combinations}
use Rattle.hippo_model.specs.Audits.{has_tuple}
use Rattle.hippo_model_laws.proofs.NeededTuples.{needs_what_is_lost}
use Rattle.hippo_model_laws.proofs.audits.plain_query_needs.Goals as goal

pub returns : goal.returns
returns c = λ history context query tuple is_plain.
    let rows : List (List ShownRow) = seen_combinations history context query in
    let left : List (List ShownRow) = filter (λ combination. not (has_tuple history query.tables tuple combination)) rows in
    ap (λ (form : Form). not (same_bag (rows_by_form form (answer_of query.items query.cond left)) (rows_by_form form (answer_of query.items query.cond rows)))) is_plain
    ∙ needs_what_is_lost (selected_cells query.items) (passes query.cond) (has_tuple history query.tables tuple) rows
