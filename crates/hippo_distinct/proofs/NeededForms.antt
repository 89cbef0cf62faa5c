-- What a query needs, by its form.
use Rattle.std.proofs.Common.{◌≡◌, not, List, ap}
use Rattle.std.specs.Prelude.{filter}
use Rattle.hippo_model.specs.declared.audit.SharedRow.{SharedRow}
use Rattle.hippo_model.specs.declared.query.Form.{Form}
use Rattle.hippo_model.specs.declared.query.Query.{Query}
use Rattle.hippo_model.specs.Terms.{History, ShownRow}
use Rattle.hippo_model.specs.Verdicts.{Context}
use Rattle.hippo_model.specs.Bags.{same_bag}
use Rattle.hippo_model.specs.Forms.{rows_by_form}
use Rattle.hippo_model.specs.Answers.{answer_of, seen_combinations}
use Rattle.hippo_model.specs.Audits.{has_tuple, query_needs}

module _ (history : History) (context : Context) (query : Query) (tuple : List SharedRow) where
  abbrev rows : List ShownRow
  rows = answer_of query.items query.cond (seen_combinations history context query)

  abbrev left : List ShownRow
  left = answer_of query.items query.cond (filter (λ combination. not (has_tuple history query.tables tuple combination)) (seen_combinations history context query))

  pub needs_by_form : (form : Form) → query.form ≡ form → query_needs history context query tuple ≡ not (same_bag (rows_by_form form left) (rows_by_form form rows))
  needs_by_form form is = ap (λ (form : Form). not (same_bag (rows_by_form form left) (rows_by_form form rows))) is
