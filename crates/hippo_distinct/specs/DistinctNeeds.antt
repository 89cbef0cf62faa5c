-- The law on what a DISTINCT query needs.
use Rattle.std.specs.Prelude.{◌≡◌, Bool, not, ◌&&◌, ◌||◌, List}
use Rattle.std.specs.List.{list_any, list_all}
use Rattle.hippo_model.specs.declared.audit.SharedRow.{SharedRow}
use Rattle.hippo_model.specs.declared.query.Form.TheVariants.{Distinct}
use Rattle.hippo_model.specs.declared.query.Query.{Query}
use Rattle.hippo_model.specs.Terms.{History, ShownRow}
use Rattle.hippo_model.specs.Verdicts.{Context}
use Rattle.hippo_model.specs.Bags.{same_row}
use Rattle.hippo_model.specs.Answers.{passes, selected_cells, answer_of, seen_combinations}
use Rattle.hippo_model.specs.Audits.{has_tuple, query_needs}

-- whether a combination makes a row of a query's answer
abbrev pub makes : Query → ShownRow → List ShownRow → Bool
makes query row combination =
    passes query.cond combination && same_row row (selected_cells query.items combination)

-- whether a row comes only from combinations with a virtual tuple
abbrev pub comes_alone : History → Query → List SharedRow → List (List ShownRow) → ShownRow → Bool
comes_alone history query tuple combinations row =
    list_all (λ rows. not (makes query row rows) || has_tuple history query.tables tuple rows)
    combinations

-- a DISTINCT query needs a virtual tuple exactly when some row comes only from combinations with
-- the tuple
abbrev pub DistinctQueryNeeds : Type 0
DistinctQueryNeeds =
    (history : History) (context : Context) (query : Query) (tuple : List SharedRow)
    → query.form ≡ Distinct
    → query_needs history context query tuple
    ≡ list_any (comes_alone history query tuple (seen_combinations history context query))
    (answer_of query.items query.cond (seen_combinations history context query))
