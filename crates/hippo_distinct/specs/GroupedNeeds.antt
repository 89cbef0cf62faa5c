-- The law on what a grouped query needs.
use Rattle.std.specs.Prelude.{◌≡◌, Bool, not, ◌&&◌, ◌||◌, List, map, filter, take}
use Rattle.std.specs.List.{list_any, list_all}
use Rattle.hippo_model.specs.declared.audit.SharedRow.{SharedRow}
use Rattle.hippo_model.specs.declared.query.Form.TheVariants.{Grouped}
use Rattle.hippo_model.specs.declared.query.Query.{Query}
use Rattle.hippo_model.specs.declared.query.Shape.{Shape}
use Rattle.hippo_model.specs.Terms.{History, ShownRow}
use Rattle.hippo_model.specs.Verdicts.{Context}
use Rattle.hippo_model.specs.Bags.{same_row}
use Rattle.hippo_model.specs.Forms.{group_cell}
use Rattle.hippo_model.specs.Answers.{passes, selected_cells, answer_of, seen_combinations}
use Rattle.hippo_model.specs.Audits.{has_tuple, query_needs}

-- whether a combination satisfies the condition and is in the group with this key
abbrev pub is_member : Query → Shape → ShownRow → List ShownRow → Bool
is_member query shape key combination =
    passes query.cond combination && same_row key
    (take shape.keys (selected_cells query.items combination))

-- the row of a group with these members
abbrev pub group_row : Query → Shape → ShownRow → List (List ShownRow) → ShownRow
group_row query shape key members =
    map (group_cell key (map (selected_cells query.items) members)) shape.outs

-- whether a group without the members that have a virtual tuple is empty, or gives another row
abbrev pub group_changes : History → Query → Shape → List SharedRow → List (List ShownRow)
    → ShownRow → Bool
group_changes history query shape tuple combinations key =
    let members = filter (is_member query shape key) combinations in
    let left = filter (λ member. not (has_tuple history query.tables tuple member)) members in
    list_all (has_tuple history query.tables tuple) members
    || not (same_row (group_row query shape key left) (group_row query shape key members))

-- the keys of the groups: the first cells of each combination that satisfies the condition
abbrev pub group_keys : Query → Shape → List (List ShownRow) → List ShownRow
group_keys query shape combinations =
    map (take shape.keys) (answer_of query.items query.cond combinations)

-- a grouped query needs a virtual tuple exactly when some group without the tuple's combinations is
-- gone, or has another row
abbrev pub GroupedQueryNeeds : Type 0
GroupedQueryNeeds =
    (history : History) (context : Context) (query : Query) (shape : Shape) (tuple : List SharedRow)
    → query.form ≡ Grouped shape
    → query_needs history context query tuple
    ≡ list_any (group_changes history query shape tuple (seen_combinations history context query))
    (group_keys query shape (seen_combinations history context query))
