-- Which rows a query answers, and when an answer has too many rows.
use Rattle.std.specs.Prelude.{◌≡◌, ℕ, ◌<◌, ◌≤◌, ◌&&◌, List, length, map, filter, Result, Ok, Err}
use Rattle.hippo_model.specs.declared.query.Masked.{Masked}
use Rattle.hippo_model.specs.Terms.{Combination, ShownRow}
use Rattle.hippo_model.specs.Masking.{Choices, is_guarded, masked_passes, masked_items}
use Rattle.hippo_eval.specs.declared.answers.EvalFault.{EvalFault}
use Rattle.hippo_eval.specs.declared.answers.EvalFault.TheVariants.{TooManyRows, Memory}

-- the combinations that qualify: each guard is shown, and the condition is true
abbrev pub making_rows : Choices → Masked → List Combination → List Combination
making_rows choices query combinations =
    filter (λ rows. is_guarded choices query rows && masked_passes choices query rows) combinations

-- the rows that a query makes of some combinations
abbrev pub masked_rows : Choices → Masked → List Combination → List ShownRow
masked_rows choices query combinations =
    map (masked_items choices query) (making_rows choices query combinations)

-- the result for these rows: the rows, TooManyRows, or out of memory
abbrev pub IsAnswered : ℕ → List ShownRow → Result (List ShownRow) EvalFault → Type 0
IsAnswered limit rows (Ok answer) = (answer ≡ rows) × (length rows ≤ limit)
IsAnswered limit rows (Err TooManyRows) = limit < length rows
IsAnswered limit rows (Err Memory) = Unit {0}
