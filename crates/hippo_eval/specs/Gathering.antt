-- What is gathered of the rows that are found for an answer.
use Rattle.std.specs.Prelude.{◌≡◌, ℕ, ◌≤◌, List, [], ◌++◌, length}
use Rattle.hippo_model.specs.Terms.{ShownRow}

-- the first of the rows found are gathered; all of them, unless the answer exceeds a limit
pub record IsGathered {R : Type 0} (Holds : List ShownRow → R → Type 0)
    (answer : List ShownRow → List ShownRow)
    (limit : ℕ) (found : List ShownRow) (rows : R) : Type 0 where
  pub front : List ShownRow
  pub later : List ShownRow
  pub is : found ≡ front ++ later
  pub holds : Holds front rows
  pub whole : length (answer front) ≤ limit → later ≡ []

-- these rows are the answer for the rows found; finding more rows does not make it shorter
pub record IsFinished (answer : List ShownRow → List ShownRow) (found rows : List ShownRow)
    : Type 0 where
  pub rows_are : rows ≡ answer found
  pub not_fewer : (later : List ShownRow) → length rows ≤ length (answer (found ++ later))
