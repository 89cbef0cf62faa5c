-- Answers compared as bags: they have the same rows, each equally often.
use Rattle.std.specs.Prelude.{ℕ, Bool, false, ◌==◌, List, ◌++◌, count_by}
use Rattle.std.specs.List.{list_all}
use Rattle.std.specs.Ordering.{is_eq}
use Rattle.std.specs.Cmp.Lexicographic.{pointwise}
use Rattle.hippo_model.specs.declared.cells.Cell.{Cell}
use Rattle.hippo_model.specs.declared.cells.Cell.TheVariants.{Shown, Denied}
use Rattle.hippo_model.specs.Terms.{ShownRow}
use Rattle.hippo_values.specs.Order.{value_cmp}

abbrev pub same_cell : Cell → Cell → Bool
same_cell (Shown a) (Shown b) = is_eq (value_cmp a b)
same_cell (Denied a) (Denied b) = a == b
same_cell a b = false

abbrev pub same_row : ShownRow → ShownRow → Bool
same_row = pointwise same_cell

-- how often a row occurs in a list
abbrev pub occurrences : ShownRow → List ShownRow → ℕ
occurrences row rows = count_by (same_row row) rows

-- each row occurs equally often in both lists
abbrev pub same_bag : List ShownRow → List ShownRow → Bool
same_bag left right =
    list_all (λ row. occurrences row left == occurrences row right) (left ++ right)
