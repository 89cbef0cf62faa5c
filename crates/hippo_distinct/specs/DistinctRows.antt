-- The order of rows, and whether a row is among others.
use Rattle.std.specs.Prelude.{Bool, List}
use Rattle.std.specs.List.{list_any}
use Rattle.std.specs.declared.cmp.Ordering.{Ordering}
use Rattle.hippo_model.specs.Terms.{ShownRow}
use Rattle.hippo_model.specs.Bags.{same_row}

-- whether a row is among others
abbrev pub stands_in : ShownRow → List ShownRow → Bool
stands_in row rows = list_any (λ other. same_row other row) rows

-- the order by which rows are looked up
abbrev pub RowOrder : Type 0
RowOrder = ShownRow → ShownRow → Ordering
