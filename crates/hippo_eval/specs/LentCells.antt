-- Cells whose values are borrowed.
use Rattle.std.specs.Prelude.{Option, option_copied, unwrap_or}
use Rattle.hippo_values.specs.declared.values.Value.{Value}
use Rattle.hippo_values.specs.declared.values.Value.TheVariants.{Null}
use Rattle.hippo_model.specs.declared.cells.Cell.{Cell}
use Rattle.hippo_model.specs.declared.cells.Cell.TheVariants as cells
use Rattle.hippo_eval.specs.declared.cells.LentCell.{LentCell}
use Rattle.hippo_eval.specs.declared.cells.LentCell.TheVariants.{Shown, Denied}

-- a missing value counts as null
abbrev pub or_null : Option Value → Value
or_null value = unwrap_or value Null

-- the cell that is borrowed
abbrev pub lent_cell : LentCell → Cell
lent_cell (Shown value) = cells.Shown (or_null (option_copied value))
lent_cell (Denied rule) = cells.Denied rule
