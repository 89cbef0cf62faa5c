-- Conditions of audit expressions, over unmasked rows.
use Rattle.std.specs.Prelude.{List, map}
use Rattle.hippo_model.specs.declared.cells.Cell.TheVariants.{Shown}
use Rattle.hippo_model.specs.declared.query.CondOf.{CondOf}
use Rattle.hippo_model.specs.declared.query.Expr.{Expr}
use Rattle.hippo_model.specs.declared.query.Expr.TheVariants as exprs
use Rattle.hippo_model.specs.declared.query.Operand.{Operand}
use Rattle.hippo_model.specs.declared.query.Operand.TheVariants.{Column, Literal}
use Rattle.hippo_model.specs.Terms.{Combination, ShownRow}
use Rattle.hippo_model.specs.Conditions.{changed_operands}

-- the expression of an operand when no cell is masked
abbrev pub unmasked_operand : Operand → Expr
unmasked_operand (Column column) = exprs.Keep column
unmasked_operand (Literal value) = exprs.Literal value

abbrev pub unmasked_condition : CondOf Operand → CondOf Expr
unmasked_condition condition = changed_operands unmasked_operand condition

-- a combination of rows with every cell shown
abbrev pub all_shown : Combination → List ShownRow
all_shown rows = map (λ kept. map Shown kept.row) rows
