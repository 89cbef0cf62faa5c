-- The masked expressions of the columns so far.
use Rattle.std.proofs.Common.{◌≡◌, take, map}
use Rattle.hippo_rewrite.specs.Rewriting.{masked_column}
use Rattle.hippo_rewrite.proofs.expressions.mask_columns.Given as goal

abbrev pub invariant-loop-column : goal.invariant-loop-column
invariant-loop-column l = l.exprs ≡ map (masked_column l.rules) (take l.column-index l.columns)
