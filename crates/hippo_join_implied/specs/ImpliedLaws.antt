-- What a condition implies changes nothing.
use Rattle.std.specs.Prelude.{◌≡◌, List}
use Rattle.hippo_model.specs.declared.born_row.BornRow.{BornRow}
use Rattle.hippo_model.specs.declared.query.CondOf.{CondOf}
use Rattle.hippo_model.specs.declared.query.Expr.{Expr}
use Rattle.hippo_model.specs.declared.query.Masked.{Masked}
use Rattle.hippo_model.specs.Terms.{Combination}
use Rattle.hippo_model.specs.Masking.{Choices, masked_answer}
use Rattle.hippo_join_lookups.specs.Ties.{holds}
use Rattle.hippo_join_implied.specs.Implied.{with_implied, query_with_implied}

-- with what it implies, a condition is true of exactly the same rows
abbrev pub ImpliedHolds : Type 0
ImpliedHolds =
    (choices : Choices) (rows : Combination) (condition : CondOf Expr)
    → holds choices rows (with_implied condition) ≡ holds choices rows condition

-- the answer of a query stays the same, over any rows, births and choices
abbrev pub ImpliedAnswers : Type 0
ImpliedAnswers =
    (choices : Choices) (query : Masked) (tables : List (List BornRow))
    → masked_answer choices (query_with_implied query) tables ≡ masked_answer choices query tables
