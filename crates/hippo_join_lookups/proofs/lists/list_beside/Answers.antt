-- The expression shows the column, and the list holds only literals.
use Rattle.std.proofs.Common.{sym, ◌∙◌}
use Rattle.hippo_join_lookups.proofs.ListLemmas.{among-listed}
use Rattle.hippo_join_lookups.proofs.lists.list_beside.Goals as goal

pub returns-then-are_literals : goal.returns-then-are_literals
returns-then-are_literals c =
    among-listed c.args.value.now c.args.list.now c.args.column (c.shows_column.ensures c.if-not-shows_column.false) (sym c.are_literals.ensures ∙ c.if-are_literals.true)
