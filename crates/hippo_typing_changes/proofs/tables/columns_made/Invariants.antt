use Rattle.std.proofs.Common.{◌≡◌, ◌++◌, map, drop}
use Rattle.hippo_typing_catalog.specs.ChangesWanted.{with_not_null}
use Rattle.hippo_typing_changes.proofs.tables.columns_made.Given as goal

abbrev pub invariant-loop-column : goal.invariant-loop-column
invariant-loop-column l =
    l.made ++ map (with_not_null l.key l.subject) (drop l.column-index l.columns) ≡ map (with_not_null l.key l.subject) l.columns
