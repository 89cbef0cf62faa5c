use Rattle.std.proofs.Common.{◌≡◌, ◌++◌, drop}
use Rattle.hippo_typing_catalog.specs.ChangesRefused.{places_named, unknown_columns}
use Rattle.hippo_typing_changes.proofs.columns.places.Given as goal

abbrev pub invariant-loop-name : goal.invariant-loop-name
invariant-loop-name g l =
    let table = g.T.NamedColumns.table l.table in
    (unknown_columns table l.names ≡ unknown_columns table (drop l.name-index l.names))
    × (l.places ++ places_named table (drop l.name-index l.names) ≡ places_named table l.names)
