use Rattle.std.proofs.Common.{◌≡◌, ◌++◌, drop, flat_map}
use Rattle.hippo_typing_catalog.specs.Catalogs.{schemas_of}
use Rattle.hippo_typing_catalog.specs.Refusals.{unknown_table}
use Rattle.hippo_typing.proofs.tables.tables_of.Given as goal

abbrev pub invariant-loop-name : goal.invariant-loop-name
invariant-loop-name l =
    let known = l.catalog.names in
    (flat_map (unknown_table known) l.names ≡ flat_map (unknown_table known) (drop l.name-index l.names))
    × (l.tables ++ schemas_of known (drop l.name-index l.names) ≡ schemas_of known l.names)
