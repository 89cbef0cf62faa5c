use Rattle.std.proofs.Common.{◌≡◌, [], ◌++◌, drop, option_copied}
use Rattle.std.specs.Prelude.{if◌then◌else◌}
use Rattle.std.specs.List.{flat_map, enumerate_from}
use Rattle.hippo_typing_catalog.specs.WrittenColumns.{may_belong_to}
use Rattle.hippo_typing_catalog.specs.Selects.{table_columns, star_columns}
use Rattle.hippo_typing.proofs.items.push_star.Given as goal

abbrev pub invariant-loop-place : goal.invariant-loop-place
invariant-loop-place l =
    l.columns ++ flat_map (λ (place, schema). if may_belong_to (option_copied l.qualifier) schema.name then table_columns place schema else []) (enumerate_from l.place (drop l.place l.tables))
    ≡ l.fn.columns ++ star_columns l.tables (option_copied l.qualifier)
