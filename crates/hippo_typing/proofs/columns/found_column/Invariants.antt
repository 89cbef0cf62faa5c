use Rattle.std.proofs.Common.{◌≡◌, ◌++◌, drop, filter_map}
use Rattle.std.specs.Prelude.{option_to_list}
use Rattle.std.specs.List.{enumerate_from}
use Rattle.hippo_typing_catalog.specs.WrittenColumns.{home_in, candidate_columns}
use Rattle.hippo_typing.proofs.columns.found_column.Given as goal

abbrev pub invariant-loop-place : goal.invariant-loop-place
invariant-loop-place l =
    option_to_list l.home ++ filter_map (λ (place, schema). home_in l.written place schema) (enumerate_from l.place (drop l.place l.tables))
    ≡ candidate_columns l.tables l.written
