use Rattle.std.proofs.Common.{◌≡◌, ◌++◌, drop, nat_eq, filter_map}
use Rattle.std.specs.List.{zip}
use Rattle.std.specs.Map.{lookup}
use Rattle.hippo_typing_changes.proofs.columns.key_written.Given as goal

abbrev pub invariant-loop-place : goal.invariant-loop-place
invariant-loop-place l =
    l.made ++ filter_map (λ place. lookup (nat_eq place) (zip l.places l.values)) (drop l.place-index l.key)
    ≡ filter_map (λ place. lookup (nat_eq place) (zip l.places l.values)) l.key
