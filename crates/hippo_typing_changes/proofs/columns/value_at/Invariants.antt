use Rattle.std.proofs.Common.{◌≡◌, length, drop, nat_eq}
use Rattle.std.specs.List.{zip}
use Rattle.std.specs.Map.{lookup}
use Rattle.hippo_typing_changes.proofs.columns.value_at.Given as goal

abbrev pub invariant-loop-known : goal.invariant-loop-known
invariant-loop-known l =
    lookup (nat_eq l.place) (zip l.places l.values)
    ≡ lookup (nat_eq l.place) (zip (drop (length l.yielded) l.places) (drop (length l.yielded) l.values))
