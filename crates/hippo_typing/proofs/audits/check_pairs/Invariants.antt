use Rattle.std.proofs.Common.{◌≡◌, drop}
use Rattle.std.specs.List.{flat_map}
use Rattle.hippo_typing_catalog.specs.Refusals.{unknown_pair}
use Rattle.hippo_typing.proofs.audits.check_pairs.Given as goal

abbrev pub invariant-loop-pair : goal.invariant-loop-pair
invariant-loop-pair l =
    flat_map (λ pair. unknown_pair l.catalog.names pair.purpose pair.recipient) l.pairs
    ≡ flat_map (λ pair. unknown_pair l.catalog.names pair.purpose pair.recipient) (drop l.pair-index l.pairs)
