-- The places that remain.
use Rattle.std.proofs.Common.{◌≡◌, drop, nat_eq}
use Rattle.hippo_model.specs.Validity.{all_differ}
use Rattle.hippo_replay.proofs.schemas.places_differ.Given as goal

abbrev pub invariant-loop-index : goal.invariant-loop-index
invariant-loop-index l = all_differ nat_eq (drop l.index l.places) ≡ all_differ nat_eq l.places
