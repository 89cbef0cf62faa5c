-- The places of a span are consecutive.
use Rattle.std.proofs.Common.{◌-◌, subst, sym}
use Rattle.std.specs.List.Sorted.{IsStrictlyIncreasing}
use Rattle.hippo_join_stages.specs.declared.following.Following.{Following}
use Rattle.hippo_join_stages.specs.Walking.{candidate_places}
use Rattle.hippo_join_lookups.proofs.PlaceSteps.{rises-range}
use Rattle.hippo_join_stages.proofs.following.Following.rises.Goals as goal

pub returns-in-Searched : goal.returns-in-Searched
returns-in-Searched c asked =
    let span = c.in-Searched.field-0 in
    subst (λ (f : Following). IsStrictlyIncreasing (candidate_places f)) (sym c.in-Searched.is) (rises-range span.start (span.end - span.start))
