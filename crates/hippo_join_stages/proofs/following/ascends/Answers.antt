-- One place more.
use Rattle.std.proofs.Common.{◌≡◌, ℕ, ◌+◌, ◌-◌, ◌<◌, get_or, inl, inr, subst, sym, arith}
use Rattle.std.specs.Prelude.{slice_index}
use Rattle.hippo_join_lookups.proofs.PlaceSteps.{below_or_at}
use Rattle.hippo_join_stages.proofs.following.ascends.Goals as goal

pub loop-index-preserved : goal.loop-index-preserved
loop-index-preserved c k below =
    let places = c.args.places.now in
    let index = c.loop-index.index in
    elim (below_or_at (k + 1) index below) as (λ _. slice_index places k < slice_index places (k + 1)) [
      | inl earlier ↦ c.loop-index.invariant k earlier
      | inr last ↦
          let here : index - 1 ≡ k = omega (arith, last) in
          subst (λ (n : ℕ). get_or places k 0 < get_or places n 0) (sym last)
          (subst (λ (n : ℕ). get_or places n 0 < get_or places index 0) here c.if-places-index.false)
    ]
