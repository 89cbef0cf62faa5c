-- One place more.
use Rattle.std.proofs.Common.{◌≡◌, ℕ, ◌-◌, List, [], ◌∷◌, ◌++◌, ap, ◌∙◌, arith}
use Rattle.std.specs.List.{range_with_len}
use Rattle.hippo_join_stages.proofs.FoundLemmas.{range-next}
use Rattle.hippo_join_stages.proofs.following.listed_span.Goals as goal

pub loop-place-preserved : goal.loop-place-preserved
loop-place-preserved c =
    let start = c.args.span.start in
    let place = c.loop-place.place in
    let so_far = c.loop-place.invariant in (
      omega (arith, so_far.0),
      omega (arith, so_far.0, so_far.1, c.loop-place-test.true),
      c.in_ok-push.ensures.items ∙ ap (λ (l : List ℕ). l ++ place ∷ []) so_far.2 ∙ range-next start place so_far.0,
    )

pub returns : goal.returns
returns c =
    let start = c.args.span.start in
    let so_far = c.loop-place.invariant in
    let all : c.loop-place.place - start ≡ c.args.span.end - start = omega (arith, so_far.0, so_far.1, c.loop-place-test.false) in
    so_far.2 ∙ ap (range_with_len start) all
