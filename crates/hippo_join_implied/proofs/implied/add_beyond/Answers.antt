-- One more column is reached.
use Rattle.std.proofs.Common.{◌≡◌, ◌<◌, ◌-◌, ◌++◌, List, Some, map, length, ◌∙◌, arith}
use Rattle.hippo_model.specs.declared.query.CondOf.{CondOf}
use Rattle.hippo_model.specs.declared.query.Expr.{Expr}
use Rattle.hippo_join_implied.specs.Implied.{implied_limit, moved_part, next_beyond, all_beyond}
use Rattle.hippo_join_implied.proofs.LoopLemmas.{led-more}
use Rattle.hippo_join_implied.proofs.implied.add_beyond.Goals as goal

pub loop-alloc-preserved : goal.loop-alloc-preserved
loop-alloc-preserved c =
    let part = c.args.part.now in
    let from = c.args.from.now in
    let other = c.in-Some.other.now in
    let implied : List (CondOf Expr) = c.loop-alloc.implied in
    let reached : List Expr = c.loop-alloc.reached in
    let view = c.reached-in-loop-alloc.view_is in
    let told = c.in-Some.ensures in
    let below : length implied < implied_limit = omega (arith, c.len.ensures, c.loop-alloc-test.true) in
    let next : next_beyond c.args.equalities.now reached ≡ Some other = cc in
    (λ i. c.in_ok-push-2.ensures.ok i ++ map (λ other. moved_part from other part) (all_beyond (implied_limit - length (c.in_ok-push-2.ensures.ok i)) c.args.equalities.now (c.in_ok-push-3.ensures.ok i)))
    ∙ led-more (λ other. moved_part from other part) c.args.equalities.now reached implied other c.in_ok-moved_part.field-0 below c.in_ok-moved_part.ensures next
    ∙ c.loop-alloc.invariant
