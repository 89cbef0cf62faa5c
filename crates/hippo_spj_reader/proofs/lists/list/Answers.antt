-- The first part begins the list; each further part is its next one.
use Rattle.std.proofs.Common.{arith}
use Rattle.hippo_spj_reader.proofs.ListLoops.{begins, goes_on}
use Rattle.hippo_spj_reader.proofs.lists.list.Goals as goal

pub loop-remaining-init : goal.loop-remaining-init
loop-remaining-init g c = record {
  no_longer = c.in_ok-first.ensures.no_longer;
  so_far = begins g.P.Part.leading g.S.Separator.after c.args.tokens.now c.in_ok-first.rest.now c.in_ok-first.first _ _ c.in_ok-first.ensures.found c.in_ok-first.ensures.no_longer c.new-parts.ensures c.in_ok-push.ensures.ok;
}

pub loop-remaining-preserved : goal.loop-remaining-preserved
loop-remaining-preserved g c = record {
  no_longer = omega (arith, c.in_ok-part.ensures.no_longer, c.in-Some.ensures.shorter);
  so_far = goes_on g.P.Part.leading g.S.Separator.after c.loop-remaining.parts _ c.loop-remaining.rest.now c.in-Some.remaining.now c.in_ok-part.left.now c.in_ok-part.part c.loop-remaining.invariant.so_far c.in-Some.ensures.rest c.in_ok-part.ensures.found c.in_ok-part.ensures.no_longer c.in-Some.ensures.shorter c.in_ok-push-2.ensures.ok;
}
