-- Each place of the span is among the candidates.
use Rattle.hippo_join_stages.proofs.KeyLemmas.{in-span}
use Rattle.hippo_join_stages.proofs.sides.Side.candidates.Goals as goal

pub fewer_places-requires-clause-span : goal.fewer_places-requires-clause-span
fewer_places-requires-clause-span g c = λ places fits counts place at.
    let within = c.in_ok-span.ensures places fits counts place at in
    in-span c.in_ok-span.span.start c.in_ok-span.span.end place within.0 within.1

pub returns-else-is_long : goal.returns-else-is_long
returns-else-is_long g c = λ places fits counts place at.
    let within = c.in_ok-span.ensures places fits counts place at in
    in-span c.in_ok-span.span.start c.in_ok-span.span.end place within.0 within.1
