-- Sorting keeps the same places.
use Rattle.std.specs.List.{Contains}
use Rattle.std.proofs.lemmas.List.Elements.{All-contains}
use Rattle.hippo_join_stages.specs.Walking.{candidate_places}
use Rattle.hippo_join.proofs.walking.Walk.following.Goals as goal

pub returns : goal.returns
returns g c = record {
  reaches = λ places fits counts place at. c.in_ok-ascending.ensures.all place (c.in_ok-following.ensures.reaches places fits counts place at);
  order = λ asked. c.in_ok-ascending.ensures.order;
  count = λ still yes place has.
      c.in_ok-following.ensures.count still yes place
      (All-contains (Contains (candidate_places c.in_ok-following.following)) c.in_ok-ascending.field-0.items place c.in_ok-ascending.ensures.none_else has);
}
