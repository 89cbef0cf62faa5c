-- Materialised stages are stages of a walk.
use Rattle.std.proofs.lemmas.Bool.{false≢true}
use Rattle.hippo_join.proofs.existence.has.Goals as goal

pub has_along-requires : goal.has_along-requires
has_along-requires g c = record {
  long = c.requires.long;
  walkable = λ k stage within. let is = c.requires.stages k stage within in record { listed = λ lists. is; enough = is.enough };
  covers = c.requires.covers;
  rises = λ asked. absurd (false≢true asked);
}
