-- No null is above null.
use Rattle.hippo_join_stages.proofs.ranges.above_null.Goals as goal

pub returns-then-is_null : goal.returns-then-is_null
returns-then-is_null c = λ value some keeps. c.over_null.ensures value some
