-- A walk visits everything that follows an empty combination.
use Rattle.std.proofs.Common.{[]}
use Rattle.hippo_model.specs.Answers.{product}
use Rattle.hippo_eval.specs.Walks.{rows_of, combinations_after}
use Rattle.hippo_eval.proofs.KeptLemmas.{kept_whole, from_the_start}
use Rattle.hippo_eval.proofs.walks.walk.Goals as goal

pub returns : goal.returns
returns g c before kept =
    let combinations = product (rows_of c.args.sets.now) in
    let after = rw c.new-combo.ensures at (c.in_ok-_onward.ensures.kept before kept) in
    from_the_start (g.V.Visitor.Keeps c.args.visitor.now) before combinations c.walk_from.new.state
    (kept_whole (g.V.Visitor.Keeps c.args.visitor.now) c.in_ok-_onward._onward before (combinations_after [] combinations) c.walk_from.new.state after)
