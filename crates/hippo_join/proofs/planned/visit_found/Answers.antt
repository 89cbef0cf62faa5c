-- What was found is all that qualifies, or more than the limit.
use Rattle.std.proofs.Common.{◌≡◌, List, ◌++◌, length, map, subst, arith}
use Rattle.hippo_model.specs.Terms.{Combination}
use Rattle.hippo_eval.specs.declared.answers.TheConstants.{ANSWER_LIMIT}
use Rattle.hippo_eval.proofs.KeptLemmas.{kept_whole}
use Rattle.hippo_join_lookups.specs.Places.{chosen_rows}
use Rattle.hippo_join.proofs.PlannedLemmas.{found-whole, found-many}
use Rattle.hippo_join.proofs.planned.visit_found.Goals as goal

pub returns-then-len-gt-ANSWER_LIMIT : goal.returns-then-len-gt-ANSWER_LIMIT
returns-then-len-gt-ANSWER_LIMIT g c before kept =
    let count : c.len.result ≡ length c.args.found.now.keys = c.len.ensures.len in
    found-many (g.C.ChoiceView.choices c.args.side.now.choices.now) c.args.side.now.query.now c.args.side.now.sets.now ANSWER_LIMIT c.args.found.now.keys c.len.ensures.ordered c.requires (omega (arith, c.if-len-gt-ANSWER_LIMIT.true, count))

pub returns : goal.returns
returns g c before kept =
    let count : c.len.result ≡ length c.args.found.now.keys = c.len.ensures.len in
    let whole = found-whole (g.C.ChoiceView.choices c.args.side.now.choices.now) c.args.side.now.query.now c.args.side.now.sets.now ANSWER_LIMIT c.args.found.now.keys c.len.ensures.ordered c.requires (omega (arith, c.if-len-gt-ANSWER_LIMIT.false, count)) in
    subst (λ (these : List Combination). g.V.Visitor.Keeps c.args.visitor.now (before ++ these) c.visit_each.new.state) whole
    (kept_whole (g.V.Visitor.Keeps c.args.visitor.now) c.in_ok-_onward._onward before (map (chosen_rows c.args.side.now.sets.now) c.args.found.now.keys) c.visit_each.new.state (c.in_ok-_onward.ensures before kept))
