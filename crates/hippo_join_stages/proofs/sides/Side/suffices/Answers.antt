-- No guard fails, and the parts of the condition hold.
use Rattle.std.proofs.Common.{◌≡◌, true, not, List, sym, subst, ◌∙◌}
use Rattle.std.specs.List.{list_all}
use Rattle.hippo_model.specs.declared.query.CondOf.{CondOf}
use Rattle.hippo_model.specs.declared.query.Expr.{Expr}
use Rattle.hippo_model.specs.declared.query.Guard.{Guard}
use Rattle.hippo_join_lookups.specs.Ties.{holds}
use Rattle.hippo_join_stages.specs.Guards.{can_fail}
use Rattle.hippo_join_stages.proofs.SufficeLemmas.{rows-count}
use Rattle.hippo_join_stages.proofs.sides.Side.suffices.Goals as goal

pub returns : goal.returns
returns g c = λ yes rows tied.
    let choices = g.C.ChoiceView.choices c.args.self.now.choices.now in
    rows-count choices rows c.args.self.now.query.now
    (subst (λ (guards : List Guard). list_all (λ (guard : Guard). not (can_fail guard.expr)) guards ≡ true) c.as_slice.ensures (sym c.none_fails.ensures ∙ c.if-not-none_fails.false))
    (subst (λ (parts : List (CondOf Expr)). list_all (holds choices rows) parts ≡ true) c.outer_parts.ensures (c.all_follow.ensures yes choices rows tied))
