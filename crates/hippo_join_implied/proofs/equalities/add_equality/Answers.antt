-- There are not enough equalities yet.
use Rattle.std.proofs.Common.{◌≡◌, ◌<◌, ◌-◌, ◌++◌, ◌∷◌, List, filter, length, take, sym, subst, ◌∙◌, arith}
use Rattle.hippo_model.specs.declared.query.CondOf.{CondOf}
use Rattle.hippo_model.specs.declared.query.Expr.{Expr}
use Rattle.hippo_join_implied.specs.Implied.{equality_limit, is_equality}
use Rattle.hippo_join_implied.proofs.ListLemmas.{take-more}
use Rattle.hippo_join_implied.proofs.equalities.add_equality.Goals as goal

pub returns-in_ok-push : goal.returns-in_ok-push
returns-in_ok-push c = λ rest.
    let found = c.args.found.now in
    let part = c.args.part.now in
    let below : length found < equality_limit = omega (arith, c.len.ensures, c.if-len-lt-EQUALITY_LIMIT.true) in
    subst (λ (made : List (CondOf Expr)). made ++ take (equality_limit - length made) (filter is_equality rest) ≡ found ++ take (equality_limit - length found) (filter is_equality (part ∷ rest)))
    (sym c.in_ok-push.ensures.ok)
    (take-more equality_limit is_equality found rest part below (sym c.is_equality.ensures ∙ c.if-is_equality.true))
