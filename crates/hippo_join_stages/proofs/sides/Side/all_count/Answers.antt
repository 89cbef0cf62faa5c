-- No guard fails, and the one part of the condition holds.
use Rattle.std.proofs.Common.{◌≡◌, ◌<◌, ◌≤◌, true, not, [], ◌∷◌, List, Some, get_or, length, refl, sym, ap, subst, ◌∙◌, arith}
use Rattle.std.specs.Prelude.{slice_set}
use Rattle.std.specs.List.{Contains, list_all}
use Rattle.std.proofs.lemmas.Bool.{and_from}
use Rattle.hippo_model.specs.Conditions.{outer_parts}
use Rattle.hippo_model.specs.declared.query.CondOf.{CondOf}
use Rattle.hippo_model.specs.declared.query.Expr.{Expr}
use Rattle.hippo_model.specs.declared.query.Guard.{Guard}
use Rattle.hippo_join_lookups.specs.Places.{rows_at}
use Rattle.hippo_join_lookups.specs.Ties.{holds}
use Rattle.hippo_join_stages.specs.declared.following.Following.{Following}
use Rattle.hippo_join_stages.specs.Guards.{can_fail}
use Rattle.hippo_join_stages.specs.Walking.{candidate_places}
use Rattle.hippo_join_stages.proofs.SufficeLemmas.{rows-count}
use Rattle.hippo_join_stages.proofs.sides.Side.all_count.Goals as goal

only-one : {X : Type 0} (xs : List X) (x : X) → 1 ≤ length xs → length xs < 2 → x ≡ get_or xs 0 x → xs ≡ x ∷ []
only-one [] x least below is = absurd (omega arith)
only-one (y ∷ []) x least below is = ap (λ z. z ∷ []) (sym is)
only-one (y ∷ z ∷ rest) x least below is = absurd (omega arith)

pub returns-then-none_fails : goal.returns-then-none_fails
returns-then-none_fails g c = λ yes slots still place there set at within.
    let choices = g.C.ChoiceView.choices c.args.self.now.choices.now in
    let sets = c.args.self.now.sets.now in
    let rows = rows_at sets (slice_set slots c.args.table (Some place)) in
    let part = c.part-item.result in
    let parts : outer_parts c.args.self.now.query.now.cond ≡ part ∷ [] = sym c.outer_parts.ensures ∙ only-one c.outer_parts.result.now part c.in-Searched-len1.len_at_least c.in-Searched-len1.len_below c.part-item.is in
    let one : holds choices rows part ≡ true = c.holds_with_each.ensures yes slots still set at place (subst (λ (f : Following). Contains (candidate_places f) place) c.in-Searched-len1.is-0 there) in
    rows-count choices rows c.args.self.now.query.now
    (subst (λ (guards : List Guard). list_all (λ (guard : Guard). not (can_fail guard.expr)) guards ≡ true) c.as_slice.ensures (sym c.none_fails.ensures ∙ c.if-none_fails.true))
    (subst (λ (l : List (CondOf Expr)). list_all (holds choices rows) l ≡ true) (sym parts) (and_from (holds choices rows part) true one refl))
