-- There is at most one part.
use Rattle.std.proofs.Common.{◌≡◌, true, List, [], ◌∷◌, length, refl, sym, ap, subst, ◌∙◌}
use Rattle.std.specs.List.{list_all}
use Rattle.std.proofs.Math.Dec.{eqb, eqb-suc-zero}
use Rattle.std.proofs.lemmas.Bool.{and_from, false≢true}
use Rattle.hippo_model.specs.declared.query.CondOf.{CondOf}
use Rattle.hippo_model.specs.declared.query.Expr.{Expr}
use Rattle.hippo_join_lookups.specs.Ties.{holds}
use Rattle.hippo_join_stages.proofs.sufficing.all_follow.Goals as goal

none_left : (parts : List (CondOf Expr)) → eqb (length parts) 0 ≡ true → parts ≡ []
none_left [] none = refl
none_left (part ∷ parts) none = absurd (false≢true (sym (eqb-suc-zero (length parts)) ∙ none))

pub returns : goal.returns
returns c = λ yes choices rows tied.
    let alone : c.args.parts.now ≡ c.in-Some.part.now ∷ [] = c.in-Some.ensures.cases.0 ∙ ap (λ (rest : List (CondOf Expr)). c.in-Some.part.now ∷ rest) (none_left c.in-Some.rest.now (sym c.is_empty.ensures ∙ c.if-not-is_empty.false)) in
    subst (λ (parts : List (CondOf Expr)). list_all (holds choices rows) parts ≡ true) (sym alone)
    (and_from (holds choices rows c.in-Some.part.now) true (c.follows_any.ensures yes choices rows tied) refl)
