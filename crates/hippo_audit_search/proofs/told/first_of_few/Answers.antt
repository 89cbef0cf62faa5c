-- The first of the few places is the first of all.
use Rattle.std.proofs.Common.{ℕ, List, map, Option, Vec, Global, option_map, subst, ◌∙◌}
use Rattle.std.proofs.lemmas.Result.{IfOk-weaker}
use Rattle.hippo_model.specs.Terms.{Place}
use Rattle.hippo_audit_search.specs.FirstPlaces.{IsFirstAmong}
use Rattle.hippo_audit_search.specs.Searching.{SharedBy}
use Rattle.hippo_audit_search.proofs.FewLemmas.{few-first}
use Rattle.hippo_audit_search.proofs.told.first_of_few.Goals as goal

pub returns : goal.returns
returns g c =
    let holds : List Place → Type 0 = SharedBy g.C.ChoiceView.choices c.args.sides.now in
    let items : Vec ℕ Global → List Place = λ places. places.items in
    IfOk-weaker c.first_candidate.result _ _
    (λ found among. few-first holds c.args.few.now c.requires.few.rises c.requires.few.all (option_map items found)
    (subst (λ (l : List (List Place)). IsFirstAmong holds l (option_map items found)) (c.deref.ensures.value ∙ c.in_ok-candidates.ensures) among))
    c.first_candidate.ensures
