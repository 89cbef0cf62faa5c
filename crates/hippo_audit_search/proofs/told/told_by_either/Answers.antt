-- The places that lookups on one side or the other find.
use Rattle.std.proofs.Common.{ℕ, List, Vec, Global, subst}
use Rattle.std.specs.Prelude.{IfSome}
use Rattle.hippo_model.specs.Terms.{Place}
use Rattle.hippo_audit_search.specs.ToldPlaces.{AreToldOf}
use Rattle.hippo_audit_search.proofs.ToldLemmas.{by-query, by-either}
use Rattle.hippo_audit_search.proofs.told.told_by_either.Goals as goal

pub returns-in-Some : goal.returns-in-Some
returns-in-Some g c =
    let told : AreToldOf c.args.how_many g.C.ChoiceView.choices c.args.sides.now.query c.deref.result.now c.in-Some.places.items = rw (c.in-Some.is) at c.in_ok-places.ensures in
    by-query g.C.ChoiceView.choices c.args.sides.now c.requires c.args.how_many c.in-Some.places.items
    (subst (λ (some : List Place). AreToldOf c.args.how_many g.C.ChoiceView.choices c.args.sides.now.query some c.in-Some.places.items) c.deref.ensures.value told)

pub returns : goal.returns
returns g c =
    by-either g.C.ChoiceView.choices c.args.sides.now c.requires c.args.how_many (λ (places : Vec ℕ Global). places.items) c.in_ok-found.found
    (subst (λ (some : List Place). IfSome c.in_ok-found.found (λ told. AreToldOf c.args.how_many g.C.ChoiceView.choices c.args.sides.now.audit some told.items)) c.deref-2.ensures.value c.in_ok-found.ensures)
