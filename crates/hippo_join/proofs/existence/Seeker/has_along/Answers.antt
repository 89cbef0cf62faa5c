-- The first combination found is enough.
use Rattle.std.proofs.Common.{◌≡◌, Bool, false, List, [], refl, sym, ◌∙◌}
use Rattle.std.specs.List.{list_any}
use Rattle.std.proofs.lemmas.Bool.{false≢true}
use Rattle.hippo_model.specs.Terms.{Place}
use Rattle.hippo_join.specs.Existence.{are_shown}
use Rattle.hippo_join_lookups.specs.Places.{chosen_rows}
use Rattle.hippo_join_lookups.proofs.PruneLemmas.{in-range}
use Rattle.hippo_join_lookups.proofs.SlotLemmas.{there-fits}
use Rattle.hippo_join.proofs.ExistenceLemmas.{one-found}
use Rattle.hippo_join.proofs.VisitingLemmas.{kept-whole}
use Rattle.hippo_join.proofs.existence.Seeker.has_along.Goals as goal

pub returns-then-not-are_there-clause-one : goal.returns-then-not-are_there-clause-one
returns-then-not-are_there-clause-one g c one =
    let sets = c.args.self.now.side.now.sets.now in
    let within = in-range (g.C.ChoiceView.choices c.args.self.now.side.now.choices.now) c.args.self.now.side.now.query.now sets one.places one.counts in
    false≢true (sym c.if-not-are_there.true ∙ c.are_there.ensures ∙ there-fits sets c.args.slots.now one.places one.fits within)

pub walk-requires : goal.walk-requires
walk-requires g c = record {
  can = c.requires;
  stand = record { there = sym c.are_there.ensures ∙ c.if-not-are_there.false; are = c.in_ok-rows.ensures };
}

pub returns-clause-one : goal.returns-clause-one
returns-clause-one g c =
    let choices = (g.C.ChoiceView.choices c.args.self.now.side.now.choices.now) in
    let sets = c.args.self.now.side.now.sets.now in
    let visited = c.in_ok-_onward.ensures.kept [] [] refl in
    one-found choices c.args.self.now.side.now.query.now c.args.self.now.seen.now sets c.args.slots.now false visited.all c.walk.new.state visited.are
    (kept-whole (λ (some : List (List Place)) (found : Bool). found ≡ list_any (λ places. are_shown choices c.args.self.now.seen.now (chosen_rows sets places)) some) false c.in_ok-_onward._onward [] visited.all c.walk.new.state visited.kept)
