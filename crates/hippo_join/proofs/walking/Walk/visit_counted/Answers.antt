-- The combination qualifies.
use Rattle.std.proofs.Common.{[], ◌∷◌, refl, sym}
use Rattle.hippo_join_stages.specs.Visiting.{KeptOn, Visited, Completes}
use Rattle.hippo_join_lookups.proofs.PlaceSteps.{ok-then}
use Rattle.hippo_join.specs.Walked.{join_of}
use Rattle.hippo_join.proofs.VisitingLemmas.{is-counted, on-ok, visited-one}
use Rattle.hippo_join.proofs.walking.Walk.visit_counted.Goals as goal

pub returns : goal.returns
returns g c =
    let join = join_of g.C.ChoiceView.choices c.args.self.now in
    let one = is-counted join c.args.slots.now c.args.rows.now c.requires.can c.requires.counts in
    record {
      slots = on-ok _ c.visit.result refl;
      rows = on-ok _ c.visit.result c.requires.can.stand.are;
      kept = λ front before kept.
          let keeps = g.V.PlaceVisitor.Keeps c.args.self.now.visitor.now join.sets front in
          ok-then (λ onward. KeptOn keeps onward before (one.places ∷ []) c.visit.new.state) (λ onward. Visited (Completes join.choices join.query join.sets c.args.slots.now) join.in_order keeps onward before c.visit.new.state) c.visit.result
          (c.visit.ensures join.sets front before one.places one.whole one.are kept)
          (λ onward. visited-one keeps join.in_order join.choices join.query join.sets c.args.slots.now one.places onward before c.visit.new.state one.whole (sym one.counts));
    }
