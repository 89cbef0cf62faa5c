-- The combination qualifies, or does not.
use Rattle.std.proofs.Common.{refl, sym, ◌∙◌}
use Rattle.hippo_join_stages.specs.Visiting.{Completes}
use Rattle.hippo_join.specs.Walked.{join_of}
use Rattle.hippo_join.proofs.VisitingLemmas.{counted-by, is-whole, not-one, visited-none}
use Rattle.hippo_join.proofs.walking.Walk.visit_whole.Goals as goal

pub visit_counted-requires-clause-counts : goal.visit_counted-requires-clause-counts
visit_counted-requires-clause-counts g c =
    counted-by (join_of g.C.ChoiceView.choices c.args.self.now) c.args.rows.now c.passes.result c.passes.ensures c.if-passes.true

pub returns-else-passes : goal.returns-else-passes
returns-else-passes g c =
    let join = join_of g.C.ChoiceView.choices c.args.self.now in
    let one = is-whole join c.args.slots.now c.args.rows.now c.passes.result c.requires c.passes.ensures in
    record {
      slots = refl;
      rows = c.requires.stand.are;
      kept = λ front before kept.
          let keeps = g.V.PlaceVisitor.Keeps c.args.self.now.visitor.now join.sets front in
          visited-none keeps join.in_order (Completes join.choices join.query join.sets c.args.slots.now) before c.args.state.now (not-one keeps join.in_order join.choices join.query join.sets c.args.slots.now one.places one.whole (sym one.counts ∙ c.if-passes.false)) kept;
    }
