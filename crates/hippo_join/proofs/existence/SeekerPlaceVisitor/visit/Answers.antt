-- The combination shows all wanted cells, or it does not.
use Rattle.std.proofs.Common.{List, sym, ap, ◌∙◌}
use Rattle.hippo_model.specs.Terms.{Place}
use Rattle.hippo_join_lookups.specs.Places.{chosen_rows}
use Rattle.hippo_join.specs.Existence.{are_shown}
use Rattle.hippo_join.proofs.ExistenceLemmas.{any-there, any-not}
use Rattle.hippo_join.proofs.existence.SeekerPlaceVisitor.visit.Goals as goal

pub returns-then-are_shown : goal.returns-then-are_shown
returns-then-are_shown g c sets front before places whole rows are later =
    let shows = are_shown (g.C.ChoiceView.choices c.args.self.now.side.now.choices.now) c.args.self.now.seen.now in
    any-there (λ (places : List Place). shows (chosen_rows sets places)) before places later (ap shows (sym rows) ∙ sym c.are_shown.ensures ∙ c.if-are_shown.true)

pub returns-else-are_shown : goal.returns-else-are_shown
returns-else-are_shown g c sets front before places whole rows are =
    let shows = are_shown (g.C.ChoiceView.choices c.args.self.now.side.now.choices.now) c.args.self.now.seen.now in
    are ∙ any-not (λ (places : List Place). shows (chosen_rows sets places)) before places (ap shows (sym rows) ∙ sym c.are_shown.ensures ∙ c.if-are_shown.false)
