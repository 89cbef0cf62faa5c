-- A known guard holds in each qualifying combination.
use Rattle.std.proofs.Common.{sym, ap, ◌∙◌, not, ◌||◌}
use Rattle.hippo_model.specs.Masking.{masked_cell, is_shown_cell}
use Rattle.hippo_model.specs.Terms.{Combination}
use Rattle.hippo_join_lookups.specs.Known.{knows_expr}
use Rattle.hippo_join_lookups.proofs.PruneLemmas.{guard-holds, item-at}
use Rattle.hippo_join_stages.proofs.sides.Side.guards_hold.Goals as goal

pub returns-then-not-guard_holds : goal.returns-then-not-guard_holds
returns-then-not-guard_holds g c = λ places fits counts.
    let choices = g.C.ChoiceView.choices c.args.self.now.choices.now in
    let query = c.args.self.now.query.now in
    let slots = c.args.slots.now in
    let guard = c.guard-item.result in
    sym c.if-not-guard_holds.true ∙ c.guard_holds.ensures ∙ ap (λ (rows : Combination). not (knows_expr slots guard.expr) || is_shown_cell (masked_cell choices rows guard.expr)) c.requires
    ∙ guard-holds choices query c.args.self.now.sets.now slots places fits counts c.loop-guard.guard-index guard
    (item-at c.as_slice-guard-items.result.now query.guards c.loop-guard.guard-index guard c.as_slice-guard-items.ensures c.loop-guard-test.true c.guard-item.is)
