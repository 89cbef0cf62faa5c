-- Tables whose rows are chosen need no stage.
use Rattle.std.proofs.Common.{List, ◌<◌, length, subst, sym, ◌∙◌}
use Rattle.std.specs.List.{All}
use Rattle.std.proofs.lemmas.List.Elements.{All-filter}
use Rattle.hippo_model.specs.Terms.{Place}
use Rattle.hippo_join_lookups.specs.Known.{is_open}
use Rattle.hippo_join.proofs.SettlingLemmas.{walk-left}
use Rattle.hippo_join.proofs.settling.has_joined.Goals as goal

pub stages_after-requires-clause-below : goal.stages_after-requires-clause-below
stages_after-requires-clause-below g c =
    subst (λ (l : List Place). All (λ (table : Place). table < length c.args.side.now.sets.now) l) (sym (c.deref.ensures.value ∙ c.in_ok-left.ensures))
    (All-filter (is_open c.args.slots.now) (λ (table : Place). table < length c.args.side.now.sets.now) c.args.order.now c.requires.below)

pub has_along-requires : goal.has_along-requires
has_along-requires g c =
    walk-left (g.C.ChoiceView.choices c.args.side.now.choices.now) c.args.side.now.query.now c.args.side.now.sets.now c.args.order.now c.deref.result.now c.in_ok-stages.stages.items c.deref-2.result.now c.args.slots.now
    c.in_ok-stages.ensures c.deref-2.ensures.value c.requires.long c.requires.whole (c.deref.ensures.value ∙ c.in_ok-left.ensures)
