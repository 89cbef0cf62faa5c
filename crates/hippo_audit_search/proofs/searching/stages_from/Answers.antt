-- The stages are those of the order's tables.
use Rattle.std.proofs.Common.{length, take, List, refl, ap, ◌∙◌}
use Rattle.std.proofs.lemmas.Result.{IfOk-weaker}
use Rattle.hippo_join_stages.specs.Stages.{AreStages}
use Rattle.hippo_model.specs.Terms.{Place}
use Rattle.hippo_audit_search.specs.Searching.{AreWholeOf, BeginWith}
use Rattle.hippo_audit_search.proofs.SearchLemmas.{whole-stages}
use Rattle.hippo_audit_search.proofs.searching.stages_from.Goals as goal

pub returns-clause-whole : goal.returns-clause-whole
returns-clause-whole g c =
    IfOk-weaker c.stages.result
    (λ stages. AreStages (g.C.ChoiceView.choices c.args.side.now.choices.now) c.args.side.now.query.now c.args.side.now.sets.now c.deref.result.now stages.items)
    (λ stages. AreWholeOf g.C.ChoiceView.choices c.args.side.now stages.items)
    (λ stages are. whole-stages (g.C.ChoiceView.choices c.args.side.now.choices.now) c.args.side.now.query.now c.args.side.now.sets.now c.deref.result.now c.in_ok-order.order.items stages.items stages.items (length c.args.side.now.sets.now) are refl c.deref.ensures.value c.in_ok-order.ensures.whole refl)
    c.stages.ensures

pub returns-clause-front : goal.returns-clause-front
returns-clause-front g c =
    IfOk-weaker c.stages.result
    (λ stages. AreStages (g.C.ChoiceView.choices c.args.side.now.choices.now) c.args.side.now.query.now c.args.side.now.sets.now c.deref.result.now stages.items)
    (λ stages. BeginWith stages.items c.args.first.now)
    (λ stages are. ap (λ (tables : List Place). take (length c.args.first.now) tables) (are.tables ∙ c.deref.ensures.value) ∙ c.in_ok-order.ensures.front)
    c.stages.ensures
