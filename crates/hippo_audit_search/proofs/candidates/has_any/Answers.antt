-- Every table has a stage.
use Rattle.std.proofs.Common.{ℕ, ◌≡◌, ◌<◌, length, refl, ap, subst, ◌∙◌, inr, Option, None}
use Rattle.std.proofs.lemmas.List.{length-replicate}
use Rattle.hippo_audit_search.proofs.SearchLemmas.{whole-stages}
use Rattle.hippo_audit_search.proofs.candidates.has_any.Goals as goal

pub has-requires-clause-covers : goal.has-requires-clause-covers
has-requires-clause-covers g c = λ table within.
    let side = c.args.side.now in
    let long : length c.deref_mut.result.now ≡ length side.sets.now = ap (length {A = Option ℕ}) (c.deref_mut.ensures.value ∙ c.in_ok-slots.ensures) ∙ length-replicate c.len.result None ∙ c.len.ensures in
    inr ((whole-stages (g.C.ChoiceView.choices side.choices.now) side.query.now side.sets.now c.deref.result.now c.in_ok-order.order.items c.in_ok-stages.stages.items c.deref-2.result.now (length side.sets.now)
    c.in_ok-stages.ensures c.deref-2.ensures.value c.deref.ensures.value c.in_ok-order.ensures.whole refl).all table (subst (λ (n : ℕ). table < n) long within))
