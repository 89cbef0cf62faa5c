-- At the start no row is chosen, and each pass chooses some.
use Rattle.std.proofs.Common.{ℕ, List, Option, None, length, replicate, sym, ap, subst, ◌∙◌, arith}
use Rattle.std.proofs.lemmas.List.{length-replicate, with_items_is}
use Rattle.hippo_model.specs.Terms.{Place}
use Rattle.hippo_join.specs.Settling.{Settles}
use Rattle.hippo_join_lookups.proofs.PruneLemmas.{long-enough}
use Rattle.hippo_join_lookups.proofs.SlotLemmas.{Fits-open}
use Rattle.hippo_join.proofs.SettlingLemmas.{Settles_refl, Settles-trans}
use Rattle.hippo_join.proofs.settling.settled.Goals as goal

pub loop-pass-init : goal.loop-pass-init
loop-pass-init g c =
    let side = c.args.side.now in
    subst (λ (s : List (Option Place)). Settles (g.C.ChoiceView.choices side.choices.now) side.query.now side.sets.now (replicate (length side.sets.now) None) s)
    (sym (c.in_ok-slots.ensures ∙ ap (λ (n : ℕ). replicate {A = Option Place} n None) c.len.ensures))
    (Settles_refl (g.C.ChoiceView.choices side.choices.now) side.query.now side.sets.now (replicate (length side.sets.now) None))

pub settle_each-requires : goal.settle_each-requires
settle_each-requires g c = ap (length {A = Option Place}) c.deref_mut.ensures.value ∙ c.loop-pass.invariant.long ∙ length-replicate (length c.args.side.now.sets.now) None

pub loop-pass-preserved : goal.loop-pass-preserved
loop-pass-preserved g c =
    let side = c.args.side.now in
    let before = replicate {A = Option Place} (length side.sets.now) None in
    let Chosen : List (Option Place) → List (Option Place) → Type 0 = λ some more. Settles (g.C.ChoiceView.choices side.choices.now) side.query.now side.sets.now some more in
    Settles-trans (g.C.ChoiceView.choices side.choices.now) side.query.now side.sets.now before c.loop-pass.slots.items _ c.loop-pass.invariant
    (subst (λ (some : List (Option Place)). Chosen c.loop-pass.slots.items some) (sym (with_items_is c.loop-pass.slots c.settle_each.new.slots (omega (arith, c.settle_each.auto.slots, c.deref_mut.ensures.len))))
    (subst (λ (some : List (Option Place)). Chosen some c.settle_each.new.slots) c.deref_mut.ensures.value c.in_ok-settle_each.ensures))

pub returns : goal.returns
returns g c = λ places counts.
    let side = c.args.side.now in
    c.loop-pass.invariant.fits places (Fits-open places (length side.sets.now) (long-enough (g.C.ChoiceView.choices side.choices.now) side.query.now side.sets.now places counts)) counts
