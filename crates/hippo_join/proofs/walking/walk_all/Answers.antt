-- At the start no row is chosen.
use Rattle.std.proofs.Common.{◌≡◌, true, length, replicate, None, ap, ◌∙◌, sym}
use Rattle.hippo_join_lookups.specs.Places.{are_there, rows_at, stands}
use Rattle.hippo_join_lookups.proofs.SlotLemmas.{there-none}
use Rattle.hippo_join_stages.specs.Visiting.{Completes}
use Rattle.hippo_join_stages.proofs.FindingLemmas.{walk-all}
use Rattle.hippo_join_stages.proofs.ReachLemmas.{length-unchosen}
use Rattle.hippo_join.proofs.VisitingLemmas.{visited-as, completes-open}
use Rattle.hippo_join.proofs.walking.walk_all.Goals as goal

pub walk-requires : goal.walk-requires
walk-requires g c =
    let sets = c.args.side.now.sets.now in
    let none : c.deref_mut.result.now ≡ replicate (length sets) None = c.deref_mut.ensures.value ∙ c.in_ok-slots.ensures ∙ ap (λ n. replicate n None) c.len.ensures in
    record {
      can = walk-all (g.C.ChoiceView.choices c.args.side.now.choices.now) c.args.side.now.query.now sets c.args.in_order c.args.order.now c.in_ok-stages.stages.items c.deref-2.result.now c.deref_mut.result.now c.in_ok-stages.ensures c.deref-2.ensures.value
          (length-unchosen c.deref_mut.result.now c.len.result _ (c.deref_mut.ensures.value ∙ c.in_ok-slots.ensures) c.len.ensures) c.requires.whole c.requires.rises;
      stand = record { there = ap (are_there sets) none ∙ there-none sets (length sets); are = c.in_ok-rows.ensures ∙ ap (rows_at sets) (c.deref.ensures.value ∙ sym c.deref_mut.ensures.value) };
    }

pub returns : goal.returns
returns g c front before kept =
    visited-as (g.V.PlaceVisitor.Keeps c.args.visitor.now c.args.side.now.sets.now front) c.args.in_order (Completes (g.C.ChoiceView.choices c.args.side.now.choices.now) c.args.side.now.query.now c.args.side.now.sets.now c.deref_mut.result.now) (λ places. stands (g.C.ChoiceView.choices c.args.side.now.choices.now) c.args.side.now.query.now c.args.side.now.sets.now places ≡ true) c.in_ok-_onward._onward before c.walk.new.state
    (λ places is. is.1) (completes-open (g.C.ChoiceView.choices c.args.side.now.choices.now) c.args.side.now.query.now c.args.side.now.sets.now c.deref_mut.result.now (c.deref_mut.ensures.value ∙ c.in_ok-slots.ensures ∙ ap (λ n. replicate n None) c.len.ensures))
    (c.in_ok-_onward.ensures.kept front before kept)
