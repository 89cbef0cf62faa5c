-- One more place was tested, or all were.
use Rattle.std.proofs.Common.{◌≡◌, true, List, Some, length, subst, sym, ap, ◌∙◌, arith, length-set}
use Rattle.std.proofs.lemmas.List.{set-set}
use Rattle.hippo_model.specs.Terms.{Combination, Place}
use Rattle.std.specs.Prelude.{Option, slice_set}
use Rattle.hippo_join_lookups.specs.Places.{Fits, blank, rows_at, stands}
use Rattle.hippo_join_stages.specs.Walking.{candidate_places}
use Rattle.hippo_join_lookups.proofs.PruneLemmas.{long-enough}
use Rattle.hippo_join_stages.proofs.ReachLemmas.{fits-alone, tested-more, all-tested, length-unchosen}
use Rattle.hippo_join_lookups.proofs.SlotLemmas.{rows-but}
use Rattle.hippo_join_stages.proofs.sides.Side.tested_places.Goals as goal

pub renew-requires-clause-long : goal.renew-requires-clause-long
renew-requires-clause-long g c = ap length c.deref-in-loop-index.ensures.value ∙ length-set c.loop-index.slots.items c.args.table (Some c.place-place.result) ∙ c.loop-index.invariant.long

pub renew-requires-clause-rows : goal.renew-requires-clause-rows
renew-requires-clause-rows g c =
    let sets = c.args.self.now.sets.now in
    ap (λ (rows : Combination). slice_set rows c.args.table blank) c.loop-index.invariant.rows
    ∙ rows-but sets c.loop-index.slots.items c.args.table (Some c.place-place.result) blank
    ∙ ap (λ (slots : List (Option Place)). slice_set (rows_at sets slots) c.args.table blank) (sym c.deref-in-loop-index.ensures.value)

pub may_count_by-may_count-requires : goal.may_count_by-may_count-requires
may_count_by-may_count-requires g c =
    c.renew.ensures ∙ ap (rows_at c.args.self.now.sets.now) (c.deref-in-loop-index.ensures.value ∙ sym c.deref-in-loop-index-2.ensures.value)

pub loop-index-init : goal.loop-index-init
loop-index-init g c = record {
  long = length-unchosen c.in_ok-slots.slots.items c.len.result _ c.in_ok-slots.ensures c.len.ensures;
  rows = c.in_ok-rows.ensures ∙ ap (rows_at c.args.self.now.sets.now) c.deref.ensures.value;
  fit = λ places long place at. fits-alone c.in_ok-slots.slots.items c.len.result c.args.table places c.in_ok-slots.ensures (long ∙ sym c.len.ensures) place at;
  so_far = λ places counts place at k lower there. absurd (omega arith);
}

pub loop-index-preserved : goal.loop-index-preserved
loop-index-preserved g c = record {
  long = simp length-set c.loop-index.invariant.long;
  rows = c.renew.ensures ∙ ap (rows_at c.args.self.now.sets.now) c.deref-in-loop-index.ensures.value;
  fit = λ places long place at. rw (set-set c.loop-index.slots.items c.args.table (Some c.place-place.result) (Some place)) (c.loop-index.invariant.fit places long place at);
  so_far =
      tested-more (λ places. stands (g.C.ChoiceView.choices c.args.self.now.choices.now) c.args.self.now.query.now c.args.self.now.sets.now places ≡ true) c.args.table
      c.deref-in-loop-index-2.result.now c.may_count_by-may_count.result c.loop-index.places.items c.push_if.new.places.items (candidate_places c.args.candidates.now) c.place-place.result c.loop-index.index c.place-place.ensures c.in_ok-push_if.ensures
      (λ places counts at. subst (λ (slots : List (Option Place)). Fits slots places) (sym c.deref-in-loop-index-2.ensures.value) (c.loop-index.invariant.fit places (long-enough (g.C.ChoiceView.choices c.args.self.now.choices.now) c.args.self.now.query.now c.args.self.now.sets.now places counts) c.place-place.result at))
      c.may_count_by-may_count.ensures c.loop-index.invariant.so_far;
}

pub returns : goal.returns
returns g c =
    all-tested (λ places. stands (g.C.ChoiceView.choices c.args.self.now.choices.now) c.args.self.now.query.now c.args.self.now.sets.now places ≡ true) c.args.table
    (candidate_places c.args.candidates.now) c.loop-index.places.items c.loop-index.index (omega (arith, c.loop-index-test.false, c.len-index-end.ensures)) c.requires.candidates c.loop-index.invariant.so_far
