-- The value of the tie in the chosen row.
use Rattle.std.proofs.Common.{Bor, sym, ap, ◌∙◌}
use Rattle.hippo_values.specs.declared.values.Value.{Value}
use Rattle.hippo_join_lookups.proofs.SlotLemmas.{Fits-at, raw-at}
use Rattle.hippo_join_stages.proofs.SufficeLemmas.{unwrapped}
use Rattle.hippo_join_stages.proofs.sides.Side.tied_places.Goals as goal

pub returns : goal.returns
returns g c = λ places fits counts place at.
    let sets = c.args.self.now.sets.now in
    let tie = c.args.tie.now in
    c.places_with.ensures.reaches places counts
    (raw-at sets places tie.other c.get-others.result.now c.in-Some.place c.get-others.ensures (Fits-at c.args.slots.now places tie.other.table c.in-Some.place fits (sym c.in-Some.ensures)) ∙ sym c.value_at.ensures ∙ unwrapped c.value_at.result _ ∙ ap (λ (lent : Bor Value). lent.now) (sym c.unwrap_or-value.ensures))
    place at
