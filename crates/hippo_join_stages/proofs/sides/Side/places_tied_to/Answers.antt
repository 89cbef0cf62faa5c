-- The chosen row has the value that it has in each combination that fits.
use Rattle.std.proofs.Common.{Bor, Option, Some, sym, ap, subst, ◌∙◌}
use Rattle.std.specs.Prelude.{slice_set}
use Rattle.std.proofs.lemmas.Bool.{false≢true}
use Rattle.hippo_model.specs.Terms.{Combination}
use Rattle.hippo_model.specs.Masking.{raw_value}
use Rattle.hippo_values.specs.declared.values.Value.{Value}
use Rattle.hippo_join_lookups.specs.declared.ties.Tie.{Tie}
use Rattle.hippo_join_lookups.specs.Places.{rows_at}
use Rattle.hippo_join_lookups.proofs.SlotLemmas.{raw_same}
use Rattle.hippo_join_stages.specs.Stages.{AreTied}
use Rattle.hippo_join_stages.proofs.SufficeLemmas.{enough-of, rows-tied, told, unwrapped}
use Rattle.hippo_join_stages.proofs.sides.Side.places_tied_to.Goals as goal

pub returns-then-is_chosen-clause-reaches : goal.returns-then-is_chosen-clause-reaches
returns-then-is_chosen-clause-reaches g c = λ places fits counts place at.
    let sets = c.args.self.now.sets.now in
    let tie = c.args.tie.now in
    let own = raw_same (g.C.ChoiceView.choices c.args.self.now.choices.now) sets c.args.slots.now places fits tie.other (sym c.is_chosen.ensures ∙ c.if-is_chosen.true) in
    c.places_with.ensures.reaches places counts
    (sym own ∙ ap (λ (rows : Combination). raw_value rows tie.other) (sym c.requires.rows) ∙ sym c.raw_value.ensures ∙ unwrapped c.raw_value.result _ ∙ ap (λ (lent : Bor Value). lent.now) (sym c.unwrap_or-value.ensures))
    place at

pub returns-then-is_chosen-clause-count : goal.returns-then-is_chosen-clause-count
returns-then-is_chosen-clause-count g c = λ still yes place has set at within.
    let sets = c.args.self.now.sets.now in
    let slots = c.args.slots.now in
    let stage = c.args.stage.now in
    let tie = c.args.tie.now in
    let value = c.places_with.ensures.equal set at place has in
    let rows = rows_at sets (slice_set slots stage.table (Some place)) in
    let known = sym c.is_chosen.ensures ∙ c.if-is_chosen.true in
    let is = ap (λ (rows : Combination). raw_value rows tie.other) (sym c.requires.rows) ∙ sym c.raw_value.ensures ∙ unwrapped c.raw_value.result _ ∙ ap (λ (lent : Bor Value). lent.now) (sym c.unwrap_or-value.ensures) in
    c.requires.stage.enough (enough-of stage slots yes) rows
    (subst (λ (t : Option Tie). AreTied stage.table t rows) (sym c.requires.tie)
    (rows-tied sets slots stage.table place tie.column tie.other set c.unwrap_or-value.result.now at still known value.0 value.1 is))

pub returns-else-is_chosen-clause-count : goal.returns-else-is_chosen-clause-count
returns-else-is_chosen-clause-count g c = λ still yes.
    absurd (false≢true (sym c.if-is_chosen.false ∙ c.is_chosen.ensures ∙ told c.args.stage.now c.args.slots.now yes c.args.tie.now c.requires.tie))
