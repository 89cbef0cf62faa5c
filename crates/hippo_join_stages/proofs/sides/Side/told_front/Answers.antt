-- One column more.
use Rattle.std.proofs.Common.{ℕ, ◌+◌, [], ◌∷◌, length, take, ap, refl, sym, get_or, subst, ◌∙◌, length-append}
use Rattle.std.proofs.lemmas.Grind.{get_or_default_zero}
use Rattle.hippo_model.specs.Conditions.{outer_parts}
use Rattle.hippo_model.specs.Terms.{Place}
use Rattle.hippo_model.specs.Masking.{raw_value}
use Rattle.hippo_join_stages.specs.Keys.{IsKeyTold}
use Rattle.hippo_join_lookups.specs.Places.{chosen_rows}
use Rattle.hippo_join_lookups.proofs.PlaceSteps.{map-more}
use Rattle.hippo_join_stages.proofs.sides.Side.told_front.Goals as goal

pub loop-column-preserved : goal.loop-column-preserved
loop-column-preserved g c = record {
  long = ap length c.in_ok-push.ensures.ok ∙ length-append c.loop-column.front (c.in_ok-copy.field-0 ∷ []) ∙ ap (λ n. n + 1) c.loop-column.invariant.long;
  told = λ places fits all.
      let columns = c.args.columns.now in
      let i = c.loop-column.column-index in
      let column : ℕ = get_or columns i 0 in
      map-more (λ (column : Place). raw_value (chosen_rows c.args.self.now.sets.now places) (record { table = c.args.table; column = column })) columns i c.loop-column.front c.push.new.self column column c.in_ok-copy.field-0
      (c.loop-column.invariant.told places fits all) c.loop-column-test.true (sym (get_or_default_zero columns i column c.loop-column-test.true)) refl (c.in_ok-copy.ensures ∙ sym (c.in-Some.ensures places fits all).0) c.in_ok-push.ensures.ok;
}

pub returns : goal.returns
returns g c =
    subst (λ (n : ℕ). IsKeyTold (g.C.ChoiceView.choices c.args.self.now.choices.now) c.args.self.now.sets.now c.args.slots.now (outer_parts c.args.self.now.query.now.cond) c.args.table (take n c.args.columns.now) c.loop-column.front) (sym c.loop-column.invariant.long)
    c.loop-column.invariant.told
