-- The set of choices has one more key.
use Rattle.std.proofs.Common.{◌∙◌, true, cond, ◌&&◌, refl, ap}
use Rattle.std.specs.Prelude.{bytes_eq}
use Rattle.std.specs.Ordering.{int_eq}
use Rattle.hippo_history_carry.specs.declared.keys.ChoiceKey.{ChoiceKey}
use Rattle.hippo_history_carry.specs.Decisions.{same_subject, is_chosen_in}
use Rattle.hippo_history_carry.proofs.AddLemmas.{cond_or}
use Rattle.hippo_history_carry.proofs.decided.Decided.add_choice.Goals as goal

pub returns-clause-adds : goal.returns-clause-adds
returns-clause-adds c = record {
  choices = λ s i.
      let other : ChoiceKey = record { subject = s; item = i } in
      c.in_ok-insert.ensures.updates.0 other
      ∙ ap (λ (key : ChoiceKey). cond (same_subject key other) true (is_chosen_in c.args.self.now s i)) c.in_ok-key.ensures ∙ cond_or (int_eq c.args.subject.now s && bytes_eq c.args.item.now i) (is_chosen_in c.args.self.now s i);
  others = (refl, refl, refl);
}
