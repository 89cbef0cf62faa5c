-- The set of births has one more key.
use Rattle.std.proofs.Common.{◌∙◌, true, cond, ◌&&◌, refl, ap}
use Rattle.std.specs.Prelude.{bytes_eq}
use Rattle.std.specs.Cmp.Lexicographic.{pointwise}
use Rattle.hippo_values.specs.contracts.values.ValuePartialEq.TheImpl as values
use Rattle.hippo_history_carry.specs.declared.keys.RowKey.{RowKey}
use Rattle.hippo_history_carry.specs.Decisions.{same_born, is_born_in}
use Rattle.hippo_history_carry.proofs.AddLemmas.{cond_or}
use Rattle.hippo_history_carry.proofs.decided.Decided.add_birth.Goals as goal

pub returns-clause-adds : goal.returns-clause-adds
returns-clause-adds c = record {
  births = λ t k.
      let other : RowKey = record { table = t; key = k } in
      c.in_ok-insert.ensures.updates.0 other
      ∙ ap (λ (key : RowKey). cond (same_born key other) true (is_born_in c.args.self.now t k)) c.in_ok-key.ensures ∙ cond_or (bytes_eq c.args.table.now t && pointwise (values.ghosts).eq c.args.key.now k) (is_born_in c.args.self.now t k);
  others = (refl, refl, refl);
}
