-- The set of authorizations has one more key.
use Rattle.std.proofs.Common.{◌∙◌, true, cond, ◌&&◌, refl, ap}
use Rattle.std.specs.Prelude.{bytes_eq}
use Rattle.hippo_history_carry.specs.declared.keys.GrantKey.{GrantKey}
use Rattle.hippo_history_carry.specs.Decisions.{same_grant, is_granted_in}
use Rattle.hippo_history_carry.proofs.AddLemmas.{cond_or}
use Rattle.hippo_history_carry.proofs.decided.Decided.add_grant.Goals as goal

pub returns-clause-adds : goal.returns-clause-adds
returns-clause-adds c = record {
  grants = λ u p r.
      let other : GrantKey = record { user = u; purpose = p; recipient = r } in
      c.in_ok-insert.ensures.updates.0 other
      ∙ ap (λ (key : GrantKey). cond (same_grant key other) true (is_granted_in c.args.self.now u p r)) c.in_ok-key.ensures ∙ cond_or (bytes_eq c.args.user.now u && (bytes_eq c.args.purpose.now p && bytes_eq c.args.recipient.now r)) (is_granted_in c.args.self.now u p r);
  others = (refl, refl, refl);
}
