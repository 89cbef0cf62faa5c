-- The numbers never decrease.
use Rattle.std.proofs.Common.{◌≡◌, ◌∙◌, ap, max}
use Rattle.std.specs.Prelude.{is_ok}
use Rattle.hippo_policy.specs.Words.{latest_number}
use Rattle.hippo_policy.proofs.SaidLemmas.{rises-pushed}
use Rattle.hippo_policy.proofs.sayings.Sayings.push.Goals as goal

pub invariant_of-self : goal.invariant_of-self
invariant_of-self g c =
    let is : c.max-number.result ≡ max c.args.said.number (latest_number c.args.self.now.said.items) = c.max-number.ensures ∙ ap (max c.args.said.number) c.last_number.ensures in
    record { rises = rises-pushed (is_ok c.push.result) c.args.self.now.said.items c.push.new.self.items c.args.said c.max-number.result is c.args.self.now.rises c.push.ensures.items }
