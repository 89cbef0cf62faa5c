-- The entry counts.
use Rattle.std.proofs.Common.{subst, sym, Bool}
use Rattle.hippo_history_uses.specs.Disclosing.{Discloses}
use Rattle.hippo_history_uses.proofs.disclosing.Disclosures.add_if.Goals as goal

pub returns : goal.returns
returns c =
    subst (λ (counts : Bool). Discloses c.args.past.now c.args.entry.now counts c.args.self.now c.add_entry.new.self) (sym c.if-not-counts.false) c.in_ok-add_entry.ensures
