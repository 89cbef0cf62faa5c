-- Its accesses are added, and then the tables brought forward.
use Rattle.std.proofs.Common.{refl}
use Rattle.hippo_history_uses.proofs.DisclosingLemmas.{takes_in}
use Rattle.hippo_history_uses.proofs.disclosing.Disclosures.take_in.Goals as goal

pub returns : goal.returns
returns c =
    takes_in c.args.past.now c.args.entry.now c.args.within c.args.self.now c.add_if.new.self _ c.in_ok-add_if.ensures refl refl c.in_ok-apply.ensures.ok
