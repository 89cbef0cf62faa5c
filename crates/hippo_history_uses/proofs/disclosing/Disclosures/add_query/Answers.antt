-- The accesses of the query are added, and the tables are as before.
use Rattle.std.proofs.Common.{refl}
use Rattle.hippo_history_uses.proofs.DisclosingLemmas.{adds_meant}
use Rattle.hippo_history_uses.proofs.disclosing.Disclosures.add_query.Goals as goal

pub returns : goal.returns
returns c =
    adds_meant c.args.past.now c.args.entry.now c.args.query.now c.args.self.now _ c.in-Some.asked c.in-Some.ensures c.order_for.ensures refl c.in_ok-add_accesses.ensures
