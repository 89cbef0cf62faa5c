-- The set contains the new places, and all it had before.
use Rattle.hippo_join_stages.proofs.FindingLemmas.{one-more}
use Rattle.hippo_join.proofs.finding.insert.Goals as goal

pub returns-clause-ok : goal.returns-clause-ok
returns-clause-ok c = one-more c.args.places c.args.found.now.keys c.insert.new.self.keys c.in_ok-insert.ensures.updates.0
