use Rattle.hippo_engine.proofs.engine.Engine.change.Goals as goal

pub returns-clause-carries : goal.returns-clause-carries
returns-clause-carries g c = rw c.get.ensures at c.record_change-recorded.ensures.carries
