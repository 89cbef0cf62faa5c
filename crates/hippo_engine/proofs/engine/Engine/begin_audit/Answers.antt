-- A job begins at the free number.
use Rattle.std.proofs.Common.{refl}
use Rattle.hippo_engine.proofs.engine.Engine.begin_audit.Goals as goal

pub returns : goal.returns
returns c = record {
  job = c.begin-job.result;
  begun = c.begin-job.ensures.begun;
  state = refl;
  world = λ i. record (c.args.self.now.world) { jobs = c.put.ensures i };
  reply = c.say_number.ensures;
}
