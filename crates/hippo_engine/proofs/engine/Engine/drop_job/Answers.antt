-- The job is dropped.
use Rattle.std.proofs.Common.{refl}
use Rattle.hippo_engine.specs.declared.engine.Engine.{Engine}
use Rattle.hippo_engine.proofs.JobLemmas.{AddsNothing-dropped, job_held}
use Rattle.hippo_engine.proofs.engine.Engine.drop_job.Goals as goal

pub returns : goal.returns
returns c =
    let new : Engine = record { state = c.args.self.now.state; world = record (c.args.self.now.world) { jobs = c.put.new.self }; reply = c.say_done.new.reply } in
    let there = job_held c.args.self.now.world c.args.number c.requires.there in
    AddsNothing-dropped c.args.number c.args.self.now new there.0 there.1 refl
    (λ i. record (c.args.self.now.world) { jobs = (rw c.from.ensures at c.put.ensures) i }) c.say_done.ensures
