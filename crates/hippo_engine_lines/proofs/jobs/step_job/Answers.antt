-- The job is stepped and put back.
use Rattle.std.proofs.Common.{◌≡◌, refl, sym, subst, ℕ, Some, None}
use Rattle.hippo_stmt_lines.specs.Forms.{steps}
use Rattle.hippo_report.specs.declared.speaker.Speaker.TheVariants.{Console}
use Rattle.hippo_stmt_lines.specs.Commands.{make_request}
use Rattle.hippo_engine_sessions.specs.Worlds.{with_at}
use Rattle.hippo_engine.specs.declared.engine.Engine.{Engine}
use Rattle.hippo_engine.specs.Carrying.{Carries}
use Rattle.hippo_engine_lines.proofs.StepLemmas.{Carries-job_step_effect, held_there}
use Rattle.hippo_engine.proofs.JobLemmas.{job_held}
use Rattle.hippo_engine_lines.proofs.jobs.step_job.Goals as goal

pub returns-clause-carries : goal.returns-clause-carries
returns-clause-carries g c =
    let old : Engine = c.args.engine.now in
    let new : Engine = record { state = old.state; world = record (old.world) { jobs = c.put.new.self }; reply = c.tell_step-told.new.reply } in
    let before = g.P.Keeper.state c.args.keeper.now in
    let after = g.P.Keeper.state c.step-looked.new.keeper in
    subst (λ (number : ℕ). Carries (make_request Console (steps number c.args.count)) c.tell_step-told.result old new before after c.args.steps.now c.step-looked.new.steps) c.from-at.ensures
    (Carries-job_step_effect c.from-at.result c.args.count _ c.step-looked.result old new before after c.args.steps.now c.step-looked.new.steps
    (record {
      job = c.in-Some.job;
      mid = c.step-looked.new.self;
      told = c.tell_step-told.new.job;
      there = sym c.in-Some.ensures.taken;
      stepped = c.step-looked.ensures.stepped;
      tells = c.tell_step-told.ensures.told;
      same = refl;
      world = λ i. record (old.world) { jobs = put_there i };
    })
    c.tell_step-told.result c.tell_step-told.ensures.ended c.requires.at_work
    (λ history stands. record { valid = stands.valid; names = stands.names; book = stands.book; count = stands.count }))
  where
    put_there : c.put.new.self ≡ with_at (with_at c.args.engine.now.world.jobs c.from-at.result None) c.from-at.result (Some c.tell_step-told.new.job)
    put_there = rw c.in-Some.ensures.left at c.put.ensures

pub unreachable-requires : goal.unreachable-requires
unreachable-requires g c =
    let none = rw c.from-at.ensures at c.in-None.ensures.taken in
    let there = job_held c.args.engine.now.world c.args.number c.requires.there in
    absurd (held_there c.args.engine.now.world.jobs c.args.number there.0 there.1 none)
