-- What the line that sets the clock does to the run.
use Rattle.std.proofs.Common.{[], ◌∙◌, ap}
use Rattle.hippo_serve_args.specs.declared.calls.Job.{Job}
use Rattle.hippo_serve_jobs.specs.Loads.{asked_lines}
use Rattle.hippo_serve_jobs.proofs.FirstLemmas.{first_status, first_call, first_served}
use Rattle.hippo_serve_jobs.proofs.serving.Serving.serve_first.Goals as goal

pub returns-in-Load-clause-status : goal.returns-in-Load-clause-status
returns-in-Load-clause-status g c =
    first_status c.args.job.now c.in-Load.moment (ap (λ (job : Job). asked_lines job []) c.in-Load.is) c.args.self.now.engine c.carry_out.new.engine (g.P.Keeper.state c.args.keeper.now) (g.P.Keeper.state c.carry_out.new.keeper)
    (g.K.Sink.written c.args.sink.now) (g.K.Sink.written c.carry_out.new.sink) c.args.steps.now c.carry_out.new.steps c.carry_out.result
    (rw (c.as_str.ensures ∙ c.make_clock.ensures) at (c.carry_out.ensures.line (λ e. cc))) c.requires.at_work

pub returns-in-Load-clause-call : goal.returns-in-Load-clause-call
returns-in-Load-clause-call g c =
    first_call c.args.job.now c.in-Load.moment (ap (λ (job : Job). asked_lines job []) c.in-Load.is) c.args.self.now.engine c.carry_out.new.engine (g.P.Keeper.state c.args.keeper.now) (g.P.Keeper.state c.carry_out.new.keeper)
    (g.K.Sink.written c.args.sink.now) (g.K.Sink.written c.carry_out.new.sink) c.args.steps.now c.carry_out.new.steps c.carry_out.result
    (rw (c.as_str.ensures ∙ c.make_clock.ensures) at (c.carry_out.ensures.line (λ e. cc)))

pub returns-in-Load-clause-served : goal.returns-in-Load-clause-served
returns-in-Load-clause-served g c = λ tells setting history before replied.
    first_served c.args.job.now c.in-Load.moment (ap (λ (job : Job). asked_lines job []) c.in-Load.is) c.args.self.now.engine c.carry_out.new.engine (g.P.Keeper.state c.args.keeper.now) (g.P.Keeper.state c.carry_out.new.keeper)
    (g.K.Sink.written c.args.sink.now) (g.K.Sink.written c.carry_out.new.sink) c.args.steps.now c.carry_out.new.steps c.carry_out.result
    (rw (c.as_str.ensures ∙ c.make_clock.ensures) at (c.carry_out.ensures.line (λ e. cc))) setting history before replied tells
