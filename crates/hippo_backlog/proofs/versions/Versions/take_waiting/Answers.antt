-- One more version is applied, or none is left up to the number, or one does not fit.
use Rattle.std.proofs.Common.{◌∙◌}
use Rattle.hippo_backlog.proofs.VersionLemmas.{TakesWaiting-here, waits_ok, waits_err}
use Rattle.hippo_backlog.proofs.versions.Versions.take_waiting.Goals as goal

pub loop-fault-init : goal.loop-fault-init
loop-fault-init c = TakesWaiting-here c.args.schema.now c.args.number c.args.self.now

pub take_first-requires : goal.take_first-requires
take_first-requires c = record { key = c.loop-fault.invariant.taken.key ∙ c.requires.key }

pub loop-fault-preserved : goal.loop-fault-preserved
loop-fault-preserved c =
    waits_ok c.args.schema.now c.args.number c.args.self.now c.loop-fault.self c.take_first.new.self c.loop-fault.invariant c.take_first.result c.take_first.ensures.takes _ c.in-Ok-true.is

pub returns-in-Ok-false-clause-takes : goal.returns-in-Ok-false-clause-takes
returns-in-Ok-false-clause-takes c =
    waits_ok c.args.schema.now c.args.number c.args.self.now c.loop-fault.self c.take_first.new.self c.loop-fault.invariant c.take_first.result c.take_first.ensures.takes _ c.in-Ok-false.is

pub returns-in-Err : goal.returns-in-Err
returns-in-Err c = record {
  takes = waits_err c.args.schema.now c.args.number c.args.self.now c.loop-fault.self c.take_first.new.self c.loop-fault.invariant c.take_first.result c.take_first.ensures.takes c.in-Err.fault c.in-Err.is;
  past = tt;
}
