-- A batch is read, or the read fails.
use Rattle.std.proofs.Common.{arith}
use Rattle.hippo_audit_job.proofs.ReadingLemmas.{ReadsAhead-piece, ReadsAhead-fault}
use Rattle.hippo_audit_job.proofs.reading.read_ahead.Goals as goal

pub returns-in-Ok : goal.returns-in-Ok
returns-in-Ok g c = record {
  reads = ReadsAhead-piece c.args.audit.now 100 c.args.end c.args.questions.now (g.P.Keeper.state c.args.keeper.now) (g.P.Keeper.state c.read_asked.new.self) c.reached.result c.requires.used c.reached.ensures c.in-Ok.piece c.put.new.self c.put.ensures (omega arith) c.in-Ok.ensures.reads;
}

pub returns-in-Err : goal.returns-in-Err
returns-in-Err g c =
    rw c.fault_of.ensures (record {
      reads = ReadsAhead-fault c.args.audit.now 100 c.args.end c.args.questions.now (g.P.Keeper.state c.args.keeper.now) (g.P.Keeper.state c.read_asked.new.self) c.reached.result c.requires.used c.reached.ensures c.in-Err.fault c.in-Err.ensures.reads;
    })
