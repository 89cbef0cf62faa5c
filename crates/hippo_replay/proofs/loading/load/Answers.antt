-- The results of the start and of the reads.
use Rattle.std.proofs.Common.{refl}
use Rattle.hippo_keeper.specs.declared.faults.KeeperFault.{KeeperFault}
use Rattle.hippo_keeper.proofs.Results.{well}
use Rattle.hippo_keeper.proofs.CallLemmas.{IsReady-after}
use Rattle.hippo_replay.proofs.LoadingLemmas.{Loads-unstarted, Loads-started}
use Rattle.hippo_replay.proofs.loading.load.Goals as goal

pub read_all-all-requires : goal.read_all-all-requires
read_all-all-requires g c = record {
  ready = IsReady-after (well KeeperFault) (g.P.Keeper.state c.args.keeper.now) (g.P.Keeper.state c.start.new.self) refl c.in-Ok.ensures.starts.call;
  order = λ tells. (c.in-Ok.ensures.starts.ok tells).order;
  empty = c.new-state.ensures;
}

pub returns-in-Ok : goal.returns-in-Ok
returns-in-Ok g c = rw c.and.ensures (record { loads = Loads-started c.args.name.now (g.P.Keeper.state c.args.keeper.now) (g.P.Keeper.state c.start.new.self) (g.P.Keeper.state c.read_all-all.new.keeper) c.args.steps.now c.read_all-all.new.steps c.read_all-all.new.state c.in-Ok.ensures.starts c.read_all-all.result c.read_all-all.ensures.reads })

pub returns-in-Err : goal.returns-in-Err
returns-in-Err g c = rw c.fault_of.ensures (record { loads = Loads-unstarted c.args.name.now (g.P.Keeper.state c.args.keeper.now) (g.P.Keeper.state c.start.new.self) c.args.steps.now c.in-Err.fault c.in-Err.ensures.starts })
