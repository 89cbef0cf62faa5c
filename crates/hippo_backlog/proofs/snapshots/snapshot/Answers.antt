-- The rows are moved forward from an empty table.
use Rattle.hippo_backlog.proofs.SnapshotLemmas.{snapshot_ok, snapshot_err, Snapshots-none}
use Rattle.hippo_backlog.proofs.snapshots.snapshot.Goals as goal

pub returns-in-Ok-advance_to : goal.returns-in-Ok-advance_to
returns-in-Ok-advance_to g c = record {
  snapshots = snapshot_ok c.args.schema.now c.args.number (g.P.Keeper.state c.args.keeper.now) (g.P.Keeper.state c.advance_to.new.keeper) c.args.steps.now c.advance_to.new.steps c.in-Ok.key c.new-versions.result c.advance_to.new.self c.in-Ok.ensures c.new-versions.ensures c.into_rows.result c.into_rows.ensures c.in-Ok-advance_to.ensures.brings;
}

pub returns-in-Err-advance_to : goal.returns-in-Err-advance_to
returns-in-Err-advance_to g c = record {
  snapshots = snapshot_err c.args.schema.now c.args.number (g.P.Keeper.state c.args.keeper.now) (g.P.Keeper.state c.advance_to.new.keeper) c.args.steps.now c.advance_to.new.steps c.in-Ok.key c.new-versions.result c.advance_to.new.self c.in-Ok.ensures c.new-versions.ensures c.in-Err-advance_to.fault c.in-Err-advance_to.ensures.brings;
}

pub returns-in-Err : goal.returns-in-Err
returns-in-Err g c = record { snapshots = Snapshots-none c.args.schema.now c.args.number (g.P.Keeper.state c.args.keeper.now) c.args.steps.now c.requires.ready }
