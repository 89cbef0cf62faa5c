-- What is stored was found in the files.
use Rattle.sqlite_wal.specs.Files.{image_at}
use Rattle.hippo_serve.proofs.NextRunLemmas.{started_over}
use Rattle.hippo_serve.proofs.laws.start_next.Goals as goal

pub returns-in-Ok : goal.returns-in-Ok
returns-in-Ok g c = record {
  started = started_over (image_at g.B.Start) c.args.store.now _ _ (c.new-keeper.ensures.finds c.args.store.now) (c.new-keeper.ensures.own c.args.store.now) c.in-Ok.ensures.starts;
}
