use Rattle.hippo_engine_checks.proofs.EntryLemmas.{handed_entry}
use Rattle.hippo_engine_checks.proofs.entries.read_entry.Goals as goal

pub returns-in-Ok : goal.returns-in-Ok
returns-in-Ok g c = record {
  reads = handed_entry c.args.number c.requires.some (g.P.Keeper.state c.args.keeper.now) (g.P.Keeper.state c.read_all.new.self) c.args.steps.now c.read_all.new.steps
      c.in-Ok.list c.first_entry-entry.result c.in-Ok.ensures.reads c.in-Ok.ensures.steps (rw c.as_slice.ensures at c.first_entry-entry.ensures);
}
