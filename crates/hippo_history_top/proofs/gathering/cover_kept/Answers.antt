-- The entry that has the form is covered, or none has it.
use Rattle.hippo_history_top.proofs.GatherLemmas.{ok_so, Gathers-entry, Gathers-nobody}
use Rattle.hippo_history_top.proofs.gathering.cover_kept.Goals as goal

pub returns-in-Ok-Some : goal.returns-in-Ok-Some
returns-in-Ok-Some g c = record {
  gathers = ok_so c.cover-covered.result
      (Gathers-entry (g.G.Gather.Covers c.args.gathered.now c.args.asked.now) (g.G.Gather.Covers c.cover-covered.new.self c.args.asked.now) c.args.kept.now c.in-Ok-Some.entry (rw c.in-Ok-Some.field-0-is at c.in-Ok-Some.ensures.found))
      c.cover-covered.ensures.covers;
}

pub returns-in-Ok-None : goal.returns-in-Ok-None
returns-in-Ok-None g c = record {
  gathers = Gathers-nobody (g.G.Gather.Covers c.args.gathered.now c.args.asked.now) (g.G.Gather.Covers c.args.gathered.now c.args.asked.now) c.args.kept.now (rw c.in-Ok-None.field-0-is at c.in-Ok-None.ensures.found);
}
