-- So far some lines have had their effects; each turn takes one.
use Rattle.std.proofs.Common.{ℕ, length}
use Rattle.hippo_keeper.specs.MemoryKeeping.{memory_keeper_state}
use Rattle.hippo_engine.specs.Carrying.{AtWork}
use Rattle.hippo_serve_jobs.specs.Drilling.{HasDrilled}
use Rattle.hippo_serve_jobs.proofs.drilling.Drilling.finish.Given as goal

abbrev pub invariant-loop : goal.invariant-loop
invariant-loop g l = record {
  at_work : AtWork l.self.engine (memory_keeper_state l.self.keeper);
  drilled : (size number : ℕ) → HasDrilled size number l.initial.self → HasDrilled size number l.self;
}

abbrev pub decreases-loop : goal.decreases-loop
decreases-loop g l = length l.self.left
