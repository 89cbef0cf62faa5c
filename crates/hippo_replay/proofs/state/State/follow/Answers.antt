-- The entry may come next, or not.
use Rattle.hippo_replay.proofs.TakingInLemmas.{IsNext-here}
use Rattle.hippo_replay.proofs.state.State.follow.Goals as goal

pub add-requires : goal.add-requires
add-requires c = record { next = IsNext-here c.args.self.now c.args.entry.now c.requires.sound (rw c.in-Ok-true.field-0-test at c.in-Ok-true.ensures) }
