-- The entries so far are taken in; the numbers of the remaining ones rise from above the last one.
use Rattle.std.proofs.Common.{◌++◌, take, drop}
use Rattle.hippo_keeper.specs.Keeping.{Store, RisesAbove}
use Rattle.hippo_replay.specs.Standing.{IsSound}
use Rattle.hippo_replay.specs.TakingIn.{HasLoaded}
use Rattle.hippo_replay.proofs.state.State.take_in_all.Given as goal

abbrev pub invariant-loop-kept : goal.invariant-loop-kept
invariant-loop-kept l = record {
  taken : (store : Store) → HasLoaded l.initial.self store → HasLoaded l.self (store ++ take l.kept-index l.piece);
  sound : IsSound l.self;
  room : RisesAbove l.self.count (drop l.kept-index l.piece);
}
