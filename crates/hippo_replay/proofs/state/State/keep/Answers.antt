-- The entry may come next.
use Rattle.hippo_replay.proofs.RecordingLemmas.{MayAppend-kept}
use Rattle.hippo_replay.proofs.state.State.keep.Goals as goal

pub append-requires : goal.append-requires
append-requires g c = record { may = MayAppend-kept c.args.entry.now c.args.self.now (g.P.Keeper.state c.args.keeper.now) c.requires.may }

pub returns : goal.returns
returns g c = record { keeps = c.append.ensures.keeps c.args.self.now c.requires.may.follows }
