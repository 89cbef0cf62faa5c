-- A piece is read and taken in, or the read failed.
use Rattle.std.proofs.Common.{not, arith}
use Rattle.hippo_replay.proofs.ReadingLemmas.{reads_on, reads_on-fault, sound_by, none_by, some_by}
use Rattle.hippo_replay.proofs.loading.read_on.Goals as goal

pub returns-in-Ok : goal.returns-in-Ok
returns-in-Ok g c =
    let before = g.P.Keeper.state c.args.keeper.now in
    let after = g.P.Keeper.state c.read_all.new.self in
    let empty = c.is_empty-any.result in
    let taken = rw c.as_slice.ensures at c.take_in_all-taken.ensures.taken in
    rw c.and.ensures (record {
      reads = reads_on 1000 before after c.args.state.now c.take_in_all-taken.new.self c.args.steps.now c.read_all.new.steps c.in-Ok.piece c.in-Ok.ensures.reads c.in-Ok.ensures.steps
          (not empty) (omega arith) (omega arith) c.requires.sound (none_by empty c.in-Ok.piece c.is_empty-any.ensures) (some_by empty c.in-Ok.piece c.is_empty-any.ensures) c.take_in_all-taken.result taken;
      sound = sound_by (not empty) c.take_in_all-taken.new.self c.take_in_all-taken.result c.take_in_all-taken.ensures.sound;
    })

pub returns-in-Err : goal.returns-in-Err
returns-in-Err g c =
    rw c.fault_of.ensures (record {
      reads = reads_on-fault 1000 (g.P.Keeper.state c.args.keeper.now) (g.P.Keeper.state c.read_all.new.self) c.args.state.now c.args.steps.now c.read_all.new.steps c.in-Err.fault c.in-Err.ensures.reads c.in-Err.ensures.steps;
      sound = tt;
    })
