-- The entry that has the form, or none.
use Rattle.hippo_replay.proofs.TakingInLemmas.{taken_in, sound_still, same_number, none_taken}
use Rattle.hippo_replay.proofs.state.State.take_in.Goals as goal

pub returns-in-Ok-None-clause-taken : goal.returns-in-Ok-None-clause-taken
returns-in-Ok-None-clause-taken c =
    let found = (rw c.in-Ok-None.field-0-is at c.in-Ok-None.ensures).found in
    none_taken c.args.kept.now c.damage.result c.args.self.now found c.damage.ensures

pub returns-in-Ok-Some : goal.returns-in-Ok-Some
returns-in-Ok-Some c =
    let found = (rw c.in-Ok-Some.field-0-is at c.in-Ok-Some.ensures).found in
    record {
      taken = taken_in c.args.kept.now c.in-Ok-Some.entry c.follow-result.result c.args.self.now c.follow-result.new.self found c.follow-result.ensures.follows;
      sound = sound_still c.in-Ok-Some.entry c.follow-result.result c.args.self.now c.follow-result.new.self c.requires.sound c.follow-result.ensures.follows;
      count = same_number c.args.kept.now c.in-Ok-Some.entry c.follow-result.result c.follow-result.new.self.count found.sound c.follow-result.ensures.count;
    }
