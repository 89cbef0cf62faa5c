-- The entry is kept, or memory ran out, or the keeper failed.
use Rattle.std.proofs.Common.{refl, ◌∙◌}
use Rattle.hippo_engine.proofs.CarryingLemmas.{IsBacked-of}
use Rattle.hippo_engine.proofs.ChangeLemmas.{recorded, unrecorded, broken_change, told_short}
use Rattle.hippo_engine.proofs.engine.Engine.record_change.Goals as goal

pub record-requires : goal.record-requires
record-requires g c = record {
  may = record {
    backed = IsBacked-of c.args.self.now (g.P.Keeper.state c.args.keeper.now) c.requires.at_work;
    follows = c.requires.follows;
    number = c.requires.number;
  };
}

pub returns-in-Ok-clause-carries : goal.returns-in-Ok-clause-carries
returns-in-Ok-clause-carries g c = λ command steps changes.
    recorded command c.args.entry.now c.args.self.now
    (record { state = c.record.new.self; world = c.take_in.new.self; reply = c.say_number.new.reply })
    (g.P.Keeper.state c.args.keeper.now) (g.P.Keeper.state c.record.new.keeper) steps changes c.requires.at_work
    c.requires.number c.requires.follows c.in-Ok.ensures.records (c.in-Ok.ensures.sound refl)
    c.take_in.ensures.world c.take_in.ensures.jobs c.take_in.ensures.follow c.say_number.ensures

pub returns-in-Err-Failed-clause-carries : goal.returns-in-Err-Failed-clause-carries
returns-in-Err-Failed-clause-carries g c = λ command steps changes.
    broken_change command c.args.entry.now c.args.self.now
    (record { state = c.record.new.self; world = c.take_in.new.self; reply = c.say_number.new.reply })
    (g.P.Keeper.state c.args.keeper.now) (g.P.Keeper.state c.record.new.keeper) steps changes c.requires.at_work
    (rw c.in-Err-Failed.field-0-is at c.in-Err-Failed.ensures.records)

pub returns-in-Err-Memory-clause-carries : goal.returns-in-Err-Memory-clause-carries
returns-in-Err-Memory-clause-carries g c = λ command steps changes.
    unrecorded command c.args.entry.now c.args.self.now
    (record { state = c.record.new.self; world = c.take_back.new.self; reply = c.refuse.new.reply })
    (g.P.Keeper.state c.args.keeper.now) (g.P.Keeper.state c.record.new.keeper) steps changes c.requires.at_work
    c.requires.number c.requires.follows
    (rw c.in-Err-Memory.field-0-is at c.in-Err-Memory.ensures.records)
    (rw c.in-Err-Memory.field-0-is at c.in-Err-Memory.ensures.sound refl)
    c.take_in.new.self c.take_in.ensures.world c.take_in.ensures.follow c.take_back.ensures.go_back
    (c.take_back.ensures.world ∙ c.take_in.ensures.world) (c.take_back.ensures.jobs ∙ c.take_in.ensures.jobs)
    (told_short c.refuse.new.reply c.refuse.ensures.said)
