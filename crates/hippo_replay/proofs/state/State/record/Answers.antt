-- Stored first, or taken in first.
use Rattle.std.proofs.Common.{◌∙◌, sym}
use Rattle.hippo_replay.proofs.RecordingLemmas.{is_delete-room, IsNext-sound, IsSound-after, MayAppend-kept, Records-added, Records-unkept, Records-kept, Records-short, short}
use Rattle.hippo_keeper.specs.declared.faults.KeeperFault.{KeeperFault}
use Rattle.hippo_keeper.proofs.Results.{err_of, well}
use Rattle.hippo_replay.proofs.state.State.record.Goals as goal

pub add_at_once-requires : goal.add_at_once-requires
add_at_once-requires g c = record {
  next = IsNext-sound c.args.entry.now c.args.self.now c.requires.may.backed.sound c.requires.may.follows;
  room = sym c.takes_no_memory.ensures ∙ c.if-takes_no_memory.true;
}

pub add-requires : goal.add-requires
add-requires g c = record { next = IsNext-sound c.args.entry.now c.args.self.now c.requires.may.backed.sound c.requires.may.follows }

pub keep_last-requires : goal.keep_last-requires
keep_last-requires g c = record { may = MayAppend-kept c.args.entry.now c.args.self.now (g.P.Keeper.state c.args.keeper.now) c.requires.may }

pub returns-in-Ok : goal.returns-in-Ok
returns-in-Ok g c =
    let records = Records-added c.args.entry.now c.args.self.now c.add_at_once.new.self (g.P.Keeper.state c.args.keeper.now) (g.P.Keeper.state c.keep.new.keeper) c.in-Ok.ensures.keeps c.add_at_once.ensures.stands in
    record { records = records; sound = IsSound-after c.args.entry.now (well KeeperFault) c.args.self.now c.add_at_once.new.self (g.P.Keeper.state c.args.keeper.now) (g.P.Keeper.state c.keep.new.keeper) c.requires.may.backed.sound records }

pub returns-in-Err : goal.returns-in-Err
returns-in-Err g c =
    let records = Records-unkept c.args.entry.now c.in-Err.fault c.args.self.now (g.P.Keeper.state c.args.keeper.now) (g.P.Keeper.state c.keep.new.keeper) c.in-Err.ensures.keeps in
    record { records = records; sound = IsSound-after c.args.entry.now (err_of (Unit {0}) c.in-Err.fault) c.args.self.now c.args.self.now (g.P.Keeper.state c.args.keeper.now) (g.P.Keeper.state c.keep.new.keeper) c.requires.may.backed.sound records }

pub returns-in-Ok-add : goal.returns-in-Ok-add
returns-in-Ok-add g c =
    let before = g.P.Keeper.state c.args.keeper.now in
    let after = g.P.Keeper.state c.keep_last.new.keeper in
    let room = is_delete-room c.args.entry.now.act (sym c.takes_no_memory.ensures ∙ c.if-takes_no_memory.false) in
    let records = Records-kept c.args.entry.now c.keep_last.result c.args.self.now c.add.new.self c.keep_last.new.self before after (c.keep_last.ensures.keeps c.args.self.now c.requires.may.follows)
    (λ history stands. c.in-Ok-add.ensures.remembers room history stands (c.requires.may.follows history stands)) c.keep_last.ensures.ok c.keep_last.ensures.memory in
    record { records = records; sound = IsSound-after c.args.entry.now c.keep_last.result c.args.self.now c.keep_last.new.self before after c.requires.may.backed.sound records }

pub returns-in-Err-add : goal.returns-in-Err-add
returns-in-Err-add g c =
    let records = Records-short c.args.entry.now c.args.self.now c.add.new.self (g.P.Keeper.state c.args.keeper.now) c.requires.may.backed.ready
    (λ history stands. c.in-Err-add.ensures.err history stands (c.requires.may.follows history stands)) in
    record { records = records; sound = IsSound-after c.args.entry.now short c.args.self.now c.add.new.self (g.P.Keeper.state c.args.keeper.now) (g.P.Keeper.state c.args.keeper.now) c.requires.may.backed.sound records }
