-- Enough entries are copied, or a piece was read, or a call on the keeper failed.
use Rattle.std.proofs.Common.{◌≡◌, ◌∙◌, ◌-◌, ◌<◌, ◌≤◌, length, sym, arith}
use Rattle.hippo_history_top.proofs.FrontLemmas.{CopiesNext-full, CopiesNext-read, CopiesNext-fault}
use Rattle.hippo_history_top.proofs.front.copy_next.Goals as goal

pub returns-then-room-eq0 : goal.returns-then-room-eq0
returns-then-room-eq0 g c =
    let none : c.next_room-room.result ≡ 0 = search in
    record {
      copies = CopiesNext-full c.args.count (g.P.Keeper.state c.args.keeper.now) c.args.front.now c.args.steps.now c.requires.ready c.requires.within (sym c.next_room-room.ensures ∙ none);
    }

pub returns-in-Ok : goal.returns-in-Ok
returns-in-Ok g c =
    let room = c.next_room-room.ensures in
    let some : 0 < c.next_room-room.result = omega (arith, c.if-room-eq0.false) in
    let within : c.next_room-room.result ≤ c.args.count - length c.args.front.now.entries.items = omega (arith, room) in
    record {
      copies = rw c.reading_of.ensures (CopiesNext-read c.args.count c.next_room-room.result (g.P.Keeper.state c.args.keeper.now) (g.P.Keeper.state c.read_all.new.self) c.args.front.now c.args.steps.now c.read_all.new.steps
          c.add-added.new.self c.in-Ok.piece some within c.in-Ok.ensures.reads c.in-Ok.ensures.steps c.add-added.result c.is_empty-any.result c.is_empty-any.ensures c.add-added.ensures.longer c.add-added.ensures.last);
    }

pub returns-in-Err : goal.returns-in-Err
returns-in-Err g c = record {
  copies = CopiesNext-fault c.args.count c.next_room-room.result (g.P.Keeper.state c.args.keeper.now) (g.P.Keeper.state c.read_all.new.self) c.args.front.now c.args.steps.now c.read_all.new.steps
      c.in-Err.fault c.in-Err.ensures.reads c.in-Err.ensures.steps;
}
