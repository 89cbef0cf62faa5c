-- Enough entries are covered, or a piece was read, or a call on the keeper failed.
use Rattle.std.proofs.Common.{◌≡◌, ◌∙◌, ◌-◌, ◌<◌, ◌≤◌, sym, arith}
use Rattle.hippo_history_top.proofs.DigestLemmas.{DigestsNext-full, DigestsNext-piece, DigestsNext-fault}
use Rattle.hippo_history_top.proofs.digest.digest_next.Goals as goal

pub returns-then-room-eq0 : goal.returns-then-room-eq0
returns-then-room-eq0 g c =
    let none : c.next_room-room.result ≡ 0 = search in
    record {
      digests = DigestsNext-full c.args.last (g.P.Keeper.state c.args.keeper.now) c.args.chain.now c.args.steps.now c.requires.ready c.requires.within (sym c.next_room-room.ensures ∙ none);
    }

pub returns-in-Ok : goal.returns-in-Ok
returns-in-Ok g c =
    let room = c.next_room-room.ensures in
    let some : 0 < c.next_room-room.result = omega (arith, c.if-room-eq0.false) in
    let within : c.next_room-room.result ≤ c.args.last - c.args.chain.now.count = omega (arith, room) in
    record {
      digests = DigestsNext-piece c.args.last c.next_room-room.result (g.P.Keeper.state c.args.keeper.now) (g.P.Keeper.state c.read_all.new.self) c.args.chain.now c.args.steps.now c.read_all.new.steps
          c.cover.new.chain c.in-Ok.piece some within c.requires.within c.in-Ok.ensures.reads c.in-Ok.ensures.steps (rw c.as_slice.ensures at c.cover.ensures.covers) c.is_empty-any.result c.is_empty-any.ensures;
    }

pub returns-in-Err : goal.returns-in-Err
returns-in-Err g c = record {
  digests = DigestsNext-fault c.args.last c.next_room-room.result (g.P.Keeper.state c.args.keeper.now) (g.P.Keeper.state c.read_all.new.self) c.args.chain.now c.args.steps.now c.read_all.new.steps
      c.in-Err.fault c.requires.within c.in-Err.ensures.reads c.in-Err.ensures.steps;
}
