-- The digest was computed and its line written, or a call on the keeper failed.
use Rattle.hippo_history_top.proofs.DigestLemmas.{digest_written, digest_unread}
use Rattle.hippo_history_top.proofs.digest.show_digest.Goals as goal

pub returns-in-Ok : goal.returns-in-Ok
returns-in-Ok g c = record {
  shows = λ state. rw c.served_or.ensures (digest_written state c.args.last (g.P.Keeper.state c.args.keeper.now) (g.P.Keeper.state c.digest_all.new.keeper) c.args.steps.now c.digest_all.new.steps
      (g.K.Sink.written c.args.sink.now) (g.K.Sink.faults c.args.sink.now) c.in-Ok.chain c.in-Ok.ensures.digests (g.K.Sink.written c.write_digest.new.sink) (g.K.Sink.faults c.write_digest.new.sink) c.write_digest.result c.write_digest.ensures.writes);
}

pub returns-in-Err : goal.returns-in-Err
returns-in-Err g c = record {
  shows = λ state. rw c.ending_of.ensures (digest_unread state c.args.last (g.P.Keeper.state c.args.keeper.now) (g.P.Keeper.state c.digest_all.new.keeper) c.args.steps.now c.digest_all.new.steps
      (g.K.Sink.written c.args.sink.now) (g.K.Sink.faults c.args.sink.now) c.in-Err.fault c.in-Err.ensures.digests);
}
