-- Piece by piece, until nothing is left to be read or a call fails.
use Rattle.std.proofs.Common.{◌∙◌, ◌<◌, ◌≤◌, ap, Ok, arith}
use Rattle.hippo_history_top.proofs.DigestLemmas.{IsDigesting-first, digesting_ready, IsDigesting-on, DigestsAll-end, DigestsAll-fault}
use Rattle.hippo_history_top.proofs.digest.digest_all.Goals as goal

pub loop-chain-init : goal.loop-chain-init
loop-chain-init g c = IsDigesting-first c.args.last (g.P.Keeper.state c.args.keeper.now) c.args.steps.now c.requires.readable.ready

pub digest_next-requires : goal.digest_next-requires
digest_next-requires g c = record {
  ready = digesting_ready c.args.last (g.P.Keeper.state c.args.keeper.now) (g.P.Keeper.state c.loop-chain.keeper) c.loop-chain.chain c.args.steps.now c.loop-chain.steps c.loop-chain.invariant;
  within = c.loop-chain.invariant.within;
}

pub loop-chain-preserved : goal.loop-chain-preserved
loop-chain-preserved g c =
    IsDigesting-on c.args.last (g.P.Keeper.state c.args.keeper.now) (g.P.Keeper.state c.loop-chain.keeper) c.loop-chain.chain c.args.steps.now c.loop-chain.steps c.loop-chain.invariant
    c.requires.readable.order (g.P.Keeper.state c.digest_next.new.keeper) c.digest_next.new.chain c.digest_next.new.steps c.digest_next.result c.digest_next.ensures.digests (c.in-Ok-true.is ∙ ap Ok c.in-Ok-true.field-0-test)

pub loop-chain-smaller : goal.loop-chain-smaller
loop-chain-smaller g c =
    let more : c.loop-chain.chain.count < c.digest_next.new.chain.count = c.digest_next.ensures.digests.more (c.in-Ok-true.is ∙ ap Ok c.in-Ok-true.field-0-test) in
    let within : c.digest_next.new.chain.count ≤ c.args.last = c.digest_next.ensures.digests.within in
    omega (arith, more, within)

pub returns-in-Ok-false : goal.returns-in-Ok-false
returns-in-Ok-false g c = record {
  digests = DigestsAll-end c.args.last (g.P.Keeper.state c.args.keeper.now) (g.P.Keeper.state c.loop-chain.keeper) c.loop-chain.chain c.args.steps.now c.loop-chain.steps c.loop-chain.invariant
      c.requires.readable.order (g.P.Keeper.state c.digest_next.new.keeper) c.digest_next.new.chain c.digest_next.new.steps c.digest_next.result c.digest_next.ensures.digests (c.in-Ok-false.is ∙ ap Ok c.in-Ok-false.field-0-test);
}

pub returns-in-Err : goal.returns-in-Err
returns-in-Err g c = record {
  digests = DigestsAll-fault c.args.last (g.P.Keeper.state c.args.keeper.now) (g.P.Keeper.state c.loop-chain.keeper) c.loop-chain.chain c.args.steps.now c.loop-chain.steps c.loop-chain.invariant
      c.requires.readable.order (g.P.Keeper.state c.digest_next.new.keeper) c.digest_next.new.chain c.digest_next.new.steps c.digest_next.result c.digest_next.ensures.digests c.in-Err.fault c.in-Err.is;
}
