-- One more authorization, and none.
use Rattle.std.proofs.Common.{◌++◌, refl, arith}
use Rattle.hippo_history_top.specs.Granting.{grant_shown, grants_shown}
use Rattle.hippo_history_top.proofs.LoopLemmas.{one_lent, none_lent}
use Rattle.hippo_history_top.proofs.users.append_grants.Goals as goal

pub loop-grant-preserved : goal.loop-grant-preserved
loop-grant-preserved c =
    one_lent (grant_shown c.args.format) (c.args.out.now ++ grants_shown c.args.format c.args.grants.now) c.loop-grant.out c.append_grant.new.out c.grant-item.result c.args.grants.now c.args.grants.now c.loop-grant.grant-index
    refl c.loop-grant-test.true c.grant-item.is c.in_ok-append_grant.ensures c.loop-grant.invariant

pub returns : goal.returns
returns c =
    none_lent (grant_shown c.args.format) (c.args.out.now ++ grants_shown c.args.format c.args.grants.now) c.loop-grant.out c.args.grants.now c.args.grants.now c.loop-grant.grant-index
    refl (omega (arith, c.loop-grant-test.false)) c.loop-grant.invariant
