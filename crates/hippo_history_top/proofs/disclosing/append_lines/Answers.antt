-- One more access, and none.
use Rattle.std.proofs.Common.{◌++◌, flat_map, refl, arith}
use Rattle.hippo_history_formats.specs.Accesses.{access_line}
use Rattle.hippo_history_top.proofs.LoopLemmas.{one_lent, none_lent}
use Rattle.hippo_history_top.proofs.disclosing.append_lines.Goals as goal

pub loop-access-preserved : goal.loop-access-preserved
loop-access-preserved c =
    one_lent (access_line c.args.format) (c.args.out.now ++ flat_map (access_line c.args.format) c.args.accesses.now) c.loop-access.out c.append_access.new.out c.access-item.result c.args.accesses.now c.args.accesses.now c.loop-access.access-index
    refl c.loop-access-test.true c.access-item.is c.in_ok-append_access.ensures c.loop-access.invariant

pub returns : goal.returns
returns c =
    none_lent (access_line c.args.format) (c.args.out.now ++ flat_map (access_line c.args.format) c.args.accesses.now) c.loop-access.out c.args.accesses.now c.args.accesses.now c.loop-access.access-index
    refl (omega (arith, c.loop-access-test.false)) c.loop-access.invariant
