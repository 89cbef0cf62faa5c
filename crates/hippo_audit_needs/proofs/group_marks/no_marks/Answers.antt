-- One more output.
use Rattle.std.proofs.Common.{arith, ap, length}
use Rattle.hippo_audit_needs.proofs.MarkLemmas.{no-best-more}
use Rattle.hippo_audit_needs.proofs.group_marks.no_marks.Goals as goal

pub loop-preserved : goal.loop-preserved
loop-preserved c =
    let within = c.loop-test.true in
    let same = ap length c.as_slice-items.ensures in
    no-best-more c.args.outs.now c.loop.index c.loop.bests.items c.push.new.self.items (omega (arith, within, same)) c.loop.invariant c.in_ok-push.ensures.items
