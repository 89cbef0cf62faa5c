-- The last of the remaining entries is told.
use Rattle.std.proofs.Common.{◌++◌, ◌-◌, length, reverse, None, ap, arith}
use Rattle.std.proofs.lemmas.List.{take_all}
use Rattle.hippo_model.specs.Terms.{History}
use Rattle.hippo_history_top.specs.CarryingOn.{entries_carried}
use Rattle.hippo_history_top.proofs.CarryLoops.{told_more, told_all}
use Rattle.hippo_history_top.proofs.carrying.append_backwards.Goals as goal

pub loop-place-init : goal.loop-place-init
loop-place-init c =
    ap (λ (entries : History). c.args.out.now ++ entries_carried c.args.catalog.now.names None (reverse entries))
    (take_all (length c.args.entries.now - 0) c.args.entries.now (omega arith))

pub loop-place-preserved : goal.loop-place-preserved
loop-place-preserved c =
    told_more c.args.catalog.now.names (c.args.out.now ++ entries_carried c.args.catalog.now.names None (reverse c.args.entries.now)) c.loop-place.out c.loop-place.clock
    c.args.entries.now c.loop-place.place c.index-entries-entries.result c.append_entry.new.out c.loop-place-test.true c.index-entries-entries.is
    c.in_ok-append_entry.ensures c.loop-place.invariant

pub returns : goal.returns
returns c =
    told_all c.args.catalog.now.names (c.args.out.now ++ entries_carried c.args.catalog.now.names None (reverse c.args.entries.now)) c.loop-place.out c.loop-place.clock
    c.args.entries.now c.loop-place.place c.loop-place-test.false c.loop-place.invariant
