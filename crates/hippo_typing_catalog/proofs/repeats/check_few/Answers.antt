use Rattle.std.proofs.Common.{sym, ◌∙◌, arith}
use Rattle.hippo_typing_catalog.proofs.RepeatLemmas.{repeated_here, not_repeated_here}
use Rattle.hippo_typing_catalog.proofs.repeats.check_few.Goals as goal

pub returns-then-stands_among : goal.returns-then-stands_among
returns-then-stands_among c =
    let there = sym c.stands_among.ensures ∙ c.if-stands_among.true in
    rw c.loop-place.invariant
    (repeated_here c.args.names.now c.loop-place.place c.index-names-place.result (omega arith) c.index-names-place.is there c.repeated_name.result c.repeated_name.ensures)

pub loop-place-preserved : goal.loop-place-preserved
loop-place-preserved c =
    let absent = sym c.stands_among.ensures ∙ c.if-stands_among.false in
    c.loop-place.invariant ∙ not_repeated_here c.args.names.now c.loop-place.place c.index-names-place.result (omega arith) c.index-names-place.is absent
