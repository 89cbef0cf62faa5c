use Rattle.std.proofs.Common.{rules}
use Rattle.hippo_entry_codec.specs.Readings.{FailsReading, leading_parts}
use Rattle.hippo_entry_codec.proofs.PartLoops.{goes_on, ends, is_done}
use Rattle.hippo_entry_codec.proofs.reading.read_parts.Goals as goal

pub loop-preserved : goal.loop-preserved
loop-preserved g c = goes_on g.T.Readable.reading c.loop.parts _ c.args.count c.loop.counter c.loop.rest.now
    c.in_ok-part.part c.in_ok-part.after.now
    (leading_parts g.T.Readable.reading c.args.count c.args.bytes.now) c.loop-test.true c.in_ok-part.ensures
    c.in_ok-push.ensures.ok c.loop.invariant

pub returns-in_err-part : goal.returns-in_err-part
returns-in_err-part g c =
    let failed : FailsReading c.in_err-part.field-0.0 (leading_parts g.T.Readable.reading c.args.count c.args.bytes.now) =
    ends g.T.Readable.reading c.in_err-part.field-0.0 c.loop.parts c.args.count c.loop.counter c.loop.rest.now _
    c.loop-test.true c.in_err-part.ensures c.loop.invariant in
    search rules

pub returns : goal.returns
returns g c = is_done g.T.Readable.reading c.loop.parts c.args.count c.loop.counter c.loop.rest.now _ c.loop-test.false c.loop.invariant
