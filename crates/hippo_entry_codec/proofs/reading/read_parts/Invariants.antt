-- The parts so far and those still to be read are all.
use Rattle.std.proofs.Common.{◌≡◌, ◌-◌}
use Rattle.hippo_entry_codec.specs.Readings.{leading_parts}
use Rattle.hippo_entry_codec.proofs.PartLoops.{with_front}
use Rattle.hippo_entry_codec.proofs.reading.read_parts.Given as goal

abbrev pub invariant-loop : goal.invariant-loop
invariant-loop g l = with_front g.T.Readable.reading l.parts
    (leading_parts g.T.Readable.reading (l.count - l.counter) l.rest)
    ≡ leading_parts g.T.Readable.reading l.count l.bytes
