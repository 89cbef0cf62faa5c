-- The read filled a part of the buffer.
use Rattle.std.proofs.Common.{◌+◌, ◌-◌, ◌<◌, length, take, drop, length-take, length-drop, arith}
use Rattle.hippo_io.proofs.InputLemmas.{TakesAfter-seen, end_seen, failed_seen, ReadsMore-read, going_read, ended_read}
use Rattle.hippo_io.proofs.lines.read_after.Given.{Over}
use Rattle.hippo_io.proofs.lines.read_after.Goals as goal

pub returns-clause-taken : goal.returns-clause-taken
returns-clause-taken g c =
    TakesAfter-seen _ _ _ _ c.read.result c.args.filled _ c.args.buffer.now c.read.new.buffer (omega arith) (rw c.read.auto.buffer c.read.ensures.count) c.read.ensures.returned c.read.ensures.taken

room : (g : Over) (c : goal.After-slice_known-2-1 g) → 0 < length (take (c.args.filled + c.min-wanted.result - c.args.filled) (drop c.args.filled c.args.buffer.now))
room g c =
    let wanted = c.args.filled + c.min-wanted.result - c.args.filled in
    omega (arith, c.requires.room, c.requires.some, c.min-wanted.ensures, length-take wanted (drop c.args.filled c.args.buffer.now), length-drop c.args.filled c.args.buffer.now)

pub returns-clause-end : goal.returns-clause-end
returns-clause-end g c = end_seen _ (g.S.Source.left c.read.new.self) _ _ c.read.result _ c.read.new.buffer (room g c) c.read.auto.buffer c.read.ensures.returned c.read.ensures.end

pub returns-clause-failed : goal.returns-clause-failed
returns-clause-failed g c = failed_seen _ _ _ _ c.read.result c.read.ensures.unread c.read.ensures.failed

pub returns-clause-on : goal.returns-clause-on
returns-clause-on g c = ReadsMore-read _ _ c.read.result c.read.new.buffer c.read.ensures.returned c.read.ensures.unread

pub returns-clause-going : goal.returns-clause-going
returns-clause-going g c = going_read _ _ c.read.result c.read.new.buffer c.read.ensures.returned

pub returns-clause-ended : goal.returns-clause-ended
returns-clause-ended g c = ended_read _ _ c.read.result c.read.new.buffer (rw c.read.auto.buffer (room g c)) c.read.ensures.returned
