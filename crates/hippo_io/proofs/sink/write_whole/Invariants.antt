-- The bytes before the index are written.
use Rattle.std.proofs.Common.{◌≡◌, ◌-◌, ◌≤◌, length, take}
use Rattle.hippo_io.specs.Told.{Appends}
use Rattle.hippo_io.proofs.sink.write_whole.Given as goal

abbrev pub invariant-loop-done : goal.invariant-loop-done
invariant-loop-done g l =
    let written = g.K.Sink.written in
    let faults = g.K.Sink.faults in
    (l.done ≤ length l.bytes) × Appends (written l.fn.sink) (written l.sink) (take l.done l.bytes) × (faults l.sink ≡ faults l.fn.sink)

abbrev pub decreases-loop-done : goal.decreases-loop-done
decreases-loop-done g l = length l.bytes - l.done
