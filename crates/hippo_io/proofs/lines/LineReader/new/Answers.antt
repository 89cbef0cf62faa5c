-- Nothing was read, and nothing failed.
use Rattle.std.proofs.Common.{arith}
use Rattle.hippo_io.proofs.lines.LineReader.new.Goals as goal

pub invariant_of-result : goal.invariant_of-result
invariant_of-result c = record {
  ordered = omega arith;
  in_buffer = omega arith;
  room = c.in_ok-vec.ensures.len;
  taken = omega arith;
  limit = (λ e. cc, λ h. absurd (omega arith));
}
