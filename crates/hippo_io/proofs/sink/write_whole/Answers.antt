-- The bytes written so far, and then those of one more write.
use Rattle.std.proofs.Common.{◌∙◌, arith}
use Rattle.hippo_io.proofs.ToldLemmas.{Appends-more}
use Rattle.hippo_io.proofs.sink.write_whole.Goals as goal

pub loop-done-preserved : goal.loop-done-preserved
loop-done-preserved g c = (
  omega (arith, c.in_ok-done.ensures.count),
  Appends-more _ _ _ c.args.bytes.now c.loop-done.done c.in_ok-done.field-0 c.loop-done.invariant.1 c.in_ok-done.ensures.appended,
  c.in_ok-done.ensures.unfailed ∙ c.loop-done.invariant.2,
)
