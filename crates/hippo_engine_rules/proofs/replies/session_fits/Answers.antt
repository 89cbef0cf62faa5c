use Rattle.std.proofs.Common.{arith}
use Rattle.hippo_engine_rules.proofs.replies.session_fits.Goals as goal

pub returns : goal.returns
returns c = omega (arith, c.ranges.number.fits)
