-- No such cursor is open.
use Rattle.std.proofs.Common.{sym}
use Rattle.hippo_engine_checks.proofs.FindingLemmas.{refused_close}
use Rattle.hippo_engine_checks.proofs.requests.judge_close.Goals as goal

pub returns-in-Err : goal.returns-in-Err
returns-in-Err g c = λ state. refused_close (g.W.WorldView.seen c.args.world.now) state c.args.session c.args.cursor c.in-Err.refusal (sym c.in-Err.ensures.found) c.in-Err.ensures.fits
