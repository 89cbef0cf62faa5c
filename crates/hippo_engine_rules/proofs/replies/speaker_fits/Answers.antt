use Rattle.std.proofs.Common.{◌≡◌, arith}
use Rattle.hippo_engine_rules.proofs.replies.speaker_fits.Goals as goal

pub returns-in-Session : goal.returns-in-Session
returns-in-Session c = λ number is.
    let same : c.in-Session.number ≡ number = cc in
    omega (arith, same, c.session_fits.ensures)
