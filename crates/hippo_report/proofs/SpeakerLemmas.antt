-- The sender of a line that begins with a number.
use Rattle.std.proofs.Common.{◌≡◌, ℕ, zero, suc, true, refl}
use Rattle.hippo_report.specs.declared.speaker.Speaker.TheVariants.{Console, Session}
use Rattle.hippo_report.specs.Speakers.{speaker_at, is_somebody}

pub console_at : (number : ℕ) → number ≡ 0 → speaker_at number ≡ Console
console_at zero is = refl
console_at (suc number) is = absurd cc

pub session_at : (number : ℕ) → (number ≡ 0 → ⊥) → speaker_at number ≡ Session number
session_at zero other = absurd (other refl)
session_at (suc number) other = refl

-- the sender is the console or a session
pub somebody_at : (number : ℕ) → is_somebody (speaker_at number) ≡ true
somebody_at zero = refl
somebody_at (suc number) = refl
