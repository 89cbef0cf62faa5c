-- Properties of every speaker.
use Rattle.std.proofs.Common.{◌≡◌, ◌<◌, ℕ, refl}
use Rattle.hippo_report.specs.declared.speaker.Speaker.{Speaker}
use Rattle.hippo_report.specs.declared.speaker.Speaker.TheVariants.{Nobody, Console, Session}
use Rattle.hippo_engine_checks.proofs.LengthLemmas.{IsSpeaker}

-- a speaker is a valid one if the number of its session is a byte
pub IsSpeaker-byte : (who : Speaker) → ((number : ℕ) → who ≡ Session number → number < 256) → IsSpeaker who
IsSpeaker-byte Nobody byte = tt
IsSpeaker-byte Console byte = tt
IsSpeaker-byte (Session number) byte = byte number refl
