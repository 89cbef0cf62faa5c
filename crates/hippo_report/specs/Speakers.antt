-- The sender of a line, by the number at the line's beginning, and how the reply begins.
use Rattle.std.specs.Prelude.{ℕ, zero, suc, Bool, true, false, codes, decimal}
use Rattle.hippo_values.specs.Texts.{Txt}
use Rattle.hippo_report.specs.declared.speaker.Speaker.{Speaker}
use Rattle.hippo_report.specs.declared.speaker.Speaker.TheVariants.{Nobody, Console, Session}

-- the sender of a line that begins with this number
abbrev pub speaker_at : ℕ → Speaker
speaker_at zero = Console
speaker_at (suc number) = Session (suc number)

-- whether the sender is the console or a session
abbrev pub is_somebody : Speaker → Bool
is_somebody Nobody = false
is_somebody Console = true
is_somebody (Session number) = true

-- the beginning of the reply
abbrev pub who_text : Speaker → Txt
who_text Nobody = codes "-"
who_text Console = codes "0"
who_text (Session number) = decimal number
