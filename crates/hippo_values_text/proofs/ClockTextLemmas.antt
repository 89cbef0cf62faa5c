-- A time of day and its second of the day have the same text.
use Rattle.std.proofs.Common.{◌≡◌, ◌≢◌, refl, [], get_or, ℕ, ◌+◌, ◌*◌, ◌/◌, ◌%◌, ◌<◌, List, ◌∷◌, sym, ◌∙◌, arith}
use Rattle.std.specs.Str.{IsAscii}
use Rattle.hippo_values.proofs.AsciiLemmas.{IsAscii-of_bytes, IsAscii-same}
use Rattle.hippo_values_text.specs.Dates.{two_digits, clock_text, time_text}
use Rattle.hippo_values_text.proofs.DateTextLemmas.{two_digits_injective}

-- a clock shows this time
pub record IsTime (h m s : ℕ) : Type 0 where
  pub hour : h < 24
  pub minute : m < 60
  pub second : s < 60

-- the range of the parts of a time
pub record AreShort (h m s : ℕ) : Type 0 where
  pub hour : h < 100
  pub minute : m < 100
  pub second : s < 100

clock_text_injective : (h m s h₂ m₂ s₂ : ℕ) → AreShort h m s → AreShort h₂ m₂ s₂ → clock_text h m s ≡ clock_text h₂ m₂ s₂ → (h ≡ h₂) × (m ≡ m₂) × (s ≡ s₂)
clock_text_injective h m s h₂ m₂ s₂ short short₂ e =
    let hour : two_digits h ≡ two_digits h₂ = cc in
    let minute : two_digits m ≡ two_digits m₂ = cc in
    let second : two_digits s ≡ two_digits s₂ = cc in
    (two_digits_injective h h₂ short.hour short₂.hour hour, two_digits_injective m m₂ short.minute short₂.minute minute, two_digits_injective s s₂ short.second short₂.second second)

-- the text of a second of the day is that of its time
pub time_text-of_clock : (text : List ℕ) (second h m s : ℕ) → second ≡ h * 3600 + m * 60 + s → IsTime h m s → text ≡ clock_text h m s → (second < 86400) × (text ≡ time_text second)
unfolding time_text
time_text-of_clock text second h m s e t is =
    let hour : second / 3600 ≡ h = omega (arith, t.hour, t.minute, t.second) in
    let minute : second / 60 % 60 ≡ m = omega (arith, t.hour, t.minute, t.second) in
    let rest : second % 60 ≡ s = omega (arith, t.hour, t.minute, t.second) in
    (omega (arith, t.hour, t.minute, t.second), rw (hour, minute, rest) is)

clock-of_second : (second : ℕ) → second < 86400 → IsTime (second / 3600) (second / 60 % 60) (second % 60)
clock-of_second second h = record { hour = omega arith; minute = omega arith; second = omega arith }

short-of_second : (second : ℕ) → second < 86400 → AreShort (second / 3600) (second / 60 % 60) (second % 60)
short-of_second second h = record { hour = omega arith; minute = omega arith; second = omega arith }

-- a text that is not a time is not a second of the day
pub no_time-without_clock : (text : List ℕ) → ((h m s : ℕ) → h < 100 → m < 100 → s < 100 → text ≢ clock_text h m s) → (second : ℕ) → second < 86400 → text ≢ time_text second
unfolding time_text
no_time-without_clock text none second h e =
    let own = short-of_second second h in
    none _ _ _ own.hour own.minute own.second e

-- nor is the text of a time out of range
pub no_time-of_clock : (text : List ℕ) (h m s : ℕ) → AreShort h m s → text ≡ clock_text h m s → ¬ (IsTime h m s) → (second : ℕ) → second < 86400 → text ≢ time_text second
unfolding time_text
no_time-of_clock text h m s short is none second below e =
    let same = clock_text_injective _ _ _ h m s (short-of_second second below) short (sym e ∙ is) in
    none (rw (← same.0, ← same.1, ← same.2) (clock-of_second second below))

-- the digits of a second's hour, minute and second of the minute make its text
pub time_text-joined : (h m s : List ℕ) (second : ℕ) → h ≡ two_digits (second / 3600) → m ≡ two_digits (second / 60 % 60) → s ≡ two_digits (second % 60) → 84 ∷ get_or h 0 0 ∷ get_or h 1 0 ∷ 58 ∷ get_or m 0 0 ∷ get_or m 1 0 ∷ 58 ∷ get_or s 0 0 ∷ get_or s 1 0 ∷ 90 ∷ [] ≡ time_text second
unfolding time_text
time_text-joined h m s second eh em es = rw (eh, em, es) refl

pub IsAscii-time_text : (text : List ℕ) (second : ℕ) → second < 86400 → text ≡ time_text second → IsAscii text
unfolding time_text
IsAscii-time_text text second below e =
    let h = short-of_second second below in
    IsAscii-same text (time_text second) e (IsAscii-of_bytes (time_text second) (omega arith, (omega (arith, h.hour), (omega arith, (omega arith, (omega (arith, h.minute), (omega arith, (omega arith, (omega (arith, h.second), (omega arith, (omega arith, tt)))))))))))

-- a text is at most one second of the day
pub time_text_injective : (second other : ℕ) → second < 86400 → other < 86400 → time_text second ≡ time_text other → second ≡ other
unfolding time_text
time_text_injective second other h k e =
    let same = clock_text_injective _ _ _ _ _ _ (short-of_second second h) (short-of_second other k) e in
    omega (arith, same.0, same.1, same.2)
