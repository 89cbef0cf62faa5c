-- A text with the bytes of a date is the written form of that date.
use Rattle.std.proofs.Common.{◌≡◌, ◌≢◌, ℤ, pos, sym, ◌∙◌, ℕ, ◌+◌, ◌*◌, ◌/◌, ◌%◌, ◌<◌, List, [], ◌∷◌, length, get_or, refl, arith}
use Rattle.std.specs.Str.{IsAscii}
use Rattle.hippo_values.proofs.AsciiLemmas.{IsAscii-of_bytes, IsAscii-same}
use Rattle.std.proofs.lemmas.Slice.Eq.{text_from_reads}
use Rattle.jiff_core.proofs.SignedLemmas.{signed_arith}
use Rattle.jiff_core.proofs.CalendarLemmas.{days_in_month_bounds}
use Rattle.hippo_values_text.specs.Dates.{HasDate, year_of, month_of, day_of_month, two_digits, date_text, day_text, IsDayText}
use Rattle.hippo_values_text.proofs.DatesLemmas.{HasDate-of_day, HasDate-unique, IsDayNumber-of_date}

pub date_text-read : (s : List ℕ) (year century y m d : ℕ) → year ≡ century * 100 + y → y < 100 → length s ≡ 10 → get_or s 4 0 ≡ 45 → get_or s 7 0 ≡ 45 → two_digits century ≡ get_or s 0 0 ∷ get_or s 1 0 ∷ [] → two_digits y ≡ get_or s 2 0 ∷ get_or s 3 0 ∷ [] → two_digits m ≡ get_or s 5 0 ∷ get_or s 6 0 ∷ [] → two_digits d ≡ get_or s 8 0 ∷ get_or s 9 0 ∷ [] → s ≡ date_text year m d
date_text-read s year century y m d e small len h₁ h₂ ec ey em ed =
    let front : year / 100 ≡ century = omega arith in
    let back : year % 100 ≡ y = omega arith in
    text_from_reads s (date_text year m d) len (cc, (cc, (cc, (cc, (cc, (cc, (cc, (cc, (cc, (cc, tt))))))))))

-- the text of a day is that of its date
pub IsDayText-of_date : (text : List ℕ) (day : ℤ) (y m d : ℕ) → HasDate day y m d → text ≡ date_text y m d → IsDayText text day
unfolding day_text
IsDayText-of_date text day y m d has e =
    let h = IsDayNumber-of_date day y m d has in
    let same = HasDate-unique day y m d h has in
    (h, rw (same.0, same.1, same.2) e)

pub two_digits_injective : (m n : ℕ) → m < 100 → n < 100 → two_digits m ≡ two_digits n → m ≡ n
two_digits_injective m n hm hn e =
    let tens : 48 + m / 10 ≡ 48 + n / 10 = cc in
    let ones : 48 + m % 10 ≡ 48 + n % 10 = cc in
    omega arith

-- a date has only one written form
date_text_injective : (y m d y₂ m₂ d₂ : ℕ) → y < 10000 → m < 100 → d < 100 → y₂ < 10000 → m₂ < 100 → d₂ < 100 → date_text y m d ≡ date_text y₂ m₂ d₂ → (y ≡ y₂) × (m ≡ m₂) × (d ≡ d₂)
date_text_injective y m d y₂ m₂ d₂ hy hm hd hy₂ hm₂ hd₂ e =
    let century : two_digits (y / 100) ≡ two_digits (y₂ / 100) = cc in
    let year : two_digits (y % 100) ≡ two_digits (y₂ % 100) = cc in
    let month : two_digits m ≡ two_digits m₂ = cc in
    let day : two_digits d ≡ two_digits d₂ = cc in
    let c = two_digits_injective (y / 100) (y₂ / 100) (omega arith) (omega arith) century in
    let r = two_digits_injective (y % 100) (y₂ % 100) (omega arith) (omega arith) year in
    (omega arith, two_digits_injective m m₂ hm hm₂ month, two_digits_injective d d₂ hd hd₂ day)

-- the range of the parts of a date
pub record AreShort (y m d : ℕ) : Type 0 where
  pub year : y < 10000
  pub month : m < 100
  pub day : d < 100

pub AreShort-of_date : (day : ℤ) (y m d : ℕ) → HasDate day y m d → AreShort y m d
AreShort-of_date day y m d h =
    let most = days_in_month_bounds (pos y) m in
    record {
      year = omega (arith, signed_arith, h.civil);
      month = omega (arith, h.civil);
      day = omega (arith, h.civil);
    }

-- the text of a day is a date
pub date_text-of_day : (text : List ℕ) (day : ℤ) → IsDayText text day → AreShort (year_of day) (month_of day) (day_of_month day) × (text ≡ date_text (year_of day) (month_of day) (day_of_month day))
unfolding day_text
date_text-of_day text day h = (AreShort-of_date day _ _ _ (HasDate-of_day day h.0), h.1)

-- and the day has the date
pub HasDate-of_text : (text : List ℕ) (day : ℤ) (y m d : ℕ) → AreShort y m d → text ≡ date_text y m d → IsDayText text day → HasDate day y m d
HasDate-of_text text day y m d short e h =
    let own = date_text-of_day text day h in
    let has = HasDate-of_day day h.0 in
    let same = date_text_injective _ _ _ y m d own.0.year own.0.month own.0.day short.year short.month short.day (sym own.1 ∙ e) in
    rw (← same.0, ← same.1, ← same.2) has

-- a text that is not a date is not a day
pub no_day-without_date : (text : List ℕ) → ((y m d : ℕ) → y < 10000 → m < 100 → d < 100 → text ≢ date_text y m d) → (day : ℤ) → ¬ (IsDayText text day)
no_day-without_date text none day h =
    let own = date_text-of_day text day h in
    none _ _ _ own.0.year own.0.month own.0.day own.1

-- nor is the text of a date that does not exist
pub no_day-of_date : (text : List ℕ) (y m d : ℕ) → AreShort y m d → text ≡ date_text y m d → ((day : ℤ) → ¬ (HasDate day y m d)) → (day : ℤ) → ¬ (IsDayText text day)
no_day-of_date text y m d short e none day h = none day (HasDate-of_text text day y m d short e h)

-- the digits of a date's parts make its text
pub date_text-joined : (c y m d : List ℕ) (year month day : ℕ) → c ≡ two_digits (year / 100) → y ≡ two_digits (year % 100) → m ≡ two_digits month → d ≡ two_digits day → get_or c 0 0 ∷ get_or c 1 0 ∷ get_or y 0 0 ∷ get_or y 1 0 ∷ 45 ∷ get_or m 0 0 ∷ get_or m 1 0 ∷ 45 ∷ get_or d 0 0 ∷ get_or d 1 0 ∷ [] ≡ date_text year month day
date_text-joined c y m d year month day ec ey em ed = rw (ec, ey, em, ed) refl

pub IsAscii-date_text : (text : List ℕ) (y m d : ℕ) → AreShort y m d → text ≡ date_text y m d → IsAscii text
IsAscii-date_text text y m d h e =
    IsAscii-same text (date_text y m d) e (IsAscii-of_bytes (date_text y m d) (omega (arith, h.year), (omega arith, (omega arith, (omega arith, (omega arith, (omega (arith, h.month), (omega arith, (omega arith, (omega (arith, h.day), (omega arith, tt)))))))))))

-- a text is at most one day
pub IsDayText-unique : (text : List ℕ) (day other : ℤ) → IsDayText text day → IsDayText text other → day ≡ other
IsDayText-unique text day other h k =
    let own = date_text-of_day text other k in
    let has = HasDate-of_text text day _ _ _ own.0 own.1 h in
    sym has.number ∙ (HasDate-of_day other k.0).number
