-- The date of a day number, the date and time of a moment, and how they are written.
use Rattle.std.specs.Prelude.{◌≡◌, ℕ, zero, suc, ◌+◌, ◌/◌, ◌%◌, ◌≤◌, Bool, List, [], ◌∷◌, ◌++◌, codes, ℤ, pos, ◌+ℤ◌, ◌-ℤ◌, int_le, unsigned_abs, Option, Some, None, bytes_eq, if◌then◌else◌}
use Rattle.std.specs.Int.{int_div_euclid, int_rem_euclid}
use Rattle.jiff_core.specs.Calendar.{days_from_civil, IsCivilDate}
use Rattle.hippo_values.specs.Moments.{day_seconds, IsDayNumber, IsMoment}

-- the last number from 1 to n that passes the test, or 0 if none does
unfoldable pub last_passing : (ℕ → Bool) → ℕ → ℕ
last_passing test zero = 0
last_passing test (suc n) = if test (suc n) then suc n else last_passing test n

-- whether the first of the month is on or before the day
abbrev pub has_begun : ℤ → ℕ → ℕ → Bool
has_begun day year month = int_le (days_from_civil (pos year) month 1) day

-- the year of a day: the last one that has begun
unfoldable pub year_of : ℤ → ℕ
year_of day = last_passing (λ year. has_begun day year 1) 9999

-- the month of a day: the last one of its year that has begun
unfoldable pub month_of : ℤ → ℕ
month_of day = last_passing (λ month. has_begun day (year_of day) month) 12

-- the day of the month, from 1
unfoldable pub day_of_month : ℤ → ℕ
day_of_month day = unsigned_abs (day -ℤ days_from_civil (pos (year_of day)) (month_of day) 1) + 1

-- the day has this date, in the years 0001 to 9999
pub record HasDate (day : ℤ) (y m d : ℕ) : Type 0 where
  pub after_zero : 1 ≤ y
  pub civil : IsCivilDate (pos y) m d
  pub number : days_from_civil (pos y) m d ≡ day

-- a number below 100 as two digits
abbrev pub two_digits : ℕ → List ℕ
two_digits n = (48 + n / 10) ∷ (48 + n % 10) ∷ []

-- a number below 10000 as four digits
abbrev pub four_digits : ℕ → List ℕ
four_digits n = two_digits (n / 100) ++ two_digits (n % 100)

-- a date as YYYY-MM-DD
abbrev pub date_text : ℕ → ℕ → ℕ → List ℕ
date_text year month day =
    four_digits year ++ codes "-" ++ two_digits month ++ codes "-" ++ two_digits day

-- a time of day as Thh:mm:ssZ
abbrev pub clock_text : ℕ → ℕ → ℕ → List ℕ
clock_text hour minute second =
    codes "T" ++ two_digits hour ++ codes ":" ++ two_digits minute ++ codes ":" ++ two_digits second
    ++ codes "Z"

-- a second of the day as Thh:mm:ssZ
unfoldable pub time_text : ℕ → List ℕ
time_text second = clock_text (second / 3600) (second / 60 % 60) (second % 60)

-- a day as YYYY-MM-DD
unfoldable pub day_text : ℤ → List ℕ
day_text day = date_text (year_of day) (month_of day) (day_of_month day)

-- a moment as YYYY-MM-DDThh:mm:ssZ
unfoldable pub moment_text : ℤ → List ℕ
moment_text second =
    day_text (int_div_euclid second (pos day_seconds))
    ++ time_text (unsigned_abs (int_rem_euclid second (pos day_seconds)))

-- the number that has this text, among n numbers from the first one
unfoldable pub written_among : (ℤ → List ℕ) → ℤ → ℕ → List ℕ → Option ℤ
written_among text_of first zero text = None
written_among text_of first (suc n) text =
    if bytes_eq text (text_of (first +ℤ pos n)) then Some (first +ℤ pos n)
    else written_among text_of first n text

-- the text is the written form of this day
abbrev pub IsDayText : List ℕ → ℤ → Type 0
IsDayText text day = IsDayNumber day × (text ≡ day_text day)

-- the text is the written form of this moment
abbrev pub IsMomentText : List ℕ → ℤ → Type 0
IsMomentText text second = IsMoment second × (text ≡ moment_text second)
