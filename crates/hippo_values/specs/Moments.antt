-- The ranges of numbers, and of the days and moments of the years 0001 to 9999.
use Rattle.std.specs.Prelude.{ℕ, ℤ, pos, negsuc, ◌≤ℤ◌, Bool, ◌&&◌, int_le}

-- the least and the greatest signed 64-bit number
abbrev pub signed_numbers : ℤ × ℤ
signed_numbers = (negsuc 9223372036854775807, pos 9223372036854775807)

-- 0001-01-01 and 9999-12-31, in days since 1970-01-01
abbrev pub first_day : ℤ
first_day = negsuc 719161

abbrev pub last_day : ℤ
last_day = pos 2932896

-- 0001-01-01T00:00:00Z and 9999-12-31T23:59:59Z, in seconds since 1970-01-01T00:00:00Z
abbrev pub first_moment : ℤ
first_moment = negsuc 62135596799

abbrev pub last_moment : ℤ
last_moment = pos 253402300799

-- the number of days from the first to the last, and of seconds in a day
abbrev pub day_count : ℕ
day_count = 3652059

abbrev pub day_seconds : ℕ
day_seconds = 86400

-- a number is within a range, both ends included; as a fact and as a test
abbrev pub LiesBetween : ℤ × ℤ → ℤ → Type 0
LiesBetween ends number = (ends.0 ≤ℤ number) × (number ≤ℤ ends.1)

abbrev pub lies_between : ℤ × ℤ → ℤ → Bool
lies_between ends number = int_le ends.0 number && int_le number ends.1

-- the ranges as facts
abbrev pub IsSignedNumber : ℤ → Type 0
IsSignedNumber number = LiesBetween signed_numbers number

abbrev pub IsDayNumber : ℤ → Type 0
IsDayNumber day = LiesBetween (first_day, last_day) day

abbrev pub IsMoment : ℤ → Type 0
IsMoment second = LiesBetween (first_moment, last_moment) second

-- the ranges as tests
abbrev pub is_signed_number : ℤ → Bool
is_signed_number number = lies_between signed_numbers number

abbrev pub is_day : ℤ → Bool
is_day day = lies_between (first_day, last_day) day

abbrev pub is_moment : ℤ → Bool
is_moment second = lies_between (first_moment, last_moment) second
