-- Each day number has one date of the calendar, and each date one day number.
use Rattle.std.proofs.Common.{◌≡◌, ℕ, zero, suc, ◌+◌, ◌<◌, ◌≤◌, Bool, true, false, inl, inr, refl, sym, ap, ◌∙◌, arith, rules, ℤ, pos, negsuc, ◌+ℤ◌, ◌-ℤ◌, ◌≤ℤ◌, ◌<ℤ◌, unsigned_abs, int_le, add-one}
use Rattle.std.proofs.lemmas.Bool.{cases_Bool, cases_order}
use Rattle.std.proofs.lemmas.Int.{ints}
use Rattle.jiff_core.specs.declared.civil.date.Date.{Date}
use Rattle.jiff_core.specs.Date.{epoch_day}
use Rattle.jiff_core.specs.Calendar.{days_from_civil, days_in_month, day_count}
use Rattle.jiff_core.proofs.SignedLemmas.{signed_arith, one_part}
use Rattle.jiff_core.proofs.MarchLemmas.{day_count-early}
use Rattle.jiff_core.proofs.CalendarLemmas.{day_count_bounds, day_count-lt_year, day_count-last_of_year, days_from_civil-day_count, days_in_month_bounds}
use Rattle.jiff_core.proofs.DateLemmas.{days_from_civil-day, days_from_civil-next_month, days_from_civil-next_year, days_from_civil-max, epoch_day_injective}
use Rattle.hippo_values.specs.Moments.{IsDayNumber}
use Rattle.hippo_values_text.specs.Dates.{HasDate, last_passing, has_begun, year_of, month_of, day_of_month}

-- k is the last number from 1 to n that passes
pub record IsLastPassing (test : ℕ → Bool) (n k : ℕ) : Type 0 where
  pub low : 1 ≤ k
  pub high : k ≤ n
  pub passes : test k ≡ true
  pub next : k < n → test (suc k) ≡ false

last_step : (test : ℕ → Bool) (n k : ℕ) → test (suc n) ≡ false → IsLastPassing test n k → IsLastPassing test (suc n) k
last_step test n k fails h = record {
  low = h.low;
  high = omega (arith, h.high);
  passes = h.passes;
  next = λ below. elim (cases_order k n) [
    | inl same ↦ rw same fails
    | inr (inl lt) ↦ h.next lt
    | inr (inr gt) ↦ absurd (omega (arith, h.high))
  ];
}

pub IsLastPassing-last_passing : (test : ℕ → Bool) (n : ℕ) → test 1 ≡ true → IsLastPassing test (suc n) (last_passing test (suc n))
unfolding last_passing
IsLastPassing-last_passing test zero first = rw first (record { low = omega arith; high = omega arith; passes = first; next = λ below. absurd (omega arith) })
IsLastPassing-last_passing test (suc n) first =
    elim (cases_Bool (test (suc (suc n)))) [
      | inl passed ↦ rw passed (record { low = omega arith; high = omega arith; passes = passed; next = λ below. absurd (omega arith) })
      | inr failed ↦ rw failed (last_step test (suc n) _ failed (IsLastPassing-last_passing test n first))
    ]

first_day : days_from_civil (pos 1) 1 1 ≡ negsuc 719161
first_day =
    omega (arith, signed_arith, days_from_civil-day_count, day_count-early (pos 1) 10000 1 1 refl (omega arith) (omega arith) (omega arith))

begun : (first day : ℤ) → first ≤ℤ day → int_le first day ≡ true
begun first day h = grind (arith, ints)

begun_by : (first day : ℤ) → int_le first day ≡ true → first ≤ℤ day
begun_by first day h = omega (arith, signed_arith)

not_begun : (first day : ℤ) → int_le first day ≡ false → day <ℤ first
not_begun first day h = omega (arith, signed_arith)

year_begun : (day : ℤ) → IsDayNumber day → IsLastPassing (λ year. has_begun day year 1) 9999 (year_of day)
unfolding year_of
year_begun day h = IsLastPassing-last_passing (λ year. has_begun day year 1) 9998 (rw first_day (begun (negsuc 719161) day h.0))

month_begun : (day : ℤ) → IsDayNumber day → IsLastPassing (λ month. has_begun day (year_of day) month) 12 (month_of day)
unfolding month_of
month_begun day h = IsLastPassing-last_passing (λ month. has_begun day (year_of day) month) 11 (year_begun day h).passes

-- the last day of the year is on or after this day
last_of_year : (day : ℤ) (y : ℕ) → IsDayNumber day → IsLastPassing (λ year. has_begun day year 1) 9999 y → day ≤ℤ days_from_civil (pos y) 12 31
last_of_year day y h hy = elim (cases_order y 9999) [
  | inl same ↦ rw (same, days_from_civil-max) h.1
  | inr (inl lt) ↦
      let next : days_from_civil (pos (suc y)) 1 1 ≡ days_from_civil (pos y) 12 31 +ℤ pos 1 =
      days_from_civil-next_year (pos y) (pos (suc y)) (omega (arith, signed_arith)) (omega (arith, signed_arith)) in
      let after : day <ℤ days_from_civil (pos (suc y)) 1 1 = not_begun _ _ (hy.next lt) in
      omega (arith, signed_arith)
  | inr (inr gt) ↦ absurd (omega (arith, hy.high))
]

-- the last day of the month is on or after this day
last_of_month : (day : ℤ) (y m last : ℕ) → IsDayNumber day → IsLastPassing (λ year. has_begun day year 1) 9999 y → IsLastPassing (λ month. has_begun day y month) 12 m → last ≡ days_in_month (pos y) m → day ≤ℤ days_from_civil (pos y) m last
last_of_month day y m last h hy hm e = elim (cases_order m 12) [
  | inl same ↦
      let at_end : last ≡ 31 = e ∙ ap (days_in_month (pos y)) same in
      rw (same, at_end) (last_of_year day y h hy)
  | inr (inl lt) ↦
      let next : days_from_civil (pos y) (suc m) 1 ≡ days_from_civil (pos y) m last +ℤ pos 1 = rw (← add-one) (days_from_civil-next_month (pos y) m last hm.low e) in
      let after : day <ℤ days_from_civil (pos y) (suc m) 1 = not_begun _ _ (hm.next lt) in
      omega (arith, signed_arith)
  | inr (inr gt) ↦ absurd (omega (arith, hm.high))
]

place_in_month : (first day : ℤ) → first ≤ℤ day → first +ℤ pos (unsigned_abs (day -ℤ first)) ≡ day
place_in_month first day h = omega (arith, signed_arith, one_part (day -ℤ first))

has_date : (day : ℤ) (y m d : ℕ) → IsDayNumber day → IsLastPassing (λ year. has_begun day year 1) 9999 y → IsLastPassing (λ month. has_begun day y month) 12 m → d ≡ unsigned_abs (day -ℤ days_from_civil (pos y) m 1) + 1 → HasDate day y m d
has_date day y m d h hy hm e =
    let last = last_of_month day y m (days_in_month (pos y) m) h hy hm refl in
    let begins : days_from_civil (pos y) m 1 ≤ℤ day = begun_by _ _ hm.passes in
    let bounds = days_in_month_bounds (pos y) m in
    let place = place_in_month _ _ begins in
    let one : 1 ≤ d = omega arith in
    let here = days_from_civil-day (pos y) m d 1 one (omega arith) in
    let there = days_from_civil-day (pos y) m d (days_in_month (pos y) m) one (omega arith) in
    record {
      after_zero = hy.low;
      civil = (omega (arith, signed_arith, hy.high), (hm.low, hm.high), (one, omega (arith, signed_arith)));
      number = omega (arith, signed_arith);
    }

-- each day number has the date in its text
pub HasDate-of_day : (day : ℤ) → IsDayNumber day → HasDate day (year_of day) (month_of day) (day_of_month day)
unfolding day_of_month
HasDate-of_day day h = has_date day _ _ _ h (year_begun day h) (month_begun day h) refl

-- the date as the calendar's own record
as_date : (day : ℤ) (y m d : ℕ) → HasDate day y m d → Date
as_date day y m d h = record {
  year = pos y;
  month = m;
  day = d;
  year_in = h.civil.0;
  month_in = h.civil.1;
  day_in = h.civil.2;
}

-- a day has only the date in its text
pub HasDate-unique : (day : ℤ) (y m d : ℕ) → IsDayNumber day → HasDate day y m d → (year_of day ≡ y) × (month_of day ≡ m) × (day_of_month day ≡ d)
unfolding as_date
HasDate-unique day y m d h has =
    let own = HasDate-of_day day h in
    let same = epoch_day_injective (as_date day _ _ _ own) (as_date day y m d has) (own.number ∙ sym has.number) in
    let year : year_of day ≡ y = omega (arith, signed_arith, same.0) in
    (year, same.1, same.2)

-- the first day follows 0000-12-31
day_count-before : day_count (pos 0) 12 31 ≡ 3652790
day_count-before =
    omega (arith, day_count-last_of_year (pos 0), day_count-early (pos 0) 9999 1 1 refl (omega arith) (omega arith) (omega arith))

-- a date of the years 0001 to 9999 has a day number
pub IsDayNumber-of_date : (day : ℤ) (y m d : ℕ) → HasDate day y m d → IsDayNumber day
IsDayNumber-of_date day y m d h =
    let within = day_count_bounds (pos y) m d h.civil in
    let after = day_count-lt_year (pos 0) 12 31 (pos y) m d (search rules) h.civil.2.0 (omega (arith, signed_arith, h.after_zero)) in
    let is = days_from_civil-day_count (pos y) m d in
    (omega (arith, signed_arith, day_count-before, h.number), omega (arith, signed_arith, h.number))

-- the same for a date of the calendar with signed parts
pub HasDate-of_civil : (date : Date) (y m d : ℕ) → 1 ≤ y → date.year ≡ pos y → date.month ≡ m → date.day ≡ d → HasDate (days_from_civil date.year date.month date.day) y m d
HasDate-of_civil date y m d low year month day =
    let length : days_in_month date.year date.month ≡ days_in_month (pos y) m = cc in
    record {
      after_zero = low;
      civil = (rw year at date.year_in, rw month at date.month_in, omega (arith, date.day_in));
      number = rw (year, month, day) refl;
    }

-- a date of the calendar with a day's number has that day's parts
pub HasDate-of_number : (date : Date) (day : ℤ) (y : ℕ) → IsDayNumber day → epoch_day date ≡ day → y ≡ unsigned_abs date.year → HasDate day y date.month date.day × (date.year ≡ pos y)
unfolding as_date
HasDate-of_number date day y h e same =
    let own = HasDate-of_day day h in
    let parts = epoch_day_injective (as_date day _ _ _ own) date (own.number ∙ sym e) in
    let year : date.year ≡ pos y = omega (arith, signed_arith, one_part date.year) in
    (rw (← e) (HasDate-of_civil date y _ _ (omega (arith, signed_arith, own.after_zero)) year refl refl), year)
