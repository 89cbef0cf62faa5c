-- How many accesses are by one user for one purpose, and how many are on one day.
use Rattle.std.specs.Prelude.{ℕ, ℤ, pos, ◌+◌, Bool, ◌&&◌, List, [], ◌∷◌, ◌++◌, if◌then◌else◌, bytes_eq, count_by}
use Rattle.std.specs.Int.{int_div_euclid}
use Rattle.std.specs.List.{list_any}
use Rattle.std.specs.Ordering.{int_eq}
use Rattle.hippo_values.specs.Moments.{day_seconds}
use Rattle.hippo_history_formats.specs.declared.access.Access.{Access}

-- whether two accesses are by one user for one purpose
abbrev pub have_one_asker : Access → Access → Bool
have_one_asker one other = bytes_eq one.user other.user && bytes_eq one.purpose other.purpose

-- how many accesses are by the user and for the purpose of this one
abbrev pub asker_count : List Access → Access → ℕ
asker_count accesses access = count_by (have_one_asker access) accesses

-- the first access of each user and purpose of which none was found yet
abbrev pub firsts_after : List Access → List Access → List Access
firsts_after found [] = []
firsts_after found (access ∷ later) =
    if list_any (have_one_asker access) found then firsts_after found later
    else access ∷ firsts_after (found ++ access ∷ []) later

-- the first access of each user and purpose
abbrev pub firsts : List Access → List Access
firsts accesses = firsts_after [] accesses

-- the day of an access
abbrev pub access_day : Access → ℤ
access_day access = int_div_euclid access.moment (pos day_seconds)

-- a day, and how many accesses in a row are on it
abbrev pub DayCount : Type 0
DayCount = ℤ × ℕ

-- a day with the accesses on it so far, and the days after it
abbrev pub days_from : ℤ → ℕ → List Access → List DayCount
days_from day count [] = (day, count) ∷ []
days_from day count (access ∷ later) =
    if int_eq (access_day access) day then days_from day (count + 1) later
    else (day, count) ∷ days_from (access_day access) 1 later

-- the days of accesses in the order of their moments, and how many are on each
abbrev pub days : List Access → List DayCount
days [] = []
days (first ∷ later) = days_from (access_day first) 0 (first ∷ later)
