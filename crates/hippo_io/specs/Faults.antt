-- Saturating counts.
use Rattle.std.specs.Prelude.{◌≡◌, ℕ, ◌+◌, ◌-◌, ◌^◌, ◌<◌, ◌⊎◌, min}

-- the largest value of a count
abbrev pub last_count : ℕ
last_count = 2 ^ 64 - 1

-- one more, up to the largest value
abbrev pub next_count : ℕ → ℕ
next_count before = min (before + 1) last_count

-- the count is greater than before, or is at its largest value
abbrev pub HasRisen : ℕ → ℕ → Type 0
HasRisen before after = (before < after) ⊎ (after ≡ last_count)
