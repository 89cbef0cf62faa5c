-- The lines that programs write besides their replies.
use Rattle.std.specs.Prelude.{ℕ, ◌++◌, codes, decimal}
use Rattle.hippo_values.specs.Texts.{Txt}

-- a line of words and a number
abbrev pub numbered_line : Txt → ℕ → Txt
numbered_line words number = words ++ (decimal number ++ codes "\n")

-- the line that reports the place at which the stored entries are damaged
abbrev pub damaged_line : ℕ → Txt
damaged_line place = numbered_line (codes "damaged ") place
