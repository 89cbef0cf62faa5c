-- The numbers that words write.
use Rattle.std.specs.Prelude.{ℕ, Bool, false, not, ◌&&◌, ◌==◌, ◌∷◌, nat_le, Option}
use Rattle.std.specs.Bool.{then_some}
use Rattle.std.specs.Char.{is_ascii_digit}
use Rattle.std.specs.List.{list_all}
use Rattle.std.specs.Str.Parse.{digits_value}
use Rattle.hippo_values.specs.Texts.{Txt}
use Rattle.hippo_stmt_lines.specs.Words.{is_filled}

abbrev pub has_leading_zero : Txt → Bool
has_leading_zero (first ∷ second ∷ rest) = first == 48
has_leading_zero _ = false

-- whether a word is only digits, without leading zeros
abbrev pub is_numeral : Txt → Bool
is_numeral word = is_filled word && list_all is_ascii_digit word && not (has_leading_zero word)

abbrev pub is_within : ℕ → ℕ → ℕ → Bool
is_within least most number = nat_le least number && nat_le number most

-- the number that a word writes, if it is within these limits
abbrev pub numeral_value : ℕ → ℕ → Txt → Option ℕ
numeral_value least most word =
    then_some (is_numeral word && is_within least most (digits_value 10 word))
    (digits_value 10 word)
