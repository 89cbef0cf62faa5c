-- The words of a text, separated by spaces.
use Rattle.std.specs.Prelude.{Bool, true, false, List, [], ◌∷◌, length, drop, nat_lt, Option, Some, None, option_map}
use Rattle.std.specs.List.{filter, slice_split, prefix_len, position_or_len, before_first, after_first}
use Rattle.std.specs.Bool.{then_some}
use Rattle.hippo_values.specs.Texts.{Txt, is_space}

abbrev pub is_filled : Txt → Bool
is_filled [] = false
is_filled (first ∷ rest) = true

-- the pieces between spaces, without empty ones
unfoldable pub words_of : Txt → List Txt
words_of text = filter is_filled (slice_split is_space text)

-- the parts before and after the first space
abbrev pub split_at_space : Txt → Option (Txt × Txt)
split_at_space text =
    then_some (nat_lt (position_or_len is_space text) (length text))
    (before_first is_space text, after_first is_space text)

-- the text without its leading spaces
abbrev pub trimmed_text : Txt → Txt
trimmed_text text = drop (prefix_len is_space text) text

-- the members of a list of exactly one, two or three
abbrev pub only : {A : Type 0} → List A → Option A
only (x ∷ []) = Some x
only _ = None

abbrev pub two : {A : Type 0} → List A → Option (A × A)
two [] = None
two (x ∷ rest) = option_map (λ y. (x, y)) (only rest)

abbrev pub three : {A : Type 0} → List A → Option (A × A × A)
three [] = None
three (x ∷ rest) = option_map (λ (y, z). (x, y, z)) (two rest)
