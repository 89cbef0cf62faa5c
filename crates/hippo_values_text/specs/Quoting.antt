-- Quoted texts, as they are printed and as they are read.
use Rattle.std.specs.Prelude.{ℕ, ◌==◌, Bool, List, [], ◌∷◌, ◌++◌, if◌then◌else◌}

abbrev pub is_quote : ℕ → Bool
is_quote byte = byte == 39

-- a text with each quote doubled
abbrev pub doubled_quotes : List ℕ → List ℕ
doubled_quotes [] = []
doubled_quotes (byte ∷ bytes) =
    if is_quote byte then 39 ∷ 39 ∷ doubled_quotes bytes else byte ∷ doubled_quotes bytes

-- a text as a statement writes it: between quotes, with each quote doubled
abbrev pub quoted_text : List ℕ → List ℕ
quoted_text text = 39 ∷ (doubled_quotes text ++ 39 ∷ [])
