-- What reading a script's next line does.
use Rattle.std.specs.Prelude.{◌≡◌, Bool, true, false, List, [], ◌∷◌, ◌++◌, Result, Ok, Err}
use Rattle.hippo_values.specs.Texts.{Txt}
use Rattle.hippo_values.specs.declared.memory.Memory.{Memory}

-- the first remaining line is appended to a text, and the others remain; or no line remains; or
-- memory ran out
abbrev pub HandsOutLine : Result Bool Memory → List Txt → List Txt → Txt → Txt → Type 0
HandsOutLine (Ok true) lines lines' text text' =
    (line : Txt) × (lines ≡ line ∷ lines') × (text' ≡ text ++ line)
HandsOutLine (Ok false) lines lines' text text' = (lines ≡ []) × (lines' ≡ []) × (text' ≡ text)
HandsOutLine (Err memory) lines lines' text text' = (lines' ≡ lines) × (text' ≡ text)
