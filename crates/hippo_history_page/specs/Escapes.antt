-- Texts between the tags of an HTML page: how they are written, and how a browser reads them.
use Rattle.std.specs.Prelude.{◌≡◌, ℕ, zero, suc, ◌==◌, nat_eq, Bool, false, ◌||◌, [], ◌∷◌, ◌++◌, flat_map, Option, Some, None, if◌then◌else◌, codes}
use Rattle.std.specs.List.{starts_with, list_any}
use Rattle.hippo_values.specs.Texts.{Txt}

-- a byte as the page writes it: the five with a meaning in HTML are written as references
abbrev pub escaped_byte : ℕ → Txt
escaped_byte byte =
    if byte == 38 then codes "&amp;"
    else if byte == 60 then codes "&lt;"
    else if byte == 62 then codes "&gt;"
    else if byte == 34 then codes "&quot;"
    else if byte == 39 then codes "&#39;"
    else byte ∷ []

-- a text as the page writes it
abbrev pub escaped : Txt → Txt
escaped text = flat_map escaped_byte text

-- the character of a reference at the front of a text, and how many of its bytes follow the first
abbrev pub leading_reference : Txt → Option (ℕ × ℕ)
leading_reference text =
    if starts_with nat_eq text (codes "&amp;") then Some (38, 4)
    else if starts_with nat_eq text (codes "&lt;") then Some (60, 3)
    else if starts_with nat_eq text (codes "&gt;") then Some (62, 3)
    else if starts_with nat_eq text (codes "&quot;") then Some (34, 5)
    else if starts_with nat_eq text (codes "&#39;") then Some (39, 4)
    else None

-- a text with each reference read as its character, after some bytes that are skipped
abbrev pub unescaped_after : ℕ → Txt → Txt
unescaped_after skipped [] = []
unescaped_after (suc skipped) (byte ∷ rest) = unescaped_after skipped rest
unescaped_after zero (byte ∷ rest) = elim (leading_reference (byte ∷ rest)) [
  | None ↦ byte ∷ unescaped_after 0 rest
  | Some (character, following) ↦ character ∷ unescaped_after following rest
]

-- a text with each reference read as its character
abbrev pub unescaped : Txt → Txt
unescaped text = unescaped_after 0 text

-- whether a byte can begin or end a tag, or end an attribute's value
abbrev pub is_markup : ℕ → Bool
is_markup byte = byte == 60 || byte == 62 || byte == 34 || byte == 39

-- the front of a page's rest, up to the next tag
abbrev pub before_tag : Txt → Txt
before_tag [] = []
before_tag (byte ∷ rest) = if byte == 60 then [] else byte ∷ before_tag rest

-- a text is read as it is, whatever tag follows, and no byte of it is markup
pub record IsReadBack (text : Txt) : Type 0 where
  pub back : unescaped (escaped text) ≡ text
  pub plain : list_any is_markup (escaped text) ≡ false
  pub up_to_tag : (after : Txt) → unescaped (before_tag (escaped text ++ 60 ∷ after)) ≡ text
