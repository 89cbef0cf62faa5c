-- Texts whose bytes are below 128.
use Rattle.std.proofs.Common.{◌≡◌, ℕ, ◌<◌, List, [], ◌∷◌, sym, subst}
use Rattle.std.specs.Str.{IsAscii}
use Rattle.std.proofs.lemmas.Str.Ascii.{IsAscii-nil, IsAscii-cons}

-- each byte is below 128
abbrev pub AreAscii : List ℕ → Type 0
AreAscii [] = Unit {0}
AreAscii (b ∷ bs) = (b < 128) × AreAscii bs

pub IsAscii-of_bytes : (bs : List ℕ) → AreAscii bs → IsAscii bs
IsAscii-of_bytes [] h = IsAscii-nil
IsAscii-of_bytes (b ∷ bs) h = IsAscii-cons b bs h.0 (IsAscii-of_bytes bs h.1)

pub IsAscii-same : (text other : List ℕ) → text ≡ other → IsAscii other → IsAscii text
IsAscii-same text other e h = let P : List ℕ → Type 0 = IsAscii in subst P (sym e) h
