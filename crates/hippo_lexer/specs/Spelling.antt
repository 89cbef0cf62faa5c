-- How signs, numbers and texts are spelled, in bytes.
use Rattle.std.specs.Prelude.{ℕ, ◌==◌, Bool, false, ◌||◌, List, [], ◌∷◌, codes, bytes_eq, Option}
use Rattle.std.specs.Map.{lookup}
pub use Rattle.hippo_values_text.specs.Quoting.{is_quote, doubled_quotes}
use Rattle.hippo_lexer.specs.declared.kinds.Symbol.{Symbol}
use Rattle.hippo_lexer.specs.declared.kinds.Symbol.TheVariants.{LeftParen, RightParen, Comma, Dot, Star, Equal, NotEqual, Less, LessEqual, Greater, GreaterEqual, Semicolon}

-- a space or a tab
abbrev pub is_blank : ℕ → Bool
is_blank byte = byte == 32 || byte == 9

-- whether the first byte passes the test
abbrev pub begins_with : (ℕ → Bool) → List ℕ → Bool
begins_with test [] = false
begins_with test (byte ∷ rest) = test byte

abbrev pub is_minus : ℕ → Bool
is_minus byte = byte == 45

-- the signs
unfoldable pub sign_table : List (List ℕ × Symbol)
sign_table =
    (codes "(", LeftParen) ∷ (codes ")", RightParen) ∷ (codes ",", Comma) ∷ (codes ".", Dot)
    ∷ (codes "*", Star) ∷ (codes "=", Equal) ∷ (codes "<>", NotEqual) ∷ (codes "!=", NotEqual)
    ∷ (codes "<", Less) ∷ (codes "<=", LessEqual) ∷ (codes ">", Greater)
    ∷ (codes ">=", GreaterEqual) ∷ (codes ";", Semicolon) ∷ []

-- the sign with this text
unfoldable pub sign_of : List ℕ → Option Symbol
sign_of text = lookup (λ known. bytes_eq known text) sign_table
