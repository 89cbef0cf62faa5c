-- Which texts are allowed in a cell.
use Rattle.std.specs.Prelude.{ℕ, Bool, not, ◌&&◌, ◌==◌, List, length, nat_le}
use Rattle.std.specs.List.{list_all}
use Rattle.hippo_values.specs.Limits.{text_limit}

-- a text is its bytes
abbrev pub Txt : Type 0
Txt = List ℕ

-- not an ASCII control character, that is, not U+0000 to U+001F or U+007F
abbrev pub is_plain : ℕ → Bool
is_plain byte = nat_le 32 byte && not (byte == 127)

-- a text in a cell has at most 4096 bytes and no ASCII control character
abbrev pub keeps_text_rule : List ℕ → Bool
keeps_text_rule text = nat_le (length text) text_limit && list_all is_plain text

abbrev pub is_space : ℕ → Bool
is_space byte = byte == 32
