-- The code's table says of each byte whether it is a word byte.
use Rattle.std.proofs.Common.{◌≡◌, ℕ, ◌<◌, ◌==◌, Bool, false, map, slice_index_or, refl, sym, ap, ◌∙◌, zero-add}
use Rattle.std.specs.List.{range_with_len}
use Rattle.std.proofs.Math.ListN.{get_or}
use Rattle.std.proofs.lemmas.List.FromFn.{get_or-map-range_with_len}
use Rattle.hippo_values.specs.Names.{is_word_byte}
use Rattle.hippo_lexer.specs.declared.parts.TheConstants.{WORD_BYTES}

abbrev is_marked : ℕ → Bool
is_marked byte = slice_index_or WORD_BYTES byte 0 == 1

are_marked : map is_marked (range_with_len 0 256) ≡ map is_word_byte (range_with_len 0 256)
are_marked = refl

pub marked : (byte : ℕ) → byte < 256 → (slice_index_or WORD_BYTES byte 0 == 1) ≡ is_word_byte byte
marked byte small =
    sym (get_or-map-range_with_len is_marked 0 256 byte byte false small (zero-add byte))
    ∙ (ap (λ tests. get_or tests byte false) are_marked ∙ get_or-map-range_with_len is_word_byte 0 256 byte byte false small (zero-add byte))
