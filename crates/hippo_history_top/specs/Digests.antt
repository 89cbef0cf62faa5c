-- The digest of a history: a chain of SHA-256 over the stored bodies of its entries. Whoever notes
-- it can see later whether these entries are still the same.
use Rattle.std.specs.Prelude.{ℕ, List, ◌++◌, length, map, replicate, codes, decimal}
use Rattle.std.specs.List.{fold}
use Rattle.sha2.specs.Sha256.{sha256}
use Rattle.hex.specs.Hex.{encode_lower}
use Rattle.hippo_values.specs.Texts.{Txt}
use Rattle.hippo_model.specs.declared.stored.StoredEntry.{StoredEntry}
use Rattle.hippo_model.specs.StoredForms.{stored}
use Rattle.hippo_model.specs.Terms.{History}

-- the digest of no entries: 32 zero bytes
abbrev pub no_digest : List ℕ
no_digest = replicate 32 0

-- a digest with one more body: the digest of the old digest followed by the body
abbrev pub next_digest : List ℕ → List ℕ → List ℕ
next_digest digest body = sha256 (digest ++ body)

abbrev pub digest_with : List ℕ → StoredEntry → List ℕ
digest_with digest entry = next_digest digest entry.body

-- a digest with further stored entries, one after another
abbrev pub digest_after : List ℕ → List StoredEntry → List ℕ
digest_after digest entries = fold digest_with digest entries

-- the digest of a history
abbrev pub digest_of : History → List ℕ
digest_of history = digest_after no_digest (map stored history)

-- a line with a number of entries and their digest in hexadecimal digits
abbrev pub digest_line : ℕ → List ℕ → Txt
digest_line count digest = decimal count ++ (codes " " ++ (encode_lower digest ++ codes "\n"))

-- the line of a history
abbrev pub digest_shown : History → Txt
digest_shown history = digest_line (length history) (digest_of history)
