-- Texts among bytes.
use Rattle.std.proofs.Common.{◌≡◌, ℕ, Bool, true, false, List, Some, None, if◌then◌else◌, refl, sym, ◌&&◌, length}
use Rattle.std.proofs.Common.{nat_le}
use Rattle.std.specs.Str.{IsUtf8, is_utf8}
use Rattle.std.proofs.lemmas.Str.{IsUtf8-from_is_utf8, is_utf8-from_IsUtf8}
use Rattle.hippo_model.specs.Keepable.{is_text}
use Rattle.hippo_entry_codec.specs.Readings.{stored_text}

pub stored_text-some : (bytes text : List ℕ) → text ≡ bytes → IsUtf8 bytes → stored_text bytes ≡ Some text
stored_text-some bytes text same utf8 = rw (is_utf8-from_IsUtf8 bytes utf8, same) refl

unless : (test : Bool) (bytes : List ℕ) → (test ≡ true → ⊥) → (if test then Some bytes else None) ≡ None
unless true bytes never = absurd (never refl)
unless false bytes never = refl

pub stored_text-none : (bytes : List ℕ) → ¬ IsUtf8 bytes → stored_text bytes ≡ None
stored_text-none bytes never = unless (is_utf8 bytes) bytes (λ holds. never (IsUtf8-from_is_utf8 bytes holds))

also : (a b : Bool) → b ≡ true → a ≡ (a && b)
also true b holds = sym holds
also false b holds = refl

pub is_text-of : (limit : ℕ) (text : List ℕ) → IsUtf8 text → nat_le (length text) limit ≡ is_text limit text
is_text-of limit text utf8 = also (nat_le (length text) limit) (is_utf8 text) (is_utf8-from_IsUtf8 text utf8)
