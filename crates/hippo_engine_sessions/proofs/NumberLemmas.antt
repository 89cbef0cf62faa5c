-- Putting a value into a slot that was emptied, and putting a value where it already is.
use Rattle.std.proofs.Common.{◌≡◌, ℕ, zero, suc, List, [], ◌∷◌, Option, slice_get, slice_set, refl, sym, ap}
use Rattle.std.proofs.lemmas.List.{set-set}
use Rattle.std.specs.Option.{option_flatten}
use Rattle.hippo_engine_sessions.specs.Worlds.{at_number, with_at}

-- the last value that is put at a number is there
pub put_back : {A : Type 0} (places : List (Option A)) (number : ℕ) (first held : Option A)
    → with_at (with_at places number first) number held ≡ with_at places number held
put_back places zero first held = refl
put_back places (suc place) first held = set-set places place first held

set_again : {A : Type 0} (places : List (Option A)) (place : ℕ) (held : Option A)
    → option_flatten (slice_get places place) ≡ held → slice_set places place held ≡ places
set_again [] place held stands = refl
set_again (first ∷ rest) zero held stands = ap (λ held. held ∷ rest) (sym stands)
set_again (first ∷ rest) (suc place) held stands = ap (λ left. first ∷ left) (set_again rest place held stands)

-- putting the value that is at a number changes nothing
pub put_again : {A : Type 0} (places : List (Option A)) (number : ℕ) (held : Option A)
    → at_number places number ≡ held → with_at places number held ≡ places
put_again places zero held stands = refl
put_again places (suc place) held stands = set_again places place held stands
