-- What is at a number after something is put there, or at another one.
use Rattle.std.proofs.Common.{◌≡◌, ◌≢◌, ◌∙◌, sym, ap, refl, arith, ℕ, zero, suc, ◌+◌, true, List, [], ◌∷◌, Option, Some, None, is_none, slice_get, slice_set, slice_index_or, position, option_map}
use Rattle.std.proofs.lemmas.Option.{slice_get-get_or}
use Rattle.std.proofs.lemmas.List.Quantifiers.{position-Some}
use Rattle.std.specs.Option.{option_flatten}
use Rattle.hippo_engine_sessions.specs.Worlds.{at_number, with_at, free_number}

set_there : {A : Type 0} (places : List A) (place : ℕ) (old new : A) → slice_get places place ≡ Some old → slice_get (slice_set places place new) place ≡ Some new
set_there [] place old new is = absurd cc
set_there (first ∷ rest) zero old new is = refl
set_there (first ∷ rest) (suc place) old new is = set_there rest place old new is

set_elsewhere : {A : Type 0} (places : List A) (at place : ℕ) (new : A) → (at ≢ place) → slice_get (slice_set places at new) place ≡ slice_get places place
set_elsewhere [] at place new differ = refl
set_elsewhere (first ∷ rest) zero zero new differ = absurd (differ refl)
set_elsewhere (first ∷ rest) zero (suc place) new differ = refl
set_elsewhere (first ∷ rest) (suc at) zero new differ = refl
set_elsewhere (first ∷ rest) (suc at) (suc place) new differ = set_elsewhere rest at place new (λ same. differ (ap suc same))

-- any other number keeps what it had
pub elsewhere : {A : Type 0} (places : List (Option A)) (at number : ℕ) (held : Option A) → (at ≢ number) → at_number (with_at places at held) number ≡ at_number places number
elsewhere places zero number held differ = refl
elsewhere places (suc at) zero held differ = refl
elsewhere places (suc at) (suc place) held differ = ap option_flatten (set_elsewhere places at place held (λ same. differ (ap suc same)))

flattened : {A : Type 0} (found : Option (Option A)) (one : A) → option_flatten found ≡ Some one → found ≡ Some (Some one)
flattened None one is = absurd cc
flattened (Some None) one is = absurd cc
flattened (Some (Some other)) one is = ap Some is

-- a number that is in use has what is put there instead
pub there : {A : Type 0} (places : List (Option A)) (number : ℕ) (old new : A) → at_number places number ≡ Some old → at_number (with_at places number (Some new)) number ≡ Some new
there places zero old new is = absurd cc
there places (suc place) old new is = ap option_flatten (set_there places place (Some old) (Some new) (flattened (slice_get places place) old is))

numbered : (found : Option ℕ) (number : ℕ) → option_map (λ place. place + 1) found ≡ Some number → ((place : ℕ) × (found ≡ Some place) × (number ≡ suc place))
numbered None number is = absurd cc
numbered (Some place) number is =
    let same : place + 1 ≡ number = cc in
    (place, refl, omega (arith, same))

nothing_in : {A : Type 0} (held : Option A) → is_none held ≡ true → held ≡ None
nothing_in None is = refl
nothing_in (Some one) is = absurd cc

-- a free number has a place, which is empty
free_place : {A : Type 0} (places : List (Option A)) (number : ℕ) → free_number places ≡ Some number → ((place : ℕ) × (number ≡ suc place) × (slice_get places place ≡ Some None))
free_place {A} places number is =
    let found = numbered (position is_none places) number is in
    let place : ℕ = found.0 in
    let stands = position-Some is_none places place None found.1 in
    (place, found.2, slice_get-get_or places place None stands.0 ∙ ap Some (nothing_in (slice_index_or places place None) stands.1))

-- nothing is at a free number
pub free_none : {A : Type 0} (places : List (Option A)) (number : ℕ) → free_number places ≡ Some number → at_number places number ≡ None
free_none {A} places number is =
    let found = free_place places number is in
    ap (at_number places) found.1 ∙ ap option_flatten found.2

-- what is put at a free number is there
pub free_there : {A : Type 0} (places : List (Option A)) (number : ℕ) (held : Option A) → free_number places ≡ Some number → at_number (with_at places number held) number ≡ held
free_there {A} places number held is =
    let found = free_place places number is in
    ap (λ (at : ℕ). at_number (with_at places at held) at) found.1 ∙ ap option_flatten (set_there places found.0 None held found.2)

-- a number that is in use is not free
pub not_free : {A : Type 0} (places : List (Option A)) (at number : ℕ) (one : A) → free_number places ≡ Some at → at_number places number ≡ Some one → (at ≢ number)
not_free {A} places at number one free stands same =
    let both : None ≡ Some one = sym (free_none places at free) ∙ ap (at_number places) same ∙ stands in
    absurd cc
