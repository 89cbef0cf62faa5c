-- The values of slots, mapped by a function; and the slots before and after a number.
use Rattle.std.proofs.Common.{◌≡◌, ◌∙◌, ℕ, zero, suc, ◌+◌, List, [], ◌∷◌, ◌++◌, map, Option, Some, None, slice_get, slice_set, unwrap_or, get_or, cond, true, refl, sym, ap, subst, arith}
use Rattle.std.specs.Prelude.{option_map, is_none, is_some, nat_lt, position}
use Rattle.std.specs.List.{position_or_len}
use Rattle.std.proofs.lemmas.List.{length-map}
use Rattle.std.proofs.lemmas.List.Quantifiers.{position-Some}
use Rattle.std.proofs.lemmas.Option.{slice_get-get_or}
use Rattle.std.specs.Option.{option_flatten}
use Rattle.hippo_engine_sessions.specs.Worlds.{at_number, with_at, free_number, empty_slots}

module _ {A B : Type 0} (f : A → B) where
  seen-get : (places : List (Option A)) (place : ℕ) → option_flatten (slice_get (map (option_map f) places) place) ≡ option_map f (option_flatten (slice_get places place))
  seen-get [] place = refl
  seen-get (first ∷ rest) zero = refl
  seen-get (first ∷ rest) (suc place) = seen-get rest place

  seen-set : (places : List (Option A)) (place : ℕ) (held : Option A) → map (option_map f) (slice_set places place held) ≡ slice_set (map (option_map f) places) place (option_map f held)
  seen-set [] place held = refl
  seen-set (first ∷ rest) zero held = refl
  seen-set (first ∷ rest) (suc place) held = ap (λ later. option_map f first ∷ later) (seen-set rest place held)

  -- the value at a number of mapped slots
  pub seen-at : (places : List (Option A)) (number : ℕ) → at_number (map (option_map f) places) number ≡ option_map f (at_number places number)
  seen-at places zero = refl
  seen-at places (suc place) = seen-get places place

  pub some_seen : (held : Option A) → is_some (option_map f held) ≡ is_some held
  some_seen None = refl
  some_seen (Some one) = refl

  -- a slot has a value exactly when the mapped slot has one
  pub seen-some : (places : List (Option A)) (number : ℕ) (found : Option A) → found ≡ at_number places number
      → is_some found ≡ is_some (at_number (map (option_map f) places) number)
  seen-some places number found is = ap is_some is ∙ sym (ap is_some (seen-at places number) ∙ some_seen (at_number places number))

  -- and after another value is put there
  pub seen-with : (places : List (Option A)) (number : ℕ) (held : Option A) → map (option_map f) (with_at places number held) ≡ with_at (map (option_map f) places) number (option_map f held)
  seen-with places zero held = refl
  seen-with places (suc place) held = seen-set places place held

  none_seen : (held : Option A) → is_none (option_map f held) ≡ is_none held
  none_seen None = refl
  none_seen (Some one) = refl

  seen-first : (places : List (Option A)) → position_or_len is_none (map (option_map f) places) ≡ position_or_len is_none places
  seen-first [] = refl
  seen-first (None ∷ rest) = refl
  seen-first (Some one ∷ rest) = ap (λ n. 1 + n) (seen-first rest)

  seen-position : (places : List (Option A)) → position is_none (map (option_map f) places) ≡ position is_none places
  seen-position places = λ i. cond (nat_lt (seen-first places i) (length-map places (option_map f) i)) (Some (seen-first places i)) None

  -- the same numbers are free
  pub seen-free : (places : List (Option A)) → free_number (map (option_map f) places) ≡ free_number places
  seen-free places = ap (option_map (λ place. place + 1)) (seen-position places)

  -- empty slots are mapped to empty slots
  pub seen-none : (count : ℕ) → map (option_map f) (empty_slots count) ≡ empty_slots count
  seen-none zero = refl
  seen-none (suc count) = ap (λ rest. None ∷ rest) (seen-none count)

-- the value at a number, between the slots before and after it
pub record StandsAt {A : Type 0} (places : List (Option A)) (number : ℕ) (held : Option A) : Type 0 where
  pub front : List (Option A)
  pub remaining : List (Option A)
  pub whole : places ≡ front ++ held ∷ remaining
  pub put : (other : Option A) → with_at places number other ≡ front ++ other ∷ remaining

module _ {A : Type 0} where
  abbrev one_later : (first : Option A) (rest : List (Option A)) (place : ℕ) (held : Option A) → StandsAt rest (suc place) held → StandsAt (first ∷ rest) (suc (suc place)) held
  one_later first rest place held there = record {
    front = first ∷ there.front;
    remaining = there.remaining;
    whole = ap (λ (later : List (Option A)). first ∷ later) there.whole;
    put = λ other. ap (λ (later : List (Option A)). first ∷ later) (there.put other);
  }

  stands_there : (places : List (Option A)) (place : ℕ) (held : Option A) → slice_get places place ≡ Some held → StandsAt places (suc place) held
  stands_there [] place held is = absurd cc
  stands_there (first ∷ rest) zero held is = record { front = []; remaining = rest; whole = ap (λ found. unwrap_or found first ∷ rest) is; put = λ other. refl }
  stands_there (first ∷ rest) (suc place) held is = one_later first rest place held (stands_there rest place held is)

  flat : (found : Option (Option A)) (held : A) → option_flatten found ≡ Some held → found ≡ Some (Some held)
  flat None held is = absurd cc
  flat (Some one) held is = ap Some is

  -- a value at a number is a value between two parts
  pub held_stands : (places : List (Option A)) (number : ℕ) (held : A) → at_number places number ≡ Some held → StandsAt places number (Some held)
  held_stands places zero held is = absurd cc
  held_stands places (suc place) held is = stands_there places place (Some held) (flat (slice_get places place) held is)

  nothing : (held : Option A) → is_none held ≡ true → held ≡ None
  nothing None is = refl
  nothing (Some one) is = absurd cc

  free_at : (places : List (Option A)) (place : ℕ) → position is_none places ≡ Some place → StandsAt places (suc place) None
  free_at places place is =
      let first = position-Some is_none places place None is in
      stands_there places place None (slice_get-get_or places place None first.0 ∙ ap Some (nothing (get_or places place None) first.1))

  -- a free number is an empty slot between two parts
  pub free_stands : (places : List (Option A)) (number : ℕ) → free_number places ≡ Some number → StandsAt places number None
  free_stands places number is =
      elim (position is_none places) as (λ found. position is_none places ≡ found → option_map (λ place. place + 1) found ≡ Some number → StandsAt places number None) [
        | None ↦ λ at e. absurd cc
        | Some place ↦ λ at e. subst (λ (n : ℕ). StandsAt places n None) (one_up place number e) (free_at places place at)
      ] refl is
    where
      one_up : (place number : ℕ) → option_map (λ (n : ℕ). n + 1) (Some place) ≡ Some number → suc place ≡ number
      one_up place number e = let plus : suc place ≡ place + 1 = omega arith in plus ∙ ap (λ found. unwrap_or found 0) e
