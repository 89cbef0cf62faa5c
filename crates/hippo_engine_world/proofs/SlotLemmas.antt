-- A list that is changed place by place: its image under a map, and how far it is changed.
use Rattle.std.proofs.Common.{◌≡◌, ◌∙◌, ◌<◌, ◌≤◌, ℕ, zero, suc, ◌+◌, Bool, true, false, List, [], ◌∷◌, map, length, get_or, slice_set, sym, ap, subst, arith, refl}
use Rattle.std.specs.Prelude.{nat_lt}
use Rattle.std.proofs.lemmas.Bool.{ltb-true, ltb-false}
use Rattle.std.proofs.lemmas.List.{length-map, length-set, get_or-set_same, get_or-set_other}
use Rattle.hippo_model.proofs.ChangeLoops.{AreChangedTo}

-- the image of the list is the same if that of the changed member is
pub map_kept : {X Y : Type 0} (f : X → Y) (xs : List X) (i : ℕ) (d new : X) → i < length xs → f new ≡ f (get_or xs i d) → map f (slice_set xs i new) ≡ map f xs
map_kept f [] i d new within same = absurd (omega (arith, within))
map_kept f (x ∷ xs) zero d new within same = ap (λ y. y ∷ map f xs) same
map_kept f (x ∷ xs) (suc i) d new within same = ap (λ ys. f x ∷ ys) (map_kept f xs i d new (omega (arith, within)) same)

-- a place is in any list with the same image
pub within_seen : {X Y : Type 0} (f : X → Y) (xs ys : List X) (i : ℕ) → map f ys ≡ map f xs → i < length xs → i < length ys
within_seen {X} {Y} f xs ys i same within =
    let many : length ys ≡ length xs = sym (length-map ys f) ∙ ap (λ (seen : List Y). length seen) same ∙ length-map xs f in
    omega (arith, many, within)

module _ {X : Type 0} (Before After : X → Type 0) (xs : List X) (i : ℕ) (d new : X) (within : i < length xs) (step : Before (get_or xs i d) → After new) where
  -- one more member is changed
  pub changed_more : AreChangedTo Before After xs i → AreChangedTo Before After (slice_set xs i new) (i + 1)
  changed_more was = (low, high)
    where
      here : After new
      here = step (was.1 i d (omega arith) within)

      low_at : (k : ℕ) (e : X) (before : Bool) → nat_lt k i ≡ before → k < i + 1 → After (get_or (slice_set xs i new) k e)
      low_at k e true is below =
          let less : k < i = ltb-true k i is in
          subst After (sym (get_or-set_other xs i k new e (λ same. omega (arith, less, same)))) (was.0 k e (omega arith) less)
      low_at k e false is below =
          let more : i ≤ k = ltb-false k i is in
          let same : i ≡ k = omega (arith, more, below) in
          subst (λ (n : ℕ). After (get_or (slice_set xs i new) n e)) same (subst After (sym (get_or-set_same xs i new e within)) here)

      low : (k : ℕ) (e : X) → 0 ≤ k → k < i + 1 → After (get_or (slice_set xs i new) k e)
      low k e none below = low_at k e (nat_lt k i) refl below

      high : (k : ℕ) (e : X) → i + 1 ≤ k → k < length (slice_set xs i new) → Before (get_or (slice_set xs i new) k e)
      high k e above below =
          let as_long = length-set xs i new in
          subst Before (sym (get_or-set_other xs i k new e (λ same. omega (arith, above, same)))) (was.1 k e (omega (arith, above)) (omega (arith, below, as_long)))
