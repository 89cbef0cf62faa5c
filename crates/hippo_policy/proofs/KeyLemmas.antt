-- An update that is done once for each distinct key of a list that may repeat keys.
use Rattle.std.proofs.Common.{◌≡◌, ◌∙◌, sym, refl, ap, ℕ, ◌+◌, ◌<◌, List, length, take, get_or, Bool, true, false, ◌||◌, if◌then◌else◌, Option, Some}
use Rattle.std.proofs.lemmas.Bool.{false≢true}
use Rattle.std.proofs.lemmas.List.Folds.{list_any_more}
use Rattle.std.proofs.lemmas.Map.{lookup-set_value}
use Rattle.std.specs.Cmp.{IsEquivalence}
use Rattle.std.specs.List.{list_any}
use Rattle.std.specs.Map.{lookup, set_value}
use Rattle.std.specs.Option.{option_map_or}

module _ {X : Type 0} (f : X → X) where
  abbrev pub done_if : Bool → X → X
  done_if is_done old = if is_done then f old else old

  done_more : (before here seen : Bool) (old now new : X) → (here ≡ true → before ≡ seen) → false ≡ seen → now ≡ done_if before old → new ≡ done_if here now → new ≡ done_if (before || here) old
  done_more true true seen old now new met fresh so_far done = absurd (false≢true (fresh ∙ sym (met refl)))
  done_more false true seen old now new met fresh so_far done = rw so_far at done
  done_more true false seen old now new met fresh so_far done = done ∙ so_far
  done_more false false seen old now new met fresh so_far done = done ∙ so_far

  done_again : (before here seen : Bool) (old now : X) → (here ≡ true → before ≡ seen) → true ≡ seen → now ≡ done_if before old → now ≡ done_if (before || here) old
  done_again true here seen old now met again so_far = so_far
  done_again false true seen old now met again so_far = absurd (false≢true (met refl ∙ sym again))
  done_again false false seen old now met again so_far = so_far

module _ {K X : Type 0} (same : K → K → Bool) (equivalence : IsEquivalence same) (keys : List K) (place : ℕ) (key other : K) (f : X → X) where
  alike : same key other ≡ true → (one : K) → same one other ≡ same one key
  alike is one = equivalence.symm one other ∙ sym (equivalence.congr key other one is) ∙ equivalence.symm key one

  any_alike : same key other ≡ true → list_any (λ one. same one other) (take place keys) ≡ list_any (λ one. same one key) (take place keys)
  any_alike is i = list_any (λ one. alike is one i) (take place keys)

  abbrev is_among : ℕ → Bool
  is_among n = list_any (λ one. same one other) (take n keys)

  one_more : place < length keys → key ≡ get_or keys place key → is_among (place + 1) ≡ (is_among place || same key other)
  one_more within is = list_any_more (λ one. same one other) keys place key within ∙ rw (sym is) refl

  -- the key at a place, if it does not occur before
  pub done_once : (old now new : X) → place < length keys → key ≡ get_or keys place key → false ≡ list_any (λ one. same one key) (take place keys) → now ≡ done_if f (is_among place) old → new ≡ done_if f (same key other) now
      → new ≡ done_if f (is_among (place + 1)) old
  done_once old now new within is fresh so_far done = rw (one_more within is) (done_more f (is_among place) (same key other) (list_any (λ one. same one key) (take place keys)) old now new any_alike fresh so_far done)

  -- and if it does
  pub done_before : (old now : X) → place < length keys → key ≡ get_or keys place key → true ≡ list_any (λ one. same one key) (take place keys) → now ≡ done_if f (is_among place) old → now ≡ done_if f (is_among (place + 1)) old
  done_before old now within is again so_far = rw (one_more within is) (done_again f (is_among place) (same key other) (list_any (λ one. same one key) (take place keys)) old now any_alike again so_far)

-- The values at other keys after the value at one key is changed.
module _ {K V X : Type 0} (same : K → K → Bool) (equivalence : IsEquivalence same) (entries : List (K × V)) (key other : K) (old new : V) (view : V → X) (none : X) (f : X → X) where
  abbrev seen_at : List (K × V) → X
  seen_at kept = option_map_or view (lookup (same other) kept) none

  alike_found : same key other ≡ true → lookup (same other) entries ≡ lookup (same key) entries
  alike_found is i = lookup (λ one. sym (equivalence.congr key other one is) i) entries

  kept_by : (is_same : Bool) → same key other ≡ is_same → Some old ≡ lookup (same key) entries → view new ≡ f (view old) → seen_at (set_value (same key) entries new) ≡ done_if f is_same (seen_at entries)
  kept_by true is found changed = rw (lookup-set_value equivalence (same key) (equivalence.congr key) other new entries (rw (sym found) refl), is, alike_found is, sym found) changed
  kept_by false is found changed = rw (lookup-set_value equivalence (same key) (equivalence.congr key) other new entries (rw (sym found) refl), is) refl

  pub kept-changed : (written : List (K × V)) → written ≡ set_value (same key) entries new → Some old ≡ lookup (same key) entries → view new ≡ f (view old) → seen_at written ≡ done_if f (same key other) (seen_at entries)
  kept-changed written is found changed = ap seen_at is ∙ kept_by (same key other) refl found changed

pub done_if-same : {X : Type 0} (is_done : Bool) (old : X) → done_if (λ value. value) is_done old ≡ old
done_if-same true old = refl
done_if-same false old = refl

-- And after a value is written where there was none.
pub kept-begun : {V X : Type 0} (view : V → X) (none : X) (is_same : Bool) (made : V) (found after : Option V) (seen : X) → after ≡ (if is_same then Some made else found) → view made ≡ seen
    → option_map_or view after none ≡ (if is_same then seen else option_map_or view found none)
kept-begun view none true made found after seen is made_is = rw is made_is
kept-begun view none false made found after seen is made_is = rw is refl
