-- Two lists in parallel, place by place.
use Rattle.std.proofs.Common.{◌≡◌, ℕ, ◌+◌, ◌<◌, List, [], ◌∷◌, ◌++◌, length, drop, min, get_or, arith, refl}
use Rattle.std.specs.List.{zip, flat_map}
use Rattle.std.proofs.lemmas.List.{nil_from_length, length-drop}
use Rattle.std.proofs.lemmas.List.Concat.{flat_map-append}
use Rattle.std.proofs.lemmas.Slice.Zip.{length-zip}
use Rattle.hippo_model.specs.declared.name_fault.NameFault.{NameFault}
use Rattle.hippo_typing_catalog.specs.Refusals.{IsFirstOf}
use Rattle.hippo_typing_catalog.proofs.ListLemmas.{drop_at_get_or}
use Rattle.hippo_typing_catalog.proofs.Refused.{first_with_more}

-- no pair is left after the end of the shorter list
pub zip-past_end : {A B : Type 0} (xs : List A) (ys : List B) (n : ℕ) → n ≡ min (length xs) (length ys) → zip (drop n xs) (drop n ys) ≡ []
zip-past_end xs ys n ended =
    nil_from_length (zip (drop n xs) (drop n ys)) (rw (length-zip (drop n xs) (drop n ys), length-drop n xs, length-drop n ys) (omega arith))

-- the pair at a place, then the pairs after it
pub zip-drop : {A B : Type 0} (xs : List A) (ys : List B) (n : ℕ) (x : A) (y : B) → n < length xs → n < length ys → x ≡ get_or xs n x → y ≡ get_or ys n y → zip (drop n xs) (drop n ys) ≡ (x, y) ∷ zip (drop (n + 1) xs) (drop (n + 1) ys)
zip-drop xs ys n x y within also read first =
    rw (drop_at_get_or xs n x within read, drop_at_get_or ys n y also first) refl

-- if nothing is refused before a pair, its first refusal is the first of all
pub first_at_pair : {A B : Type 0} (refuse : A × B → List NameFault) (xs : List A) (ys : List B) (n : ℕ) (x : A) (y : B) (fault : NameFault) → n < length xs → n < length ys → x ≡ get_or xs n x → y ≡ get_or ys n y → flat_map refuse (zip xs ys) ≡ flat_map refuse (zip (drop n xs) (drop n ys)) → IsFirstOf (refuse (x, y)) fault → IsFirstOf (flat_map refuse (zip xs ys)) fault
first_at_pair refuse xs ys n x y fault within also read too left first =
    rw (left, zip-drop xs ys n x y within also read too) (first_with_more (refuse (x, y)) (flat_map refuse (zip (drop (n + 1) xs) (drop (n + 1) ys))) fault first)

-- the first refusal of some members stays the first when more follow
pub first_of_front : {A : Type 0} (refuse : A → List NameFault) (front back : List A) (fault : NameFault) → IsFirstOf (flat_map refuse front) fault → IsFirstOf (flat_map refuse (front ++ back)) fault
first_of_front refuse front back fault first =
    rw (flat_map-append refuse front back) (first_with_more (flat_map refuse front) (flat_map refuse back) fault first)
