-- A list whose elements are changed one after the other.
use Rattle.std.proofs.Common.{◌≡◌, ℕ, suc, ◌+◌, ◌<◌, ◌≤◌, List, [], ◌∷◌, ◌++◌, map, take, drop, length, get_or, set, sym, ap, ◌∙◌, arith, append_assoc, add-one}
use Rattle.std.proofs.Math.Seq.{set-append_seam, get_or-append_seam, drop-cons, take-suc}
use Rattle.std.proofs.lemmas.List.{append-nil, length-map, length-take-le, map-append, take_all, drop_all}

module _ {A B : Type 0} (before after : A → B) (items : List A) (place : ℕ) (item : A) (within : place < length items) (is : get_or items place item ≡ item) where
  abbrev front : List B
  front = map after (take place items)

  abbrev back : List B
  back = map before (drop (suc place) items)

  length-front : length front ≡ place
  length-front = length-map (take place items) after ∙ length-take-le place items (omega (arith, within))

  whole : (list : List B) → list ≡ front ++ map before (drop place items) → list ≡ front ++ before item ∷ back
  whole list e =
      e ∙ ap (λ (rest : List A). front ++ map before rest) (drop-cons items place item within)
      ∙ ap (λ (one : A). front ++ before one ∷ back) is

  -- the element at a place
  pub now_at : (list : List B) (other : B) → list ≡ map after (take place items) ++ map before (drop place items) → get_or list place other ≡ before item
  now_at list other e =
      ap (λ (all : List B). get_or all place other) (whole list e)
      ∙ ap (λ (at : ℕ). get_or (front ++ before item ∷ back) at other) (sym length-front)
      ∙ get_or-append_seam front (before item) back other

  -- the list after that element is changed
  pub then_set : (list : List B) (new : B) → list ≡ map after (take place items) ++ map before (drop place items) → new ≡ after item
      → set list place new ≡ map after (take (place + 1) items) ++ map before (drop (place + 1) items)
  then_set list new e is_new =
      ap (λ (all : List B). set all place new) (whole list e)
      ∙ ap (λ (at : ℕ). set (front ++ before item ∷ back) at new) (sym length-front)
      ∙ set-append_seam front (before item) back new
      ∙ ap (λ (one : B). front ++ one ∷ back) is_new
      ∙ sym (
      ap (λ (at : ℕ). map after (take at items) ++ map before (drop at items)) (add-one place)
      ∙ ap (λ (some : List A). map after some ++ back) (take-suc items place item within)
      ∙ ap (λ (one : A). map after (take place items ++ one ∷ []) ++ back) is
      ∙ ap (λ (some : List B). some ++ back) (map-append after (take place items) (item ∷ []))
      ∙ append_assoc front (after item ∷ []) back
      )

-- the list after all are changed
pub all_changed : {A B : Type 0} (before after : A → B) (items : List A) (place : ℕ) → length items ≤ place → (list : List B)
    → list ≡ map after (take place items) ++ map before (drop place items) → list ≡ map after items
all_changed before after items place past list e =
    e ∙ (λ i. map after (take_all place items past i) ++ map before (drop_all place items past i)) ∙ append-nil (map after items)

-- the element at a place between others, and the list after it is changed
module _ {A : Type 0} (front back : List A) (old : A) where
  pub found_at : (list : List A) (place : ℕ) → list ≡ front ++ old ∷ back → place ≡ length front → (other : A) → get_or list place other ≡ old
  found_at list place split at other = (λ i. get_or (split i) (at i) other) ∙ get_or-append_seam front old back other

  pub changed_at : (meanwhile new : A) (list : List A) (place : ℕ) → list ≡ front ++ old ∷ back → place ≡ length front → (last : A) → last ≡ new
      → set (set list place meanwhile) place last ≡ front ++ new ∷ back
  changed_at meanwhile new list place split at last is =
      (λ i. set (set (split i) (at i) meanwhile) (at i) last)
      ∙ ap (λ (all : List A). set all (length front) last) (set-append_seam front old back meanwhile)
      ∙ set-append_seam front meanwhile back last
      ∙ ap (λ (one : A). front ++ one ∷ back) is
