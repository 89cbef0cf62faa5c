-- The text of a list, with one more member: the text so far, and what remains.
use Rattle.std.proofs.Common.{◌≡◌, ◌∙◌, ℕ, zero, suc, ◌+◌, ◌-◌, ◌<◌, ◌≤◌, Bool, true, false, List, [], ◌∷◌, ◌++◌, flat_map, length, get_or, drop, sym, ap, subst, append_assoc, add-one}
use Rattle.std.specs.Prelude.{◌||◌, slice_get}
use Rattle.std.specs.List.{list_any, range_with_len}
use Rattle.std.specs.Option.{option_map_or}
use Rattle.std.proofs.lemmas.List.{append-nil, drop_all}
use Rattle.hippo_values.specs.Texts.{Txt}
use Rattle.hippo_typing_catalog.proofs.ListLemmas.{drop_at_get_or, range_at}

module _ {A : Type 0} (f : A → Txt) (start now : Txt) where
  -- a member's text is added
  pub one_more : (next : Txt) (item : A) (left remaining : List A) → left ≡ item ∷ remaining → next ≡ now ++ f item → now ++ flat_map f left ≡ start → next ++ flat_map f remaining ≡ start
  one_more next item left remaining parts added so_far =
      ap (λ (t : Txt). t ++ flat_map f remaining) added ∙ append_assoc now (f item) (flat_map f remaining) ∙ ap (λ (l : List A). now ++ flat_map f l) (sym parts) ∙ so_far

  -- no member remains
  pub none_more : (left : List A) → left ≡ [] → now ++ flat_map f left ≡ start → now ≡ start
  none_more left none so_far = sym (append-nil now) ∙ ap (λ (l : List A). now ++ flat_map f l) (sym none) ∙ so_far

  -- the same for a list that is lent, at an index
  pub one_lent : (next : Txt) (item : A) (items lent : List A) (place : ℕ) → lent ≡ items → place < length lent → item ≡ get_or lent place item
      → next ≡ now ++ f item → now ++ flat_map f (drop place items) ≡ start → next ++ flat_map f (drop (place + 1) items) ≡ start
  one_lent next item items lent place same within read added so_far =
      one_more next item (drop place items) (drop (place + 1) items)
      (subst (λ (xs : List A). drop place xs ≡ item ∷ drop (place + 1) xs) same (drop_at_get_or lent place item within read)) added so_far

  pub none_lent : (items lent : List A) (place : ℕ) → lent ≡ items → length lent ≤ place → now ++ flat_map f (drop place items) ≡ start → now ≡ start
  none_lent items lent place same past so_far =
      none_more (drop place items) (subst (λ (xs : List A). drop place xs ≡ []) same (drop_all place lent past)) so_far

  after : (next : Txt) (items : List A) (place : ℕ) → next ≡ now ++ option_map_or f (slice_get items place) [] → now ++ flat_map f (drop place items) ≡ start → next ++ flat_map f (drop (suc place) items) ≡ start
  after next [] zero added so_far = append-nil next ∙ added ∙ so_far
  after next [] (suc place) added so_far = append-nil next ∙ added ∙ so_far
  after next (item ∷ items) zero added so_far = ap (λ (t : Txt). t ++ flat_map f items) added ∙ append_assoc now (f item) (flat_map f items) ∙ so_far
  after next (item ∷ items) (suc place) added so_far = after next items place added so_far

  -- the text of the member at an index is added, if there is one
  pub one_at : (next : Txt) (items : List A) (place : ℕ) → next ≡ now ++ option_map_or f (slice_get items place) [] → now ++ flat_map f (drop place items) ≡ start → next ++ flat_map f (drop (place + 1) items) ≡ start
  one_at next items place added so_far = rw (add-one) (after next items place added so_far)

module _ (test : ℕ → Bool) (all : Bool) (place count : ℕ) (within : place < count) (so_far : list_any test (range_with_len place (count - place)) ≡ all) where
  split : test place || list_any test (range_with_len (place + 1) (count - (place + 1))) ≡ all
  split = sym (ap (list_any test) (range_at place count within)) ∙ so_far

  -- an index passes
  pub place_passes : true ≡ test place → true ≡ all
  place_passes is = ap (λ (b : Bool). b || list_any test (range_with_len (place + 1) (count - (place + 1)))) is ∙ split

  -- an index does not pass, and the later ones decide
  pub place_fails : false ≡ test place → list_any test (range_with_len (place + 1) (count - (place + 1))) ≡ all
  place_fails is = ap (λ (b : Bool). b || list_any test (range_with_len (place + 1) (count - (place + 1)))) is ∙ split
