-- Combinations in the order of the product, one row more.
use Rattle.std.proofs.Common.{◌≡◌, ℕ, suc, ◌+◌, ◌-◌, ◌≤◌, List, [], ◌∷◌, ◌++◌, map, take, drop, length, refl, sym, ap, ◌∙◌, append_assoc, add-one, Some, slice_get, arith}
use Rattle.std.specs.List.{flat_map}
use Rattle.std.proofs.lemmas.List.{append-nil, map-append, take_more, take_all, take-append-drop, take-append-le, length-append}
use Rattle.std.proofs.lemmas.List.Concat.{flat_map-append}
use Rattle.std.proofs.Math.Seq.{drop-cons}
use Rattle.std.proofs.lemmas.Option.{slice_get_within, get_or_from_slice_get}

module _ {X : Type 0} where
  abbrev pub continued : List X → List (List X) → List (List X)
  continued front combinations = map (λ others. front ++ others) combinations

  -- the combinations that begin with a row
  abbrev pub beginning : List (List X) → X → List (List X)
  beginning rest row = map (λ others. row ∷ others) rest

  continued-beginning : (front : List X) (rest : List (List X)) (row : X) → continued front (beginning rest row) ≡ continued (front ++ row ∷ []) rest
  continued-beginning front [] row = refl
  continued-beginning front (others ∷ rest) row = λ i. sym (append_assoc front (row ∷ []) others) i ∷ continued-beginning front rest row i

  pub take_row : (rows : List X) (i : ℕ) (row : X) → slice_get rows i ≡ Some row → take (i + 1) rows ≡ take i rows ++ row ∷ []
  take_row rows i row e =
      take_more rows i row (slice_get_within rows i row e) ∙ ap (λ (last : X). take i rows ++ last ∷ []) (get_or_from_slice_get rows i row row e)

  pub drop_at : (rows : List X) (i : ℕ) (row : X) → slice_get rows i ≡ Some row → drop i rows ≡ row ∷ drop (i + 1) rows
  drop_at rows i row e =
      rw (add-one) (drop-cons rows i row (slice_get_within rows i row e) ∙ ap (λ (first : X). first ∷ drop (suc i) rows) (get_or_from_slice_get rows i row row e))

  pub without_last : (combination front : List X) (row : X) → combination ≡ front ++ row ∷ [] → take (length combination - 1) combination ≡ front
  without_last combination front row e =
      let short : length combination - 1 ≤ length front = rw e (omega (arith, length-append front (row ∷ []))) in
      let long : length front ≤ length combination - 1 = rw e (omega (arith, length-append front (row ∷ []))) in
      ap (take (length combination - 1)) e ∙ take-append-le (length combination - 1) front (row ∷ []) short ∙ take_all (length combination - 1) front long

  pub one_row_more : (front : List X) (rest : List (List X)) (rows : List X) (i : ℕ) (row : X) → slice_get rows i ≡ Some row
      → continued front (flat_map (beginning rest) (take (i + 1) rows)) ≡ continued front (flat_map (beginning rest) (take i rows)) ++ continued (front ++ row ∷ []) rest
  one_row_more front rest rows i row e =
      ap (λ (some : List X). continued front (flat_map (beginning rest) some)) (take_row rows i row e)
      ∙ ap (continued front) (flat_map-append (beginning rest) (take i rows) (row ∷ []))
      ∙ ap (λ (last : List (List X)). continued front (flat_map (beginning rest) (take i rows) ++ last)) (append-nil (beginning rest row))
      ∙ map-append (λ others. front ++ others) (flat_map (beginning rest) (take i rows)) (beginning rest row)
      ∙ ap (λ (last : List (List X)). continued front (flat_map (beginning rest) (take i rows)) ++ last) (continued-beginning front rest row)

  pub all_rows : (front : List X) (rest : List (List X)) (rows : List X) (i : ℕ) (row : X) → slice_get rows i ≡ Some row
      → continued front (flat_map (beginning rest) rows) ≡ continued front (flat_map (beginning rest) (take i rows)) ++ continued (front ++ row ∷ []) rest ++ continued front (flat_map (beginning rest) (drop (i + 1) rows))
  all_rows front rest rows i row e =
      ap (λ (some : List X). continued front (flat_map (beginning rest) some)) (sym (take-append-drop (i + 1) rows))
      ∙ ap (continued front) (flat_map-append (beginning rest) (take (i + 1) rows) (drop (i + 1) rows))
      ∙ map-append (λ others. front ++ others) (flat_map (beginning rest) (take (i + 1) rows)) (flat_map (beginning rest) (drop (i + 1) rows))
      ∙ ap (λ (first : List (List X)). first ++ continued front (flat_map (beginning rest) (drop (i + 1) rows))) (one_row_more front rest rows i row e)
