-- The row with a key, after a row was put or taken.
use Rattle.std.proofs.Common.{◌≡◌, true, false, ℕ, zero, suc, ◌<◌, List, [], ◌∷◌, map, length, Option, Some, None, if◌then◌else◌, slice_get, sym, ap, ◌∙◌, refl, subst, arith}
use Rattle.std.specs.Prelude.{option_and_then, option_map}
use Rattle.std.specs.Ordering.{is_eq, match_ordering}
use Rattle.std.specs.declared.cmp.Ordering.TheVariants.{Less, Equal, Greater}
use Rattle.std.proofs.lemmas.Cmp.{tied_itself}
use Rattle.std.proofs.lemmas.Option.{get_or_from_slice_get}
use Rattle.hippo_model.specs.declared.born_row.BornRow.{BornRow}
use Rattle.hippo_model.specs.Terms.{Key, Place, Row}
use Rattle.hippo_values.specs.Order.{cells_cmp, same_cells}
use Rattle.hippo_tables_keyed.specs.RowSets.{IsBelowAll, IsAscending, key_in, put_row, take_row, find_row, row_with}
use Rattle.hippo_tables_keyed.proofs.Orders.{cells_total, cells_exact, same_exact}
use Rattle.hippo_tables_keyed.proofs.KeptRows.{flipped, shown, find_row-found, slice_get-find_row}

pub slice_get-within : {X : Type 0} (xs : List X) (i : ℕ) (x : X) → slice_get xs i ≡ Some x → i < length xs
slice_get-within [] i x at = absurd cc
slice_get-within (first ∷ rest) zero x at = omega arith
slice_get-within (first ∷ rest) (suc i) x at = let within = slice_get-within rest i x at in omega (arith, within)

-- the row that a call returns
pub row_at-is : (rows : List BornRow) (place : Place) (row : Row) → option_map (λ kept. kept.row) (slice_get rows place) ≡ Some row → (kept : BornRow) × (slice_get rows place ≡ Some kept) × (kept.row ≡ row)
row_at-is rows place row =
    elim (slice_get rows place) as (λ found. option_map (λ kept. kept.row) found ≡ Some row → (kept : BornRow) × (found ≡ Some kept) × (kept.row ≡ row)) [
      | None ↦ λ is. absurd cc
      | Some kept ↦ λ is. let same : kept.row ≡ row = cc in (kept, refl, same)
    ]

module _ (places : List Place) where
  -- after a put
  pub row_with-put : (kept : BornRow) (rows : List BornRow) (key : Key) → row_with key (shown places (put_row places kept rows)) ≡ (if same_cells (key_in places kept) key then Some kept else row_with key (shown places rows))
  row_with-put kept [] key = refl
  row_with-put kept (first ∷ rest) key =
      let own = key_in places kept in
      let other = key_in places first in
      let remaining = row_with key (shown places rest) in
      elim (cells_cmp own other) as (λ o. cells_cmp own other ≡ o → row_with key (shown places (match_ordering o (kept ∷ first ∷ rest) (kept ∷ rest) (first ∷ put_row places kept rest))) ≡ (if same_cells own key then Some kept else if same_cells other key then Some first else remaining)) [
        | Less ↦ λ e. refl
        | Equal ↦ λ e. elim (same_cells own key) as (λ same. same_cells own key ≡ same → (if same then Some kept else remaining) ≡ (if same then Some kept else if same_cells other key then Some first else remaining)) [
          | true ↦ λ same. refl
          | false ↦ λ same.
              let apart : same_cells other key ≡ false = ap (λ k. same_cells k key) (sym (cells_exact own other e)) ∙ same in
              rw apart
        ] refl
        | Greater ↦ λ e. elim (same_cells other key) as (λ same. same_cells other key ≡ same → (if same then Some first else row_with key (shown places (put_row places kept rest))) ≡ (if same_cells own key then Some kept else if same then Some first else remaining)) [
          | true ↦ λ same.
              let apart : same_cells own key ≡ false = ap (same_cells own) (sym (same_exact other key same)) ∙ ap is_eq e in
              rw apart
          | false ↦ λ same. row_with-put kept rest key
        ] refl
      ] refl

  -- no row has a key below all others
  row_with-below_all : (key : Key) (rows : List BornRow) → IsBelowAll key (map (key_in places) rows) → row_with key (shown places rows) ≡ None
  row_with-below_all key [] below = refl
  row_with-below_all key (first ∷ rest) below = rw (flipped key (key_in places first) Less below.0) (row_with-below_all key rest below.1)

  -- after a take, for another key
  pub row_with-take_other : (taken : Key) (rows : List BornRow) (key : Key) → same_cells taken key ≡ false → row_with key (shown places (take_row places taken rows)) ≡ row_with key (shown places rows)
  row_with-take_other taken [] key other = refl
  row_with-take_other taken (first ∷ rest) key other =
      let own = key_in places first in
      elim (same_cells own taken) as (λ same. same_cells own taken ≡ same → row_with key (shown places (if same then rest else first ∷ take_row places taken rest)) ≡ (if same_cells own key then Some first else row_with key (shown places rest))) [
        | true ↦ λ same.
            let apart : same_cells own key ≡ false = ap (λ k. same_cells k key) (same_exact own taken same) ∙ other in
            rw apart
        | false ↦ λ same. ap (λ (found : Option BornRow). if same_cells own key then Some first else found) (row_with-take_other taken rest key other)
      ] refl

  -- and for the taken key
  pub row_with-take_own : (taken : Key) (rows : List BornRow) → IsAscending (map (key_in places) rows) → row_with taken (shown places (take_row places taken rows)) ≡ None
  row_with-take_own taken [] ascends = refl
  row_with-take_own taken (first ∷ rest) ascends =
      let own = key_in places first in
      elim (same_cells own taken) as (λ same. same_cells own taken ≡ same → row_with taken (shown places (if same then rest else first ∷ take_row places taken rest)) ≡ None) [
        | true ↦ λ same. row_with-below_all taken rest (subst (λ k. IsBelowAll k (map (key_in places) rest)) (same_exact own taken same) ascends.0)
        | false ↦ λ same. rw same (row_with-take_own taken rest ascends.1)
      ] refl

  -- a row has the key it is found by
  pub key_in-row_with : (rows : List BornRow) (key : Key) (kept : BornRow) → row_with key (shown places rows) ≡ Some kept → key_in places kept ≡ key
  key_in-row_with [] key kept found = cc
  key_in-row_with (first ∷ rest) key kept found =
      let own = key_in places first in
      elim (same_cells own key) as (λ same. same_cells own key ≡ same → (if same then Some first else row_with key (shown places rest)) ≡ Some kept → key_in places kept ≡ key) [
        | true ↦ λ same found. let is : first ≡ kept = cc in ap (key_in places) (sym is) ∙ same_exact own key same
        | false ↦ λ same found. key_in-row_with rest key kept found
      ] refl found

  -- it is the row at the place found
  pub row_with-found : (rows : List BornRow) (key : Key) (place : Place) (kept : BornRow) → find_row places key rows ≡ Some place → slice_get rows place ≡ Some kept → row_with key (shown places rows) ≡ Some kept
  row_with-found rows key place kept found at = sym (slice_get-find_row places key rows) ∙ ap (option_and_then (slice_get rows)) found ∙ at

  -- the place of a row is found by its key
  pub find_row-at : (rows : List BornRow) (place : Place) (kept : BornRow) → IsAscending (map (key_in places) rows) → slice_get rows place ≡ Some kept → find_row places (key_in places kept) rows ≡ Some place
  find_row-at rows place kept ascends at =
      find_row-found places (key_in places kept) rows place ascends (slice_get-within rows place kept at) (λ d.
      ap (λ (other : BornRow). cells_cmp (key_in places other) (key_in places kept)) (get_or_from_slice_get rows place kept d at) ∙ tied_itself cells_total (key_in places kept))

  -- a row with a key is at some place
  pub place-row_with : (rows : List BornRow) (key : Key) (kept : BornRow) → row_with key (shown places rows) ≡ Some kept → (place : Place) × (slice_get rows place ≡ Some kept)
  place-row_with [] key kept found = absurd cc
  place-row_with (first ∷ rest) key kept found =
      elim (same_cells (key_in places first) key) as (λ same. (if same then Some first else row_with key (shown places rest)) ≡ Some kept → (place : Place) × (slice_get (first ∷ rest) place ≡ Some kept)) [
        | true ↦ λ found. (0, found)
        | false ↦ λ found. let later = place-row_with rest key kept found in (suc later.0, later.1)
      ] found
