-- Columns and values, place by place.
use Rattle.std.proofs.Common.{◌≡◌, ◌∙◌, sym, ap, refl, arith, ℕ, zero, suc, ◌+◌, ◌<◌, ◌≤◌, Bool, true, false, ◌&&◌, List, [], ◌∷◌, length, get_or, drop, Option, Some, None, filter_map, slice_get, add-one}
use Rattle.std.proofs.Math.Seq.{drop-cons}
use Rattle.std.specs.List.{cons_option}
use Rattle.std.specs.Cmp.Lexicographic.{pointwise}
use Rattle.std.specs.Option.{option_map_or}
use Rattle.hippo_values.specs.declared.values.Value.{Value}
use Rattle.hippo_model.specs.declared.schema.Column.{Column}
use Rattle.hippo_model.specs.Values.{fits}

-- the member at a place, and then the rest
pub drop_at_member : {A : Type 0} (members : List A) (place : ℕ) (member : A) → place < length members → member ≡ get_or members place member → drop place members ≡ member ∷ drop (place + 1) members
drop_at_member members place member inside is =
    rw add-one (drop-cons members place member inside ∙ ap (λ first. first ∷ drop (suc place) members) (sym is))

-- the first column with the first remaining value, and the other columns with the others
pub fits_at : (column : Column) (columns : List Column) (values : List Value) (place : ℕ) → pointwise fits (column ∷ columns) (drop place values) ≡ (option_map_or (fits column) (slice_get values place) false && pointwise fits columns (drop (suc place) values))
fits_at column columns [] zero = refl
fits_at column columns [] (suc place) = refl
fits_at column columns (value ∷ values) zero = refl
fits_at column columns (value ∷ values) (suc place) = fits_at column columns values place

-- a value that fits exists
pub fits_within : (column : Column) (values : List Value) (place : ℕ) → option_map_or (fits column) (slice_get values place) false ≡ true → place < length values
fits_within column [] zero fit = absurd cc
fits_within column [] (suc place) fit = absurd cc
fits_within column (value ∷ values) zero fit = omega arith
fits_within column (value ∷ values) (suc place) fit = let later = fits_within column values place fit in omega arith

-- the column at a place, if there is one
pub column_there : (columns : List Column) (place : ℕ) (column : Column) → place < length columns → column ≡ get_or columns place column → slice_get columns place ≡ Some column
column_there [] place column inside is = absurd (omega arith)
column_there (first ∷ columns) zero column inside is = ap Some (sym is)
column_there (first ∷ columns) (suc place) column inside is = column_there columns place column (omega arith) is

pub column_missing : (columns : List Column) (place : ℕ) → length columns ≤ place → slice_get columns place ≡ None
column_missing [] zero past = refl
column_missing [] (suc place) past = refl
column_missing (first ∷ columns) zero past = absurd (omega arith)
column_missing (first ∷ columns) (suc place) past = column_missing columns place (omega arith)

module _ (columns : List Column) (places : List ℕ) (values : List Value) (i count : ℕ) (all : Bool) (inside : i < length places)
    (so_far : pointwise fits (filter_map (slice_get columns) (drop i places)) (drop count values) ≡ all) where
  next_place : drop i places ≡ get_or places i 0 ∷ drop (i + 1) places
  next_place = rw add-one (drop-cons places i 0 inside)

  -- a place without a column
  pub key_passes : slice_get columns (get_or places i 0) ≡ None → pointwise fits (filter_map (slice_get columns) (drop (i + 1) places)) (drop count values) ≡ all
  key_passes none =
      let next : filter_map (slice_get columns) (drop i places) ≡ filter_map (slice_get columns) (drop (i + 1) places) =
      ap (filter_map (slice_get columns)) next_place ∙ ap (λ (found : Option Column). cons_option found (filter_map (slice_get columns) (drop (i + 1) places))) none in
      ap (λ (left : List Column). pointwise fits left (drop count values)) (sym next) ∙ so_far

  module _ (column : Column) (found : slice_get columns (get_or places i 0) ≡ Some column) where
    turn : pointwise fits (filter_map (slice_get columns) (drop i places)) (drop count values) ≡ (option_map_or (fits column) (slice_get values count) false && pointwise fits (filter_map (slice_get columns) (drop (i + 1) places)) (drop (suc count) values))
    turn =
        let next : filter_map (slice_get columns) (drop i places) ≡ column ∷ filter_map (slice_get columns) (drop (i + 1) places) =
        ap (filter_map (slice_get columns)) next_place ∙ ap (λ (found : Option Column). cons_option found (filter_map (slice_get columns) (drop (i + 1) places))) found in
        ap (λ (left : List Column). pointwise fits left (drop count values)) next ∙ fits_at column (filter_map (slice_get columns) (drop (i + 1) places)) values count

    -- a value that fits its column
    pub key_goes_on : option_map_or (fits column) (slice_get values count) false ≡ true → pointwise fits (filter_map (slice_get columns) (drop (i + 1) places)) (drop (count + 1) values) ≡ all
    key_goes_on fit =
        let rest : List Column = filter_map (slice_get columns) (drop (i + 1) places) in
        ap (λ n. pointwise fits rest (drop n values)) (add-one count)
        ∙ sym (turn ∙ ap (λ test. test && pointwise fits rest (drop (suc count) values)) fit) ∙ so_far

    -- and one that does not fit, or is missing
    pub key_stops : option_map_or (fits column) (slice_get values count) false ≡ false → false ≡ all
    key_stops fit =
        let rest : List Column = filter_map (slice_get columns) (drop (i + 1) places) in
        sym (turn ∙ ap (λ test. test && pointwise fits rest (drop (suc count) values)) fit) ∙ so_far

module _ (columns : List Column) (values : List Value) (i : ℕ) (column : Column) (all : Bool) (inside : i < length columns) (is : column ≡ get_or columns i column)
    (so_far : pointwise fits (drop i columns) (drop i values) ≡ all) where
  row_turn : pointwise fits (drop i columns) (drop i values) ≡ (option_map_or (fits column) (slice_get values i) false && pointwise fits (drop (i + 1) columns) (drop (suc i) values))
  row_turn = ap (λ (left : List Column). pointwise fits left (drop i values)) (drop_at_member columns i column inside is) ∙ fits_at column (drop (i + 1) columns) values i

  -- a value that fits its column
  pub row_goes_on : option_map_or (fits column) (slice_get values i) false ≡ true → pointwise fits (drop (i + 1) columns) (drop (i + 1) values) ≡ all
  row_goes_on fit =
      ap (λ n. pointwise fits (drop (i + 1) columns) (drop n values)) (add-one i)
      ∙ sym (row_turn ∙ ap (λ test. test && pointwise fits (drop (i + 1) columns) (drop (suc i) values)) fit) ∙ so_far

  -- and one that does not fit, or is missing
  pub row_stops : option_map_or (fits column) (slice_get values i) false ≡ false → false ≡ all
  row_stops fit = sym (row_turn ∙ ap (λ test. test && pointwise fits (drop (i + 1) columns) (drop (suc i) values)) fit) ∙ so_far
