-- Combinations of rows, by the places of the rows in their tables.
use Rattle.std.specs.Prelude.{◌≡◌, Bool, true, false, ◌&&◌, nat_lt, List, [], ◌∷◌, map, length, slice_get, Option, Some, None, unwrap_or}
use Rattle.std.specs.List.{range_with_len}
use Rattle.std.specs.Option.{option_map_or}
use Rattle.hippo_model.specs.declared.query.Masked.{Masked}
use Rattle.hippo_model.specs.Terms.{Combination, Place}
use Rattle.hippo_tables_keyed.specs.RowSets.{KeyedRows}
pub use Rattle.hippo_tables_keyed.specs.RowSets.{blank, row_at_place}
use Rattle.hippo_model.specs.Answers.{product}
use Rattle.hippo_model.specs.Masking.{Choices, is_guarded, masked_passes}

-- the place of the row chosen in a table, if one is chosen
abbrev pub slot_at : List (Option Place) → Place → Option Place
slot_at slots table = unwrap_or (slice_get slots table) None

-- the chosen rows, with blank rows for the other tables
abbrev pub rows_at : List KeyedRows → List (Option Place) → Combination
rows_at [] slots = []
rows_at (set ∷ sets) [] = blank ∷ rows_at sets []
rows_at (set ∷ sets) (slot ∷ slots) =
    option_map_or (row_at_place set.rows) slot blank ∷ rows_at sets slots

-- the combination of the rows at one place in each table
abbrev pub chosen_rows : List KeyedRows → List Place → Combination
chosen_rows sets places = rows_at sets (map Some places)

-- a combination's places agree with each chosen place
abbrev pub Fits : List (Option Place) → List Place → Type 0
Fits [] [] = Unit {0}
Fits [] (place ∷ places) = ⊥
Fits (slot ∷ slots) [] = ⊥
Fits (None ∷ slots) (place ∷ places) = Fits slots places
Fits (Some fixed ∷ slots) (place ∷ places) = (fixed ≡ place) × Fits slots places

-- whether each place is below the number of its table's rows
abbrev pub in_range : List KeyedRows → List Place → Bool
in_range [] [] = true
in_range [] (place ∷ places) = false
in_range (set ∷ sets) [] = false
in_range (set ∷ sets) (place ∷ places) = nat_lt place (length set.rows) && in_range sets places

-- whether each chosen place is below the number of its table's rows
abbrev pub are_there : List KeyedRows → List (Option Place) → Bool
are_there [] slots = true
are_there (set ∷ sets) [] = true
are_there (set ∷ sets) (slot ∷ slots) =
    option_map_or (λ place. nat_lt place (length set.rows)) slot true && are_there sets slots

-- all combinations, by their places
abbrev pub places_of : List KeyedRows → List (List Place)
places_of sets = product (map (λ set. range_with_len 0 (length set.rows)) sets)

-- whether a combination of rows qualifies for a query: its guards are shown and its condition is
-- true
unfoldable pub stays : Choices → Masked → Combination → Bool
stays choices query rows = is_guarded choices query rows && masked_passes choices query rows

-- whether places are in range and their combination qualifies
abbrev pub stands : Choices → Masked → List KeyedRows → List Place → Bool
stands choices query sets places =
    in_range sets places && stays choices query (chosen_rows sets places)
