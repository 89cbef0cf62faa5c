-- The virtual tuple that a set of combinations has in common, by the places of its rows.
use Rattle.std.specs.Prelude.{Bool, true, false, List, [], ◌∷◌, map, slice_get, unwrap_or, nat_eq, if◌then◌else◌}
use Rattle.std.specs.Cmp.Lexicographic.{pointwise}
use Rattle.std.specs.List.{list_all}
use Rattle.std.specs.Option.{option_map_or}
use Rattle.hippo_model.specs.declared.born_row.BornRow.{BornRow}
use Rattle.hippo_model.specs.Terms.{Combination, Place}
use Rattle.hippo_tables_keyed.specs.RowSets.{KeyedRows, key_in, find_row}
use Rattle.hippo_audit_search.specs.declared.marks.Mark.{Mark}
use Rattle.hippo_audit_search.specs.declared.marks.Mark.TheVariants.{Unmarked, One, Several}

-- the place in a table of the row with the same key, or 0 if there is none
abbrev pub place_like : KeyedRows → BornRow → Place
place_like set kept = unwrap_or (find_row set.key (key_in set.key kept) set.rows) 0

-- the place of a combination's row in a table
abbrev pub row_place : List KeyedRows → Combination → Place → Place
row_place sets rows table =
    option_map_or (λ set. option_map_or (place_like set) (slice_get rows table) 0)
    (slice_get sets table) 0

-- the places of a combination's rows in some tables
abbrev pub row_places : List KeyedRows → List Place → Combination → List Place
row_places sets tables rows = map (row_place sets rows) tables

abbrev pub same_places : List Place → List Place → Bool
same_places places others = pointwise nat_eq places others

-- the mark of combinations that have the tuples of these places
abbrev pub mark_of : List (List Place) → Mark
mark_of [] = Unmarked
mark_of (first ∷ rest) = if list_all (same_places first) rest then One first else Several

-- whether combinations with this mark have no tuple other than that of these places
abbrev pub has_no_other : List Place → Mark → Bool
has_no_other places Unmarked = true
has_no_other places (One others) = same_places others places
has_no_other places Several = false

-- whether there are combinations with this mark, and all have the tuple of these places
abbrev pub is_one : List Place → Mark → Bool
is_one places Unmarked = false
is_one places (One others) = same_places others places
is_one places Several = false
