-- Virtual tuples, by the places of their rows.
use Rattle.std.specs.Prelude.{List, [], ◌∷◌, slice_index_or}
use Rattle.hippo_values.specs.declared.names.Name.{Name}
use Rattle.hippo_model.specs.declared.audit.SharedRow.{SharedRow}
use Rattle.hippo_model.specs.Terms.{Place}
use Rattle.hippo_tables_keyed.specs.RowSets.{KeyedRows, key_in}
use Rattle.hippo_join_lookups.specs.Places.{row_at_place}

-- the row of a table at a place, by its key
abbrev pub row_shared : List Name → List KeyedRows → Place → Place → SharedRow
row_shared names sets table place =
    let set = slice_index_or sets table (record { key = []; rows = [] }) in
    record {
      table = slice_index_or names table [];
      key = key_in set.key
          (row_at_place set.rows place);
    }

-- the rows of some tables at these places, by their keys
abbrev pub tuple_at : List Name → List KeyedRows → List Place → List Place → List SharedRow
tuple_at names sets [] places = []
tuple_at names sets (table ∷ tables) [] = []
tuple_at names sets (table ∷ tables) (place ∷ places) =
    row_shared names sets table place ∷ tuple_at names sets tables places
