-- What a search among a table's kept rows looks for.
use Rattle.std.specs.Prelude.{ℕ, ◌+◌, List, Result}
use Rattle.std.specs.Result.{result_map_both}
use Rattle.std.specs.declared.cmp.Ordering.{Ordering}
use Rattle.hippo_values.specs.Order.{cells_cmp}
use Rattle.hippo_model.specs.declared.born_row.BornRow.{BornRow}
use Rattle.hippo_tables_keyed.specs.declared.keyed_set.Target.{Target}
use Rattle.hippo_tables_keyed.specs.declared.keyed_set.Target.TheVariants.{Key as ByKey, Row as ByRow}
use Rattle.hippo_model.specs.Terms.{Key, Place}
use Rattle.hippo_model.specs.Rows.{key_of}

-- the wanted key
abbrev pub target_key : List Place → Target → Key
target_key places (ByKey key) = key.now
target_key places (ByRow row) = key_of places row.now

-- a kept row compared with the wanted one, by key
abbrev pub target_order : List Place → Target → BornRow → Ordering
target_order places target kept = cells_cmp (key_of places kept.row) (target_key places target)

-- the result of a search in a part of a list that begins at a place, as a place in the list
abbrev pub place_from : ℕ → Result ℕ ℕ → Result ℕ ℕ
place_from start found = result_map_both (λ place. start + place) (λ place. start + place) found
