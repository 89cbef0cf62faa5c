-- All combinations of one row of each table.
use Rattle.std.specs.Prelude.{List, ◌++◌, map, Result, Ok, Err}
use Rattle.hippo_values.specs.declared.memory.Memory.{Memory}
use Rattle.hippo_model.specs.declared.born_row.BornRow.{BornRow}
use Rattle.hippo_tables_keyed.specs.RowSets.{KeyedRows}
use Rattle.hippo_model.specs.Terms.{Combination}
use Rattle.hippo_eval.specs.declared.walks.Onward.{Onward}
use Rattle.hippo_eval.specs.declared.walks.Onward.TheVariants.{More, Enough}

-- the rows of each table
abbrev pub rows_of : List KeyedRows → List (List BornRow)
rows_of sets = map (λ set. set.rows) sets

-- each combination, with these rows put first
abbrev pub combinations_after : Combination → List Combination → List Combination
combinations_after front combinations = map (λ others. front ++ others) combinations

-- the state after some more combinations, given those visited before; when a visitor has enough,
-- its state also holds for whatever follows them
abbrev pub KeptAfter : {S : Type 0} → (List Combination → S → Type 0) → Result Onward Memory
    → List Combination → List Combination → S → Type 0
KeptAfter keeps (Ok More) before these state = keeps (before ++ these) state
KeptAfter keeps (Ok Enough) before these state =
    (later : List Combination) → keeps (before ++ these ++ later) state
KeptAfter keeps (Err wanted) before these state = Unit {0}
