-- The result of a requested change, by the current rows.
use Rattle.std.specs.Prelude.{◌≡◌, ◌⊎◌, ℕ, List, [], ◌∷◌, Option, option_map, option_and_then, unwrap_or, slice_set, Result, Ok, Err}
use Rattle.std.specs.Option.{option_map_or}
use Rattle.hippo_values.specs.declared.names.Name.{Name}
use Rattle.hippo_values.specs.declared.values.Value.{Value}
use Rattle.hippo_model.specs.declared.entry.Act.{Act}
use Rattle.hippo_model.specs.declared.entry.Act.TheVariants.{Insert, Update, Delete}
use Rattle.hippo_model.specs.declared.wanted.Wanted.{Wanted}
use Rattle.hippo_model.specs.declared.wanted.Wanted.TheVariants.{Ready, Add, Set, Remove}
use Rattle.hippo_model.specs.declared.table_fault.TableFault.{TableFault}
use Rattle.hippo_model.specs.declared.table_fault.TableFault.TheVariants.{KeyThere, KeyMissing, Memory}
use Rattle.hippo_model.specs.Terms.{History, Row, Key, Place}
use Rattle.hippo_model.specs.Histories.{schema_at}
use Rattle.hippo_model.specs.Rows.{row_at, last_at}

-- the row of a table with a key
abbrev pub live_row : History → Name → Key → Option Row
live_row history table key =
    option_and_then (λ schema. row_at schema history key) (schema_at history table)

-- the number of the last entry that names a live key
abbrev pub live_number : History → Name → Key → Option ℕ
live_number history table key =
    option_and_then
    (λ schema. option_map (λ row. unwrap_or (last_at schema history key) 0)
    (row_at schema history key))
    (schema_at history table)

-- a row with values written at some places
abbrev pub written_row : List Place → List Value → Row → Row
written_row [] values row = row
written_row (place ∷ places) [] row = row
written_row (place ∷ places) (value ∷ values) row =
    written_row places values (slice_set row place value)

-- the act, or why there is none
abbrev pub finished_act : History → Wanted → Result Act TableFault
finished_act history (Ready act) = Ok act
finished_act history (Add table row key) =
    option_map_or (λ number. Err (KeyThere number)) (live_number history table key)
    (Ok (Insert table row))
finished_act history (Set table key places values) =
    option_map_or (λ row. Ok (Update table (written_row places values row)))
    (live_row history table key)
    (Err KeyMissing)
finished_act history (Remove table key) =
    option_map_or (λ row. Ok (Delete table key)) (live_row history table key) (Err KeyMissing)

-- an outcome, or out of memory
abbrev pub IsFinishedAct : Result Act TableFault → Result Act TableFault → Type 0
IsFinishedAct outcome result = (result ≡ Err Memory) ⊎ (result ≡ outcome)
