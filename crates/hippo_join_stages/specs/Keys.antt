-- Lookup of rows by key, when equalities fix the key's values.
use Rattle.std.specs.Prelude.{◌≡◌, ◌<◌, ◌≤◌, true, false, List, map, slice_get, Option, Some}
use Rattle.std.specs.List.{list_all}
use Rattle.hippo_values.specs.declared.values.Value.{Value}
use Rattle.hippo_model.specs.declared.query.CondOf.{CondOf}
use Rattle.hippo_model.specs.declared.query.Expr.{Expr}
use Rattle.hippo_model.specs.declared.query.Masked.{Masked}
use Rattle.hippo_model.specs.declared.query.Ref.{Ref}
use Rattle.hippo_model.specs.Terms.{Key, Place}
use Rattle.hippo_tables_keyed.specs.RowSets.{KeyedRows}
use Rattle.hippo_model.specs.Conditions.{is_null}
use Rattle.hippo_model.specs.Masking.{Choices, raw_value}
use Rattle.hippo_model.specs.MaskedTruth.{masked_value}
use Rattle.hippo_join_stages.specs.declared.keys.Span.{Span}
use Rattle.hippo_join_lookups.specs.Places.{chosen_rows, Fits, stands}
use Rattle.hippo_join_lookups.specs.Ties.{holds}

-- given the chosen rows, an expression has this value whenever it is not null
abbrev pub IsShownAs : Choices → List KeyedRows → List (Option Place) → Expr → Value → Type 0
IsShownAs choices sets slots expr value =
    (places : List Place) → Fits slots places
    → is_null (masked_value choices (chosen_rows sets places) expr) ≡ false
    → masked_value choices (chosen_rows sets places) expr ≡ value

-- given the chosen rows, a column has this value, which is not null, whenever some parts hold
abbrev pub IsFixedBy : Choices → List KeyedRows → List (Option Place) → List (CondOf Expr) → Ref
    → Value → Type 0
IsFixedBy choices sets slots parts column value =
    (places : List Place) → Fits slots places
    → list_all (holds choices (chosen_rows sets places)) parts ≡ true
    → (raw_value (chosen_rows sets places) column ≡ value) × (is_null value ≡ false)

-- given the chosen rows, some columns of a table have these values whenever some parts hold
abbrev pub IsKeyTold :
    Choices → List KeyedRows → List (Option Place) → List (CondOf Expr) → Place → List Place → Key
    → Type 0
IsKeyTold choices sets slots parts table columns key =
    (places : List Place) → Fits slots places
    → list_all (holds choices (chosen_rows sets places)) parts ≡ true
    → key ≡ map (λ column. raw_value (chosen_rows sets places)
    (record { table = table; column = column })) columns

-- the span contains the table's place in each qualifying combination with the chosen rows
abbrev pub IsWithin : Choices → Masked → List KeyedRows → List (Option Place) → Place → Span
    → Type 0
IsWithin choices query sets slots table span =
    (places : List Place) → Fits slots places → stands choices query sets places ≡ true
    → (place : Place) → slice_get places table ≡ Some place → (span.start ≤ place)
    × (place < span.end)
