-- Rows that every qualifying combination has.
use Rattle.std.specs.Prelude.{◌≡◌, true, List, length, Option}
use Rattle.hippo_model.specs.declared.query.Masked.{Masked}
use Rattle.hippo_model.specs.Terms.{Place}
use Rattle.hippo_tables_keyed.specs.RowSets.{KeyedRows}
use Rattle.hippo_model.specs.Masking.{Choices}
use Rattle.hippo_join_lookups.specs.Places.{Fits, stands}

-- each qualifying combination with the rows chosen before also has the rows chosen after
pub record Settles
    (choices : Choices) (query : Masked) (sets : List KeyedRows)
    (before after : List (Option Place)) : Type 0 where
  pub long : length after ≡ length before
  pub fits : (places : List Place) → Fits before places → stands choices query sets places ≡ true
      → Fits after places
