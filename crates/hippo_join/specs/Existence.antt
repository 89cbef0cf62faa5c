-- Whether some qualifying combination has the chosen rows.
use Rattle.std.specs.Prelude.{◌≡◌, Bool, true, false, List, Option, Result, Ok, Err}
use Rattle.std.specs.List.{list_all}
use Rattle.hippo_values.specs.declared.memory.Memory.{Memory}
use Rattle.hippo_model.specs.declared.query.Expr.{Expr}
use Rattle.hippo_model.specs.declared.query.Masked.{Masked}
use Rattle.hippo_model.specs.Terms.{Combination, Place}
use Rattle.hippo_tables_keyed.specs.RowSets.{KeyedRows}
use Rattle.hippo_model.specs.Masking.{Choices, masked_cell, is_shown_cell}
use Rattle.hippo_join_lookups.specs.Places.{chosen_rows, Fits, stands}

-- whether each of some expressions is a shown cell
abbrev pub are_shown : Choices → List Expr → Combination → Bool
are_shown choices seen rows = list_all (λ expr. is_shown_cell (masked_cell choices rows expr)) seen

-- a qualifying combination with the chosen rows in which all wanted cells are shown
pub record HasOne
    (choices : Choices) (query : Masked) (seen : List Expr) (sets : List KeyedRows)
    (slots : List (Option Place)) : Type 0 where
  pub places : List Place
  pub fits : Fits slots places
  pub counts : stands choices query sets places ≡ true
  pub shows : are_shown choices seen (chosen_rows sets places) ≡ true

-- the result of a test: a fact holds, it does not hold, or out of memory
abbrev pub Decides : Type 0 → Result Bool Memory → Type 0
Decides fact (Ok true) = fact
Decides fact (Ok false) = ¬ fact
Decides fact (Err wanted) = Unit {0}
