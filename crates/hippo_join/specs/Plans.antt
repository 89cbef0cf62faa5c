-- The orders in which a query's tables may be joined, and the result of a visit by one.
use Rattle.std.specs.Prelude.{ℕ, ◌<◌, List, ◌++◌, length, Result, Ok, Err}
use Rattle.std.specs.List.{range_with_len}
use Rattle.std.specs.List.Sorted.{IsPermutation}
use Rattle.hippo_model.specs.declared.combo.Plan.{Plan}
use Rattle.hippo_model.specs.declared.query.Masked.{Masked}
use Rattle.hippo_model.specs.Terms.{Combination}
use Rattle.hippo_eval.specs.declared.answers.EvalFault.{EvalFault}
use Rattle.hippo_eval.specs.declared.answers.EvalFault.TheVariants.{TooManyRows, Memory}

-- a plan of a query contains the place of each of its tables once
abbrev pub IsPlanOf : Masked → Plan → Type 0
IsPlanOf query plan = IsPermutation (range_with_len 0 (length query.tables)) plan.order

-- why some combinations are not visited: there are more than a limit, or out of memory
abbrev pub IsUnvisited : ℕ → List Combination → EvalFault → Type 0
IsUnvisited limit these TooManyRows = limit < length these
IsUnvisited limit these Memory = Unit {0}

-- the state after some more combinations, given those visited before; or why these were not visited
abbrev pub KeptWithin : {S : Type 0} → ℕ → (List Combination → S → Type 0)
    → Result (Unit {0}) EvalFault → List Combination → List Combination → S → Type 0
KeptWithin limit keeps (Ok done) before these state = keeps (before ++ these) state
KeptWithin limit keeps (Err fault) before these state = IsUnvisited limit these fault
