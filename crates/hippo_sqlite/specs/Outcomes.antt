-- What a statement did, as the keeper answers it.
use Rattle.std.specs.Prelude.{◌≡◌, ◌⊎◌, ℕ, List, [], Result, Ok, Err}
use Rattle.sqlite_value.specs.Order.{Row}
use Rattle.sqlite.specs.declared.error.Error.{Error}
use Rattle.sqlite.specs.State.{State, HasCleanDisk, Survives, Executes, CommitsBy, Shown, FailsToQuery}
use Rattle.hippo_keeper.specs.Keeping.{RisesAbove}
use Rattle.hippo_keeper.specs.declared.faults.KeeperFault.{KeeperFault}
use Rattle.hippo_sqlite.specs.Standings.{fault_named}
use Rattle.hippo_sqlite_table.specs.Tables.{empty_schema}
use Rattle.hippo_sqlite.specs.Contents.{Contents, IsKeptIn, HoldsWell, OnlyKept, MustTell}

abbrev pub append_result : Result ℕ Error → Result (Unit {0}) KeeperFault
append_result (Ok count) = Ok tt
append_result (Err e) = Err (fault_named e)

-- a statement was run, and the result answers its outcome
pub record HasExecuted (text : List ℕ) (params : Row) (result : Result (Unit {0}) KeeperFault)
    (old new : State) : Type 0 where
  pub ran : HasCleanDisk new
      → (outcome : Result ℕ Error) × Executes text params old new outcome
      × (result ≡ append_result outcome)
  pub survives : Survives old new (CommitsBy text params old)

-- a query returned rows, or failed
abbrev pub HasLooked : List ℕ → Row → State → State → Type 0
HasLooked text params old new =
    ((rows : List Row) × Shown text params old new rows)
    ⊎ ((e : Error) × FailsToQuery text params old new e)

-- a connection opened in this state has the table of the history, and what is stored is what was
-- found
pub record IsLinked (opened : State) (it : Contents) : Type 0 where
  pub rests : it.rests
  pub clean : it.tells → HasCleanDisk opened
  pub found : it.tells → IsKeptIn opened.committed.trees it.kept
  pub order : it.tells → RisesAbove 0 it.kept
  pub only : it.tells → OnlyKept it
  pub empty : it.tells → opened.now.schema ≡ empty_schema → it.kept ≡ []
  pub clean_disk : it.clean → HasCleanDisk opened
  pub own : it.clean → HoldsWell opened.committed.trees → it.own
  pub must : MustTell it
