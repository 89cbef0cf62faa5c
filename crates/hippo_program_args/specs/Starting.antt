-- The result of a program's start over a store, and how the program ends when nothing is loaded.
use Rattle.std.specs.Prelude.{◌≡◌, ℕ, true, Option}
use Rattle.hippo_values.specs.Texts.{Txt}
use Rattle.hippo_io.specs.Told.{Appends, AppendsFront}
use Rattle.hippo_model.specs.Terms.{History}
use Rattle.hippo_model.specs.Stores.{IsStoreOf, IsDamagedAt}
use Rattle.hippo_keeper.specs.Keeping.{Store, KeeperState}
use Rattle.hippo_typing.specs.Meanings.{meaning}
use Rattle.hippo_replay.specs.Loading.{KeepsFound}
use Rattle.hippo_replay.specs.declared.faults.LoadFault.{LoadFault}
use Rattle.hippo_replay.specs.declared.faults.LoadFault.TheVariants.{Damaged}
use Rattle.hippo_program_args.specs.Lines.{damaged_line}
use Rattle.hippo_program_args.specs.Saying.{Says}

-- a list holds the stored forms of a valid history, and this holds of each history with these forms
pub record HoldsOfStored (store : Store) (holds : History → Type 0) : Type 0 where
  pub history : History
  pub is : IsStoreOf meaning store history
  pub each : (other : History) → IsStoreOf meaning store other → holds other

-- the keeper was not started, or stores what it found
abbrev pub IsIdle : Txt → KeeperState → KeeperState → Type 0
IsIdle name before after = after.started ≡ true → KeepsFound (before.finds name) after

-- what is stored was found, and is damaged at this place
pub record KeepsDamaged (name : Txt) (place : ℕ) (before after : KeeperState) : Type 0 where
  pub kept : KeepsFound (before.finds name) after
  pub damaged : IsDamagedAt meaning after.kept place

-- the line with the place of the damage is written
pub record SaysDamaged (name : Txt) (before after : KeeperState) (written written' : Option Txt)
    : Type 0 where
  pub place : ℕ
  pub kept : KeepsDamaged name place before after
  pub said : Appends written written' (damaged_line place)

-- a prefix of the line with the place of the damage is written
pub record BeginsDamaged (name : Txt) (before after : KeeperState) (written written' : Option Txt)
    : Type 0 where
  pub place : ℕ
  pub kept : KeepsDamaged name place before after
  pub said : AppendsFront written written' (damaged_line place)

-- how a program ends when the stored history was not loaded: the keeper failed or memory ran out,
-- and nothing is written; or the place of the damage is reported
abbrev pub Stops : {Ending : Type 0} → (LoadFault → Ending) → Ending → LoadFault → Ending → Type 0
    → Option Txt → Option Txt → ℕ → ℕ → Type 0
Stops ending_of cut (Damaged place) result unwritten written written' faults faults' =
    Says (ending_of (Damaged place)) (damaged_line place) cut result written written' faults faults'
Stops ending_of cut fault result unwritten written written' faults faults' =
    (result ≡ ending_of fault) × unwritten × (faults' ≡ faults)
