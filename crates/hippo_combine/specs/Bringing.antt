-- What moving tables forward does to the held tables, and to the keeper.
use Rattle.std.specs.Prelude.{◌≡◌, ◌≢◌, ◌⊎◌, ℕ, true, false, ◌+◌, ◌<◌, ◌≤◌, ◌++◌, [], ◌∷◌, List, map, length, is_some, Option, Some, None, option_map, if◌then◌else◌, bytes_eq, Result, Err, OnOk}
use Rattle.std.specs.List.{AllByRecursion, position_or_len}
use Rattle.hippo_values.specs.declared.names.Name.{Name}
use Rattle.hippo_model.specs.declared.schema.Schema.{Schema}
use Rattle.hippo_model.specs.Terms.{History}
use Rattle.hippo_model.specs.StoredForms.{stored}
use Rattle.hippo_keeper.specs.Keeping.{KeeperState, IsReady, IsAfterCall, KeepsSame}
use Rattle.hippo_typing_catalog.specs.Catalogs.{KnownNames, table_of}
use Rattle.hippo_backlog.specs.declared.faults.ReadFault.{ReadFault}
use Rattle.hippo_backlog.specs.declared.faults.ReadFault.TheVariants.{Damaged}
use Rattle.hippo_backlog.specs.Calls.{reading_as_call}
use Rattle.hippo_intervals.specs.Living.{HeldLives, no_lives}
use Rattle.hippo_audit_job.specs.declared.past.Past.{Past}
use Rattle.hippo_audit_job.specs.Examining.{IsPastOf}
use Rattle.hippo_combine.specs.declared.bringing.Forward.{Forward}
use Rattle.hippo_combine.specs.Held.{lives_of, AreHeldAt, AreHeldUpTo, all_taken, TablesFit}

-- the held tables, with a new one appended if none has this schema's name
abbrev pub with_table : Schema → List HeldLives → List HeldLives
with_table schema tables =
    if is_some (lives_of tables schema.name) then tables else tables ++ no_lives schema ∷ []

-- the first place with a table of this name
pub record IsPlaceOf (table : Name) (place : ℕ) (tables : List HeldLives) : Type 0 where
  pub first : place ≡ position_or_len (λ lives. bytes_eq lives.schema.name table) tables
  pub within : place < length tables

-- each of these tables is known under its own name
abbrev pub AreKnown : KnownNames → List Name → Type 0
AreKnown known names =
    AllByRecursion (λ table. option_map (λ schema. schema.name) (table_of known table) ≡ Some table)
    names

-- these tables are held at a number, if all are known
abbrev pub AreHeldIfKnown : Past → ℕ → List Name → List HeldLives → Type 0
AreHeldIfKnown past number names tables =
    AreKnown past.catalog.now.names names → AreHeldAt number names tables

-- the tables may be moved forward to a number
pub record MayBring (past : Past) (number : ℕ) (tables : List HeldLives) (keeper : KeeperState)
    : Type 0 where
  pub ready : IsReady true keeper
  pub up_to : AreHeldUpTo number tables
  pub within : number ≤ past.count

-- the number of the entry before entry `seq`; `None` if `seq` is not the number of one of the first
-- `count` entries
abbrev pub IsNumberBefore : ℕ → ℕ → Option ℕ → Type 0
IsNumberBefore seq count (Some number) = (number + 1 ≡ seq) × (seq ≤ count)
IsNumberBefore seq count None = (seq ≡ 0) ⊎ (count < seq)

-- tables are moved forward to a number at most; each version that is read is a step, and is read
-- once
pub record AdvancesTables {A : Type 0} (past : Past) (number : ℕ) (result : Result A ReadFault)
    (old new : List HeldLives)
    (before after : KeeperState) (steps_old steps_new : ℕ) : Type 0 where
  pub is_after : IsAfterCall true false (reading_as_call result) before after
  pub stays : after.tells → KeepsSame before after
  pub up_to : AreHeldUpTo number old → AreHeldUpTo number new
  pub held : (names : List Name) → AreHeldAt number names old → AreHeldAt number names new
  pub ledger : steps_new + all_taken old ≡ steps_old + all_taken new
  pub told : after.tells → (history : History) → map stored history ≡ before.kept
      → IsPastOf past history
      → TablesFit old history → TablesFit new history
  pub undamaged : after.tells → (history : History) → map stored history ≡ before.kept
      → IsPastOf past history
      → TablesFit old history → (place : ℕ) → result ≢ Err (Damaged place)

-- the tables may be moved forward to the number of `forward`
abbrev pub MayGo : Forward → List HeldLives → KeeperState → Type 0
MayGo forward tables keeper = MayBring forward.past.now forward.number tables keeper

abbrev pub BringsOn : {A : Type 0} → Forward → Result A ReadFault → List HeldLives → List HeldLives
    → KeeperState → KeeperState → ℕ → ℕ → Type 0
BringsOn forward result old new before after steps_old steps_new =
    AdvancesTables forward.past.now forward.number result old new before after steps_old steps_new

abbrev pub AreBrought : Forward → List Name → List HeldLives → Type 0
AreBrought forward names tables = AreHeldIfKnown forward.past.now forward.number names tables

-- tables are moved forward; if all of these are known, they are then held at the number
pub record BringsNamed {A : Type 0} (forward : Forward) (names : List Name)
    (result : Result A ReadFault) (old new : List HeldLives) (before after : KeeperState)
    (steps_old steps_new : ℕ) : Type 0 where
  pub brings : BringsOn forward result old new before after steps_old steps_new
  pub held : OnOk result (AreBrought forward names new)
