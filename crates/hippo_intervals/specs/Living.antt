-- The rows of a table that are live at a place in the history, and how the place moves forward.
use Rattle.std.specs.Prelude.{◌≡◌, ◌≢◌, true, false, ℕ, ◌+◌, ◌≤◌, ◌++◌, length, take, Result, Err, OnOk}
use Rattle.hippo_model.specs.declared.schema.Schema.{Schema}
use Rattle.hippo_model.specs.Terms.{History, Meaning}
use Rattle.hippo_tables_keyed.specs.RowSets.{kept_at}
use Rattle.hippo_model.specs.Stores.{IsStoreOf}
use Rattle.hippo_keeper.specs.Keeping.{Store, KeeperState, IsAfterCall, KeepsSame}
use Rattle.hippo_keeper.specs.Selecting.{stored_versions}
use Rattle.hippo_backlog.specs.declared.faults.ReadFault.{ReadFault}
use Rattle.hippo_backlog.specs.declared.faults.ReadFault.TheVariants.{Damaged}
use Rattle.hippo_backlog.specs.Calls.{reading_as_call}
use Rattle.hippo_backlog.specs.Backlogs.{versions_of, HeldVersions, no_versions, AreAt, NamesUnfit}

pub record HeldLives : Type 0 where
  pub schema : Schema
  pub versions : HeldVersions

abbrev pub no_lives : Schema → HeldLives
no_lives schema = record { schema = schema; versions = no_versions schema.key }

-- the number of versions that were read and taken in, including those that wait
abbrev pub taken_by : HeldLives → ℕ
taken_by lives = lives.versions.ahead.handed

-- the schema is that of the table in a history; the rows are those of its versions up to the place;
-- later versions, up to the number reached, wait
abbrev pub LivesFit : HeldLives → History → Type 0
LivesFit lives history = AreAt lives.schema history lives.versions

-- lives that fit a history have its rows at their place, and have taken in each version up to the
-- number reached once
pub record LivesAreThoseOf (lives : HeldLives) (history : History) : Type 0 where
  pub fits : LivesFit lives history
  pub rows : lives.versions.rows ≡ kept_at lives.schema (take lives.versions.place history)
  pub taken_is : taken_by lives
      ≡ length (versions_of lives.schema.name (take lives.versions.ahead.reached history))

-- the rows move forward to a number, or on an error at most to it; each version is read once and
-- counts as a step
pub record Advances {A : Type 0} (number end : ℕ) (result : Result A ReadFault)
    (old new : HeldLives)
    (before after : KeeperState) (steps_old steps_new : ℕ) : Type 0 where
  pub is_after : IsAfterCall true false (reading_as_call result) before after
  pub stays : after.tells → KeepsSame before after
  pub schema_is : new.schema ≡ old.schema
  pub forward : old.versions.place ≤ new.versions.place
  pub limit : new.versions.place ≤ number
  pub place_is : OnOk result (new.versions.place ≡ number)
  pub further : old.versions.ahead.reached ≤ new.versions.ahead.reached
  pub ledger : steps_new + taken_by old ≡ steps_old + taken_by new
  pub handed : Store
  pub counted : steps_new ≡ steps_old + stored_versions handed
  pub damaged : NamesUnfit old.schema result (old.versions.ahead.waiting ++ handed) old.versions
  pub told : after.tells → (meaning : Meaning) (history : History)
      → IsStoreOf meaning before.kept history
      → end ≤ length history → LivesFit old history → LivesAreThoseOf new history
  pub undamaged : after.tells → (meaning : Meaning) (history : History)
      → IsStoreOf meaning before.kept history
      → end ≤ length history → LivesFit old history → (place : ℕ) → result ≢ Err (Damaged place)
