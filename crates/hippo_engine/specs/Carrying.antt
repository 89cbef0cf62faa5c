-- What carrying out a command does to an engine and its keeper, given the history that is kept.
use Rattle.std.specs.Prelude.{◌≡◌, ◌≢◌, ◌⊎◌, ℕ, ℤ, Bool, false, true, [], ◌∷◌, ◌++◌, map, IsUtf8, Option, Some, Result, Ok, Err}
use Rattle.hippo_io.specs.Lines.{LineText, text_line}
use Rattle.hippo_model.specs.declared.entry.Entry.{Entry}
use Rattle.hippo_model.specs.StoredForms.{stored}
use Rattle.hippo_model.specs.Terms.{History}
use Rattle.hippo_model.specs.Validity.{may_follow}
use Rattle.hippo_model.specs.Versions.{versions}
use Rattle.hippo_keeper.specs.declared.faults.KeeperFault.{KeeperFault}
use Rattle.hippo_keeper.specs.declared.faults.KeeperFault.TheVariants.{Failed}
use Rattle.hippo_keeper.specs.Answering.{has_failed}
use Rattle.hippo_keeper.specs.Keeping.{KeeperState, IsReady, IsAfterCall, MayHaveOneMore, KeepsSame}
use Rattle.hippo_typing.specs.Meanings.{meaning}
use Rattle.hippo_replay.specs.Standing.{Represents, IsSound, IsTimely}
use Rattle.hippo_replay.specs.Recording.{HasKept}
use Rattle.hippo_report.specs.declared.refusal.Refusal.{Refusal}
use Rattle.hippo_report.specs.declared.refusal.Refusal.TheVariants.{NoSuchQuery}
use Rattle.hippo_engine_world.specs.Holding.{world_of, KeepsAudits, JobsFit, WatchesFit, tallies_of}
use Rattle.hippo_stmt_lines.specs.Commands.{Command}
use Rattle.hippo_engine.specs.declared.engine.Engine.{Engine}
use Rattle.hippo_engine_rules.specs.declared.faults.EngineFault.{EngineFault}
use Rattle.hippo_engine_rules.specs.declared.faults.EngineFault.TheVariants.{Keeper, Write, Damaged}
use Rattle.hippo_engine_checks.specs.Judging.{judged}
use Rattle.hippo_engine_rules.specs.Effects.{Effect, only_reply, effect_of, IsEffect}
use Rattle.hippo_engine_rules.specs.Ledgers.{reads_kept, Tallies}

-- the keeper keeps this history, and the engine holds its state
pub record Holds (history : History) (engine : Engine) (keeper : KeeperState) : Type 0 where
  pub forms : map stored history ≡ keeper.kept
  pub stands : Represents engine.state history
  pub jobs : JobsFit history engine.world
  pub watches : WatchesFit history engine.world

-- what a command requires of an engine and its keeper. The state represents some history; the clock
-- is not before the last entry; the keeper is started and neither spent nor closed; if the store's
-- contents are known, engine and keeper hold a history.
pub record AtWork (engine : Engine) (keeper : KeeperState) : Type 0 where
  pub sound : IsSound engine.state
  pub timely : IsTimely engine.state engine.world.clock
  pub ready : IsReady true keeper
  pub told : keeper.tells → (history : History) × Holds history engine keeper

-- the result of a line as the result of one call of its keeper
abbrev pub line_as_call : {A : Type 0} → Result A EngineFault → Result (Unit {0}) KeeperFault
line_as_call (Ok value) = Ok tt
line_as_call (Err Keeper) = Err Failed
line_as_call (Err Write) = Ok tt
line_as_call (Err (Damaged number)) = Ok tt

-- a line was carried out, though its reply may not have been written
abbrev pub is_carried : {A : Type 0} → Result A EngineFault → Bool
is_carried (Ok value) = true
is_carried (Err Keeper) = false
is_carried (Err Write) = true
is_carried (Err (Damaged number)) = false

-- the text of a line, if it has one, is UTF-8
abbrev pub IsText : Option LineText → Type 0
IsText (Some (text_line text)) = IsUtf8 text
IsText line = Unit {0}

-- what an engine shows after a command that added nothing
abbrev pub shown_effect : Engine → Effect
shown_effect engine = only_reply (world_of engine.world) engine.reply

-- a command that neither adds an entry nor reads the store has its effect, and jobs and watches do
-- not change. This holds for every history that the state represents.
pub record IsQuiet (command : Command) (old new : Engine) : Type 0 where
  pub same : new.state ≡ old.state
  pub effect : (history : History) → Represents old.state history
      → IsEffect history (world_of old.world) command (shown_effect new)
  pub audits : KeepsAudits old.world new.world

-- a command that adds no entry has its effect, and the jobs and watches that fitted the history
-- still do. No step is taken. This holds for every history that the state represents.
pub record AddsNothing (command : Command) (old new : Engine) : Type 0 where
  pub same : new.state ≡ old.state
  pub effect : (history : History) → Represents old.state history
      → IsEffect history (world_of old.world) command (shown_effect new)
  pub jobs : (history : History) → Represents old.state history → JobsFit history old.world
      → JobsFit history new.world
  pub watches : (history : History) → Represents old.state history → WatchesFit history old.world
      → WatchesFit history new.world
  pub counts : (versions steps : ℕ)
      → Tallies command new.reply versions steps steps (tallies_of old.world)
      (tallies_of new.world)

-- a command has its effect after a history. The engine shows the effect's reply and world, engine
-- and keeper hold the history with the added entries, steps and jobs are tallied, and a refusal
-- takes no step, except the one that is found by reading.
pub record HasEffect (history : History) (command : Command) (old new : Engine)
    (before after : KeeperState) (steps steps' : ℕ) : Type 0 where
  pub effect : Effect
  pub is : IsEffect history (world_of old.world) command effect
  pub reply : new.reply ≡ effect.reply
  pub world : world_of new.world ≡ effect.world
  pub holds : Holds (history ++ effect.added) new after
  pub kept : HasKept effect.added before after
  pub counts : Tallies command new.reply (versions history) steps steps' (tallies_of old.world)
      (tallies_of new.world)
  pub refused : (refusal : Refusal) → judged history (world_of old.world) command ≡ Err refusal
      → ((number : ℤ) → refusal ≢ NoSuchQuery number) → steps' ≡ steps

-- the keeper failed while it stored the entry that the command adds by the rules
pub record BreaksOffAdding (history : History) (command : Command) (old : Engine)
    (before after : KeeperState) : Type 0 where
  pub entry : Entry
  pub adds : (effect_of history (world_of old.world) command).added ≡ entry ∷ []
  pub follows : may_follow meaning history entry ≡ true
  pub kept : MayHaveOneMore (stored entry) before after

-- the keeper failed while it was read for a command that adds nothing, and keeps what it kept
pub record BreaksOffReading (history : History) (command : Command) (old : Engine)
    (before after : KeeperState) : Type 0 where
  pub reads : reads_kept command ≡ true
  pub adds : (effect_of history (world_of old.world) command).added ≡ []
  pub kept : KeepsSame before after

-- the keeper failed while it stored an entry, or while it was read
abbrev pub BreaksOff : History → Command → Engine → KeeperState → KeeperState → Type 0
BreaksOff history command old before after =
    BreaksOffAdding history command old before after
    ⊎ BreaksOffReading history command old before after

-- a command is carried out, or the keeper fails, or it returns data that it did not keep. The clock
-- is not before the last entry. If the store's contents are known, the command has its effect on
-- them or is broken off by the keeper's failure, and nothing is damaged.
pub record Carries {A : Type 0} (command : Command) (result : Result A EngineFault)
    (old new : Engine)
    (before after : KeeperState) (steps steps' : ℕ) : Type 0 where
  pub call : IsAfterCall true false (line_as_call result) before after
  pub sound : has_failed (line_as_call result) ≡ false → IsSound new.state
  pub timely : has_failed (line_as_call result) ≡ false → IsTimely new.state new.world.clock
  pub idle : reads_kept command ≡ false → steps' ≡ steps
  pub carried : is_carried result ≡ true → after.tells → (history : History)
      → Holds history old before
      → HasEffect history command old new before after steps steps'
  pub failed : has_failed (line_as_call result) ≡ true → after.tells → (history : History)
      → Holds history old before
      → BreaksOff history command old before after
  pub undamaged : after.tells → (history : History) → Holds history old before
      → (number : ℕ) → result ≢ Err (Damaged number)
