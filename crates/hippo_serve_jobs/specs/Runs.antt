-- A run or a load over the lines of an input, starting from a history, and how it ends.
use Rattle.std.specs.Prelude.{◌≡◌, ◌⊎◌, ℕ, ◌+◌, ◌*◌, ◌<◌, ◌≤◌, ◌↔◌, min, true, false, List, [], ◌∷◌, ◌++◌, length, take, drop, Option, Some, None, Ok, Err}
use Rattle.hippo_values.specs.Texts.{Txt}
use Rattle.hippo_io.specs.Lines.{LineText, lines}
use Rattle.hippo_io.specs.HandingOut.{input_limit, whole_lines, HasHandedOut}
use Rattle.hippo_io.specs.Position.{Position}
use Rattle.hippo_io.specs.Told.{Appends, AppendsFront}
use Rattle.hippo_model.specs.declared.entry.Entry.{Entry}
use Rattle.hippo_model.specs.Terms.{History}
use Rattle.hippo_model.specs.Validity.{may_follow}
use Rattle.hippo_model.specs.Versions.{versions}
use Rattle.hippo_keeper.specs.Keeping.{KeeperState}
use Rattle.hippo_typing.specs.Meanings.{meaning}
use Rattle.hippo_replay.specs.Standing.{latest_moment}
use Rattle.hippo_engine_sessions.specs.Worlds.{World, opening}
use Rattle.hippo_engine_world.specs.Holding.{world_of, tallies_of}
use Rattle.hippo_stmt_lines.specs.Commands.{Command, command_of}
use Rattle.hippo_engine.specs.declared.engine.Engine.{Engine}
use Rattle.hippo_engine_rules.specs.declared.faults.EngineFault.TheVariants.{Keeper, Write, Damaged as DamagedAt}
use Rattle.hippo_engine.specs.Carrying.{Holds, Carries}
use Rattle.hippo_engine_rules.specs.Effects.{Effect, effect_of}
use Rattle.hippo_engine_rules.specs.Ledgers.{reads_kept, RunSum}
use Rattle.hippo_engine_rules.specs.Runs.{IsRun, audits_in, replies, history_after, world_after}
use Rattle.hippo_serve_args.specs.declared.calls.Job.{Job}
use Rattle.hippo_serve_args.specs.declared.calls.Setting.{Setting}
use Rattle.hippo_program_args.specs.declared.endings.Ending.{Ending}
use Rattle.hippo_program_args.specs.declared.endings.Ending.TheVariants.{Served, KeeperFault, ReadFault, WriteFault, Damaged, TooMuch}
use Rattle.hippo_serve_jobs.specs.Keeping.{KeepsHistory, KeepsEither}
use Rattle.hippo_serve_jobs.specs.Loads.{asked_line, asked_lines}
use Rattle.hippo_serve_jobs.specs.Outside.{Told, Outside}

-- the world in which a run over a history begins
abbrev pub opening_after : Setting → History → World
opening_after setting history = opening (latest_moment history) setting.limit setting.format

-- this holds of the input, if it is known
abbrev pub ForInput : Told → (Txt → Type 0) → Type 0
ForInput before holds = (input : Txt) → before.left ≡ Some input → holds input

-- at most one step was taken for each version by loading, and one for each version by each audit
-- that was asked for. Each version that is read is one step.
abbrev pub StepsWithin : History → List LineText → List Effect → Told → Outside → Type 0
StepsWithin history asked effects before after =
    after.told.steps ≤ before.steps + versions (history_after history effects)
    * (1 + audits_in asked)

-- this many bytes of the input were taken, and the rest remains. Status 0 means all bytes. The
-- status is 8 exactly when more bytes were taken than the limit.
pub record HasTakenBytes (status : ℕ) (input : Txt) (left : Option Txt) : Type 0 where
  pub taken : ℕ
  pub within : taken ≤ length input
  pub others : left ≡ Some (drop taken input)
  pub all : status ≡ 0 → taken ≡ length input
  pub limit : (status ≡ 8) ↔ (input_limit < taken)

-- some lines of the input were read so far
pub record IsHandingOut (input : Txt) (reader : Position) (left : Option Txt) : Type 0 where
  pub handed : List LineText
  pub handing : HasHandedOut input handed reader left

-- the lines have had their effects, starting from a history; the history after the last one is
-- stored, and survives a stop
pub record HasRun (setting : Setting) (history : History) (asked : List LineText)
    (effects : List Effect)
    (before : Told) (after : Outside) : Type 0 where
  pub run : IsRun history (opening_after setting history) asked effects
  pub kept : KeepsHistory (history_after history effects) after.keeper
  pub bound : StepsWithin history asked effects before after

-- these are all lines of the input, and nothing of it remains
pub record HasReadAll (replied : List LineText) (input : Txt) (left : Option Txt) : Type 0 where
  pub all : replied ≡ lines input
  pub nothing : left ≡ Some []
  pub limit : length input ≤ input_limit

-- every line has its reply, as the job asks for it
pub record IsServed (setting : Setting) (job : Job) (history : History) (before : Told)
    (after : Outside)
    : Type 0 where
  pub replied : List LineText
  pub effects : List Effect
  pub ran : HasRun setting history (asked_lines job replied) effects before after
  pub read : ForInput before (λ input. HasReadAll replied input after.told.left)
  pub written : Appends before.written after.told.written (replies effects)

-- this many bytes of the input were taken; these lines are exactly those whose line feeds are among
-- these bytes, up to the limit
pub record HasReadWhole (amount : ℕ → Type 0) (replied : List LineText) (input : Txt)
    (left : Option Txt)
    : Type 0 where
  pub taken : ℕ
  pub is : amount taken
  pub within : taken ≤ length input
  pub others : left ≡ Some (drop taken input)
  pub whole : replied ≡ whole_lines input (min taken input_limit)

-- exactly the lines that were read whole have their replies
pub record IsCutOff (amount : ℕ → Type 0) (setting : Setting) (job : Job) (history : History)
    (before : Told)
    (after : Outside) : Type 0 where
  pub replied : List LineText
  pub effects : List Effect
  pub ran : HasRun setting history (asked_lines job replied) effects before after
  pub read : ForInput before (λ input. HasReadWhole amount replied input after.told.left)
  pub written : Appends before.written after.told.written (replies effects)

-- exactly the lines that were read whole have their replies; the source failed within the limit
abbrev pub IsReadCut : Setting → Job → History → Told → Outside → Type 0
IsReadCut setting job history before after =
    IsCutOff (λ taken. taken ≤ input_limit) setting job history before after

-- exactly the lines that were read whole within the limit have their replies; more bytes were taken
-- than the limit
abbrev pub HasTooMuch : Setting → Job → History → Told → Outside → Type 0
HasTooMuch setting job history before after =
    IsCutOff (λ taken. input_limit < taken) setting job history before after

-- these are the first lines of the input; some of its bytes were taken, within the limit, and the
-- rest remains
pub record HasReadFront (first : List LineText) (input : Txt) (left : Option Txt) : Type 0 where
  pub following : List LineText
  pub order : lines input ≡ first ++ following
  pub taken : ℕ
  pub within : taken ≤ length input
  pub others : left ≡ Some (drop taken input)
  pub limit : taken ≤ input_limit

-- all lines but the last have their replies, a prefix of the last reply is written, and the last
-- line has had its effect. In a load the last line may be the one that sets the clock, if no other
-- line was read.
pub record IsUnwritten (setting : Setting) (job : Job) (history : History) (before : Told)
    (after : Outside)
    : Type 0 where
  pub replied : List LineText
  pub effects : List Effect
  pub last : Effect
  pub front : ℕ
  pub ran : HasRun setting history (asked_lines job replied) (effects ++ last ∷ []) before after
  pub read : ForInput before (λ input. HasReadFront replied input after.told.left)
  pub written : Appends before.written after.told.written (replies effects ++ take front last.reply)

-- what the rules add for the line that follows some effects
abbrev pub added_next : Setting → History → List Effect → LineText → History
added_next setting history effects line =
    let world : World = world_after (opening_after setting history) effects in
    (effect_of (history_after history effects) world (command_of line)).added

-- the history is stored, either as it was or with the one entry that the rules add to it
pub record KeepsOrAdds (history added : History) (keeper : KeeperState) : Type 0 where
  pub entry : Entry
  pub adds : added ≡ entry ∷ []
  pub follows : may_follow meaning history entry ≡ true
  pub kept : KeepsEither history (history ++ entry ∷ []) keeper

-- the line reads the history, the rules add nothing for it, and the history is stored
pub record KeepsRead (history added : History) (line : LineText) (keeper : KeeperState)
    : Type 0 where
  pub reads : reads_kept (command_of line) ≡ true
  pub adds : added ≡ []
  pub kept : KeepsHistory history keeper

-- the keeper failed at the line that follows some effects: while storing the entry that the rules
-- add for the line, or while reading
abbrev pub KeepsBroken : Setting → History → List Effect → LineText → KeeperState → Type 0
KeepsBroken setting history effects line keeper =
    let here : History = history_after history effects in
    let added : History = added_next setting history effects line in
    KeepsOrAdds here added keeper ⊎ KeepsRead here added line keeper

-- the lines have their replies, and nothing of the next line's reply is written. The history after
-- them is stored, either as it was or with the one entry that the rules add for the next line.
pub record IsBrokenOff (setting : Setting) (job : Job) (history : History) (before : Told)
    (after : Outside)
    : Type 0 where
  pub replied : List LineText
  pub effects : List Effect
  pub next : LineText
  pub run : IsRun history (opening_after setting history) (asked_lines job replied) effects
  pub kept : KeepsBroken setting history effects (asked_line job next) after.keeper
  pub bound : reads_kept (command_of (asked_line job next)) ≡ false
      → StepsWithin history (asked_lines job replied) effects before after
  pub read : ForInput before (λ input. HasReadFront (replied ++ next ∷ []) input after.told.left)
  pub written : Appends before.written after.told.written (replies effects)

-- how a run or a load over lines ends
abbrev pub LinesEnd : Ending → Setting → Job → History → Told → Outside → Type 0
LinesEnd Served setting job history before after = IsServed setting job history before after
LinesEnd KeeperFault setting job history before after = IsBrokenOff setting job history before after
LinesEnd ReadFault setting job history before after = IsReadCut setting job history before after
LinesEnd WriteFault setting job history before after = IsUnwritten setting job history before after
LinesEnd TooMuch setting job history before after = HasTooMuch setting job history before after
LinesEnd ending setting job history before after = ⊥

-- so far these lines have their replies, and the engine and its keeper hold the history after the
-- last one
pub record HasReplied (setting : Setting) (history : History) (asked : List LineText)
    (before : Told)
    (engine : Engine) (now : Outside) : Type 0 where
  pub effects : List Effect
  pub run : IsRun history (opening_after setting history) asked effects
  pub world : world_of engine.world ≡ world_after (opening_after setting history) effects
  pub holds : Holds (history_after history effects) engine now.keeper
  pub kept : KeepsHistory (history_after history effects) now.keeper
  pub sum : RunSum before.steps now.told.steps (versions (history_after history effects))
      (audits_in asked)
      (tallies_of engine.world)
  pub written : Appends before.written now.told.written (replies effects)

-- so far the lines that were read have their replies, as the job asks for them
pub record HasServed (setting : Setting) (job : Job) (history : History) (before : Told)
    (reader : Position)
    (engine : Engine) (now : Outside) : Type 0 where
  pub handed : List LineText
  pub handing : ForInput before (λ input. HasHandedOut input handed reader now.told.left)
  pub replied : HasReplied setting history (asked_lines job handed) before engine now

-- what a call with a line did: the line was carried out and replied to; or the keeper failed; or
-- the sink failed; or the keeper returned an entry that it did not store, and either that was
-- reported or the sink failed
abbrev pub Turn : Option Ending → Command → Engine → Engine → KeeperState → KeeperState → Option Txt
    → Option Txt
    → ℕ → ℕ → Type 0
Turn None command old new before after written written' steps steps' =
    Carries {A = Unit {0}} command (Ok tt) old new before after steps steps'
    × Appends written written' new.reply
Turn (Some KeeperFault) command old new before after written written' steps steps' =
    Carries {A = Unit {0}} command (Err Keeper) old new before after steps steps'
    × (written' ≡ written)
Turn (Some WriteFault) command old new before after written written' steps steps' =
    (Carries {A = Unit {0}} command (Err Write) old new before after steps steps'
    × AppendsFront written written' new.reply)
    ⊎ ((number : ℕ) × Carries {A = Unit {0}} command (Err (DamagedAt number)) old new before after
    steps steps')
Turn (Some Damaged) command old new before after written written' steps steps' =
    (number : ℕ) × Carries {A = Unit {0}} command (Err (DamagedAt number)) old new before after
    steps steps'
Turn (Some ending) command old new before after written written' steps steps' = ⊥
