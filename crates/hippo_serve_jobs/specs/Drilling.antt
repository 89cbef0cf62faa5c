-- A drill: the lines of a script, the effect of each under the rules, and the summary of the
-- replies.
use Rattle.std.specs.Prelude.{◌≡◌, ℕ, List, [], ◌∷◌, ◌++◌, length, map}
use Rattle.hippo_values.specs.Texts.{Txt}
use Rattle.hippo_drill.specs.Script.{script}
use Rattle.hippo_drill.specs.Counting.{summary_of}
use Rattle.hippo_drill.specs.Tallies.{counts_of}
use Rattle.hippo_io.specs.Lines.{LineText, text_line}
use Rattle.hippo_model.specs.Terms.{History}
use Rattle.hippo_keeper.specs.Keeping.{KeeperState}
use Rattle.hippo_keeper.specs.MemoryKeeping.{memory_keeper_state}
use Rattle.hippo_report.specs.declared.format.Format.TheVariants.{Text}
use Rattle.hippo_replay.specs.Standing.{latest_moment}
use Rattle.hippo_engine_sessions.specs.Worlds.{World, opening}
use Rattle.hippo_engine_world.specs.Holding.{world_of}
use Rattle.hippo_stmt_lines.specs.Commands.{command_of}
use Rattle.hippo_engine.specs.declared.engine.Engine.{Engine}
use Rattle.hippo_engine.specs.Carrying.{Holds}
use Rattle.hippo_engine_rules.specs.Effects.{Effect, effect_of}
use Rattle.hippo_engine_rules.specs.Runs.{history_after}
use Rattle.hippo_serve_jobs.specs.declared.drilling.Drilling.{Drilling}

-- the effect of each line under the rules, on the history and the world after the line before it
abbrev pub effects_of : History → World → List LineText → List Effect
effects_of history world [] = []
effects_of history world (line ∷ lines) =
    let effect : Effect = effect_of history world (command_of line) in
    effect ∷ effects_of (history ++ effect.added) effect.world lines

-- the highest number of entries in a drill's history
abbrev pub drill_limit : ℕ
drill_limit = 4000000

-- the effects of a script's lines over the empty history
abbrev pub drill_effects : ℕ → ℕ → List Effect
drill_effects size number =
    effects_of [] (opening (latest_moment []) drill_limit Text) (map text_line (script size number))

abbrev pub replies_of : List Effect → List Txt
replies_of effects = map (λ effect. effect.reply) effects

-- what a drill writes: the numbers of lines, entries, rows, flags and refusals
abbrev pub summary : ℕ → ℕ → Txt
summary size number =
    let effects : List Effect = drill_effects size number in
    summary_of (replies_of effects) (length (history_after [] effects))

-- an engine has carried out an effect after a history, and it and its keeper hold the history with
-- the added entries
pub record HasDone (history : History) (effect : Effect) (engine : Engine) (keeper : KeeperState)
    : Type 0 where
  pub reply : engine.reply ≡ effect.reply
  pub world : world_of engine.world ≡ effect.world
  pub holds : Holds (history ++ effect.added) engine keeper

-- some of a script's lines have had their effects, the others remain, and the replies are counted
pub record HasDrilled (size number : ℕ) (drilling : Drilling) : Type 0 where
  pub effects : List Effect
  pub order : drill_effects size number
      ≡ effects ++ effects_of (history_after [] effects) (world_of drilling.engine.world)
      (map text_line drilling.left)
  pub holds : Holds (history_after [] effects) drilling.engine (memory_keeper_state drilling.keeper)
  pub counted : drilling.counts ≡ counts_of (replies_of effects)
