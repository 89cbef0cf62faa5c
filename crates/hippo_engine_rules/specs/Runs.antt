-- A run: the lines of an input, each with its effect on the history and the world that the line
-- before it left.
use Rattle.std.specs.Prelude.{ℕ, List, [], ◌∷◌, ◌++◌, flat_map, sum_by}
use Rattle.hippo_values.specs.Texts.{Txt}
use Rattle.hippo_io.specs.Lines.{LineText}
use Rattle.hippo_model.specs.Terms.{History}
use Rattle.hippo_engine_sessions.specs.Worlds.{World}
use Rattle.hippo_stmt_lines.specs.Commands.{command_of}
use Rattle.hippo_engine_rules.specs.Effects.{Effect, IsEffect}
use Rattle.hippo_engine_rules.specs.Ledgers.{audits_of}

-- each line has its effect, in the history and world after the lines before it
abbrev pub IsRun : History → World → List LineText → List Effect → Type 0
IsRun history world [] [] = Unit {0}
IsRun history world (line ∷ lines) (effect ∷ effects) =
    IsEffect history world (command_of line) effect
    × IsRun (history ++ effect.added) effect.world lines effects
IsRun history world [] (effect ∷ effects) = ⊥
IsRun history world (line ∷ lines) [] = ⊥

-- the number of audits that the lines ask for
abbrev pub audits_in : List LineText → ℕ
audits_in lines = sum_by (λ line. audits_of (command_of line)) lines

-- the concatenated replies
abbrev pub replies : List Effect → Txt
replies effects = flat_map (λ effect. effect.reply) effects

-- the history after the effects, and the world after them
abbrev pub history_after : History → List Effect → History
history_after history effects = history ++ flat_map (λ effect. effect.added) effects

abbrev pub world_after : World → List Effect → World
world_after world [] = world
world_after world (effect ∷ effects) = world_after effect.world effects
