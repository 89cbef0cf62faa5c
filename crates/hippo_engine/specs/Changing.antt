-- What a statement that changes something does: it adds its entry, or it is refused.
use Rattle.std.specs.Prelude.{◌≡◌, [], ◌∷◌, true, codes}
use Rattle.hippo_model.specs.declared.entry.Entry.{Entry}
use Rattle.hippo_model.specs.Terms.{History}
use Rattle.hippo_replay.specs.Standing.{Represents}
use Rattle.hippo_report.specs.declared.speaker.Speaker.TheVariants.{Console}
use Rattle.hippo_report.specs.Notices.{number_line}
use Rattle.hippo_engine_sessions.specs.Worlds.{World}
use Rattle.hippo_engine_world.specs.Holding.{world_of}
use Rattle.hippo_stmt_lines.specs.Commands.{Command, who_commands}
use Rattle.hippo_engine.specs.declared.engine.Engine.{Engine}
use Rattle.hippo_engine_checks.specs.Deeds.{next_entry}
use Rattle.hippo_engine_rules.specs.Effects.{Effect, effect_of}
use Rattle.hippo_engine_checks.specs.Findings.{may_do_nothing}

-- the effect that adds an entry and replies with its number
abbrev pub change_effect : World → Entry → Effect
change_effect world entry =
    record { reply = number_line 0 (codes "ok") entry.seq; added = entry ∷ []; world = world }

-- a command of the console adds this entry, for every history that the state represents, and the
-- entry is the next one
pub record Changes (command : Command) (entry : Entry) (engine : Engine) : Type 0 where
  pub who : who_commands command ≡ Console
  pub memory : may_do_nothing command ≡ true
  pub adds : (history : History) → Represents engine.state history
      → effect_of history (world_of engine.world) command
      ≡ change_effect (world_of engine.world) entry
  pub next : (history : History) → Represents engine.state history
      → entry ≡ next_entry history (world_of engine.world) entry.act
