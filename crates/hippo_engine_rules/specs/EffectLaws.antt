-- Laws of the effects of lines.
use Rattle.std.specs.Prelude.{◌≡◌, ◌⊎◌, [], ◌∷◌, Err}
use Rattle.hippo_model.specs.declared.entry.Act.{Act}
use Rattle.hippo_model.specs.Terms.{History}
use Rattle.hippo_report.specs.declared.refusal.Refusal.{Refusal}
use Rattle.hippo_engine_sessions.specs.Worlds.{World}
use Rattle.hippo_stmt_lines.specs.Commands.{Command}
use Rattle.hippo_engine_checks.specs.Judging.{judged}
use Rattle.hippo_engine_checks.specs.Deeds.{next_entry}
use Rattle.hippo_engine_rules.specs.Effects.{Effect, effect_of}

-- an effect leaves the history and the world unchanged
pub record ChangesNothing (world : World) (effect : Effect) : Type 0 where
  pub added : effect.added ≡ []
  pub world_is : effect.world ≡ world

-- a line that is refused changes nothing
abbrev pub RefusalsChangeNothing : Type 0
RefusalsChangeNothing =
    (history : History) (world : World) (command : Command) (refusal : Refusal)
    → judged history world command ≡ Err refusal
    → ChangesNothing world (effect_of history world command)

-- an effect adds nothing, or adds an act as the next entry, at the clock's moment
abbrev pub AddsNext : History → World → Effect → Type 0
AddsNext history world effect =
    (effect.added ≡ []) ⊎ ((act : Act) × (effect.added ≡ next_entry history world act ∷ []))

-- a line adds at most one entry, and it is the next one
abbrev pub LinesAddTheNextEntry : Type 0
LinesAddTheNextEntry =
    (history : History) (world : World) (command : Command)
    → AddsNext history world (effect_of history world command)
