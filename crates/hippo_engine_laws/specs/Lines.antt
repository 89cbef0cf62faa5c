-- Relations that hold for each line of a run.
use Rattle.std.specs.Prelude.{◌≡◌, ◌≢◌, List, [], ◌∷◌, ◌++◌, Ok}
use Rattle.hippo_io.specs.Lines.{LineText}
use Rattle.hippo_model.specs.Terms.{History}
use Rattle.hippo_engine_sessions.specs.Worlds.{World}
use Rattle.hippo_stmt_lines.specs.Commands.{Command, command_of}
use Rattle.hippo_engine_checks.specs.Deeds.{Deed}
use Rattle.hippo_engine_checks.specs.Judging.{judged}
use Rattle.hippo_engine_rules.specs.Effects.{Effect, deed_effect}

-- a relation holds for each line: between the line's command in its history and world, its effect,
-- and the line's member of a list
abbrev pub OfEachLine : {A : Type 0} → (History → World → Command → Effect → A → Type 0)
    → History → World → List LineText → List Effect → List A → Type 0
OfEachLine relation history world [] [] [] = Unit {0}
OfEachLine relation history world (line ∷ lines) (effect ∷ effects) (one ∷ more) =
    relation history world (command_of line) effect one
    × OfEachLine relation (history ++ effect.added) effect.world lines effects more
OfEachLine relation history world lines effects told = ⊥

-- a command asks for a deed, and the deed is done
pub record IsDone (deed : Deed) (history : History) (world : World) (command : Command)
    (effect : Effect) : Type 0 where
  pub asks : judged history world command ≡ Ok deed
  pub is_done : effect ≡ deed_effect history world deed

-- no line asks for the deed
abbrev pub NoneJudged : Deed → History → World → List LineText → List Effect → Type 0
NoneJudged deed history world (line ∷ lines) (effect ∷ effects) =
    (judged history world (command_of line) ≢ Ok deed)
    × NoneJudged deed (history ++ effect.added) effect.world lines effects
NoneJudged deed history world lines effects = Unit {0}
