-- How a run, a check or a drill may end.
use Rattle.std.specs.Prelude.{◌≢◌, ℕ, List, [], ◌∷◌}
use Rattle.hippo_program_args.specs.declared.endings.Ending.{Ending}
use Rattle.hippo_program_args.specs.declared.endings.Ending.TheVariants.{Served, Refused, ReadFault, NoMemory, TooMuch}

-- all exit statuses
abbrev pub statuses : List ℕ
statuses = 0 ∷ 2 ∷ 3 ∷ 4 ∷ 5 ∷ 6 ∷ 7 ∷ 8 ∷ []

-- an ending before anything is read, other than running out of memory
abbrev pub EndsUnread : Ending → Type 0
EndsUnread ending =
    (ending ≢ Served) × (ending ≢ Refused) × (ending ≢ ReadFault) × (ending ≢ NoMemory)
    × (ending ≢ TooMuch)
