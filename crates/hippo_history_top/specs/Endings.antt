-- How showing a store's contents may end.
use Rattle.std.specs.Prelude.{ℕ, Bool, true, false, List, [], ◌∷◌, Option, Some, None}
use Rattle.hippo_keeper.specs.declared.faults.KeeperFault.{KeeperFault as Fault}
use Rattle.hippo_keeper.specs.declared.faults.KeeperFault.TheVariants as faults
use Rattle.hippo_program_args.specs.declared.endings.Ending.{Ending}
use Rattle.hippo_program_args.specs.declared.endings.Ending.TheVariants.{Served, Refused, KeeperFault, ReadFault, WriteFault, Damaged, NoMemory, TooMuch}

-- all exit statuses of the program that shows a history; it reads no source
abbrev pub showing_statuses : List ℕ
showing_statuses = 0 ∷ 2 ∷ 3 ∷ 5 ∷ 6 ∷ 7 ∷ []

-- whether the program may end this way, or go on, if its words ask for something
abbrev pub ends_showing : Option Ending → Bool
ends_showing (Some Refused) = false
ends_showing (Some ReadFault) = false
ends_showing (Some TooMuch) = false
ends_showing ending = true

-- how the program ends when a call on its keeper failed
abbrev pub ending_of : Fault → Ending
ending_of faults.Failed = KeeperFault
ending_of faults.Memory = NoMemory

-- whether showing entries may end the program this way
abbrev pub cuts : Option Ending → Bool
cuts None = true
cuts (Some WriteFault) = true
cuts (Some Damaged) = true
cuts (Some NoMemory) = true
cuts (Some ending) = false

-- the ending, except that reading all entries, or a failed keeper, counts as none
abbrev pub cut_of : Option Ending → Option Ending
cut_of (Some Served) = None
cut_of (Some KeeperFault) = None
cut_of ending = ending
