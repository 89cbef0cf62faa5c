-- How a call of a program ends: its exit status, and its result as one call on its keeper.
use Rattle.std.specs.Prelude.{ℕ, Option, Some, None, Result, Ok, Err}
use Rattle.hippo_keeper.specs.declared.faults.KeeperFault.{KeeperFault as Fault}
use Rattle.hippo_keeper.specs.declared.faults.KeeperFault.TheVariants.{Failed}
use Rattle.hippo_replay.specs.declared.faults.LoadFault.{LoadFault}
use Rattle.hippo_replay.specs.declared.faults.LoadFault.TheVariants as load_faults
use Rattle.hippo_program_args.specs.declared.endings.Ending.{Ending}
use Rattle.hippo_program_args.specs.declared.endings.Ending.TheVariants.{Served, Refused, KeeperFault, ReadFault, WriteFault, Damaged, NoMemory, TooMuch}

abbrev pub status_of : Ending → ℕ
status_of Served = 0
status_of Refused = 2
status_of KeeperFault = 3
status_of ReadFault = 4
status_of WriteFault = 5
status_of Damaged = 6
status_of NoMemory = 7
status_of TooMuch = 8

-- everything that a program did with its keeper, as one call
abbrev pub ending_as_call : Ending → Result (Unit {0}) Fault
ending_as_call KeeperFault = Err Failed
ending_as_call ending = Ok tt

-- what a part of the program did with its keeper, as one call; the program may end there
abbrev pub part_as_call : Option Ending → Result (Unit {0}) Fault
part_as_call None = Ok tt
part_as_call (Some ending) = ending_as_call ending

-- how a program ends when the stored history was not loaded
abbrev pub stop_ending : LoadFault → Ending
stop_ending load_faults.Keeper = KeeperFault
stop_ending (load_faults.Damaged place) = Damaged
stop_ending load_faults.Memory = NoMemory
