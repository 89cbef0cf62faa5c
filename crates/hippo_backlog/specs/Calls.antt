-- The effect of reading on a keeper.
use Rattle.std.specs.Prelude.{Result, Ok, Err}
use Rattle.hippo_keeper.specs.declared.faults.KeeperFault.{KeeperFault}
use Rattle.hippo_keeper.specs.declared.faults.KeeperFault.TheVariants as keeper_faults
use Rattle.hippo_backlog.specs.declared.faults.ReadFault.{ReadFault}
use Rattle.hippo_backlog.specs.declared.faults.ReadFault.TheVariants.{Keeper, Damaged, Memory}

-- a keeper's fault, as the fault of a read
abbrev pub read_fault : KeeperFault → ReadFault
read_fault keeper_faults.Failed = Keeper
read_fault keeper_faults.Memory = Memory

-- several reads, as a single call of their keeper
abbrev pub reading_as_call : {A : Type 0} → Result A ReadFault → Result (Unit {0}) KeeperFault
reading_as_call (Ok value) = Ok tt
reading_as_call (Err Keeper) = Err keeper_faults.Failed
reading_as_call (Err (Damaged number)) = Ok tt
reading_as_call (Err Memory) = Err keeper_faults.Memory
