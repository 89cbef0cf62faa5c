-- Why a call on a keeper failed.
use Rattle.std.specs.Prelude.{Bool, true, false, Result, Ok, Err}
use Rattle.hippo_keeper.specs.declared.faults.KeeperFault.{KeeperFault}
use Rattle.hippo_keeper.specs.declared.faults.KeeperFault.TheVariants.{Failed, Memory}

-- the answer is that the keeper failed
abbrev pub has_failed : {A : Type 0} → Result A KeeperFault → Bool
has_failed (Ok value) = false
has_failed (Err Failed) = true
has_failed (Err Memory) = false

-- the answer is that the keeper is out of memory
abbrev pub is_out_of_memory : {A : Type 0} → Result A KeeperFault → Bool
is_out_of_memory (Ok value) = false
is_out_of_memory (Err Failed) = false
is_out_of_memory (Err Memory) = true
