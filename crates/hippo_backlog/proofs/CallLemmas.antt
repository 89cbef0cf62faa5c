-- Faults of a read, as faults of its keeper's calls.
use Rattle.std.proofs.Common.{◌≡◌, refl, ℕ, false, Result, Ok, Err}
use Rattle.std.specs.Prelude.{◌≢◌}
use Rattle.hippo_keeper.specs.declared.faults.KeeperFault.{KeeperFault}
use Rattle.hippo_keeper.specs.declared.faults.KeeperFault.TheVariants as keeper_faults
use Rattle.hippo_keeper.specs.Answering.{has_failed}
use Rattle.hippo_keeper.proofs.Results.{err_of}
use Rattle.hippo_backlog.specs.declared.faults.ReadFault.{ReadFault}
use Rattle.hippo_backlog.specs.declared.faults.ReadFault.TheVariants.{Keeper, Damaged, Memory}
use Rattle.hippo_backlog.specs.Calls.{read_fault, reading_as_call}

-- without a keeper's fault, none of its calls failed
pub reading_as_call-unfailed : {A : Type 0} (result : Result A ReadFault) → result ≢ Err Keeper → has_failed (reading_as_call result) ≡ false
reading_as_call-unfailed (Ok value) other = refl
reading_as_call-unfailed (Err Keeper) other = absurd (other refl)
reading_as_call-unfailed (Err (Damaged number)) other = refl
reading_as_call-unfailed (Err Memory) other = refl

pub same_Err : {A B : Type 0} (x y : B) → err_of A x ≡ Err y → x ≡ y
same_Err x y e = cc

-- a fault of a call is the same fault at any result type
pub reading_as_call-fault : (A B : Type 0) (fault : ReadFault) → reading_as_call (err_of A fault) ≡ reading_as_call (err_of B fault)
reading_as_call-fault A B Keeper = refl
reading_as_call-fault A B (Damaged number) = refl
reading_as_call-fault A B Memory = refl

pub reading_as_call-read_fault : (A B : Type 0) (fault : KeeperFault) → has_failed (reading_as_call (err_of A (read_fault fault))) ≡ has_failed (err_of B fault)
reading_as_call-read_fault A B keeper_faults.Failed = refl
reading_as_call-read_fault A B keeper_faults.Memory = refl

pub undamaged_by : {A : Type 0} (fault : KeeperFault) (number : ℕ) → err_of A (read_fault fault) ≢ Err (Damaged number)
undamaged_by keeper_faults.Failed number e = cc
undamaged_by keeper_faults.Memory number e = cc
