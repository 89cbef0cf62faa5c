-- The results of gathering something from the stored entries, one piece after another.
use Rattle.std.specs.Prelude.{◌≡◌, ℕ, ◌^◌, ◌<◌, Bool, true, false, [], ◌++◌, Result, Ok, Err, OnOk}
use Rattle.hippo_model.specs.Terms.{History}
use Rattle.hippo_keeper.specs.Keeping.{Store, last_number, KeeperState}
use Rattle.hippo_keeper.specs.Selecting.{HandsOver}
use Rattle.hippo_keeper.specs.declared.faults.KeeperFault.{KeeperFault}
use Rattle.hippo_keeper.specs.declared.faults.KeeperFault.TheVariants.{Memory}
use Rattle.hippo_history_top.specs.Progress.{HasForms, IsReadUpTo}

-- something goes on over the entries with these stored forms: if it covered some entries before, it
-- now covers these as well
abbrev pub Gathers : (History → Type 0) → (History → Type 0) → Store → Type 0
Gathers old new store =
    (read entries : History) → HasForms store entries → old read → new (read ++ entries)

-- the result of reading a piece, by whether its entries were covered
abbrev pub reading_of : {E : Type 0} → Result (Unit {0}) E → Bool → Result Bool KeeperFault
reading_of (Ok covered) any = Ok any
reading_of (Err error) any = Err Memory

-- a piece, the first entries of the rest, is read and covered
pub record GathersNext (old new : History → Type 0) (result : Result Bool KeeperFault)
    (before after : KeeperState) (number number' ticks ticks' : ℕ) : Type 0 where
  pub piece : Store
  pub hands : HandsOver result piece before after ticks ticks'
  pub gathers : OnOk result (Gathers old new piece)
  pub last : OnOk result (number' ≡ last_number number piece)
  pub more : result ≡ Ok true → (number < number') × (number < 2 ^ 64)
  pub told : after.tells → (read rest : Store) → IsReadUpTo number before read rest
      → ((remaining : Store) × (rest ≡ piece ++ remaining))
  pub nothing : result ≡ Ok false → piece ≡ []
  pub ended : result ≡ Ok false → after.tells → (read rest : Store)
      → IsReadUpTo number before read rest → rest ≡ []

-- the first part of the stored list is read and covered
pub record IsGathering (start now_covers : History → Type 0) (before now : KeeperState)
    (number ticks ticks' : ℕ) : Type 0 where
  pub read : Store
  pub hands : HandsOver {A = Unit {0}} (Ok tt) read before now ticks ticks'
  pub last : last_number 0 read ≡ number
  pub gathers : Gathers start now_covers read
  pub told : now.tells → ((remaining : Store) × (before.kept ≡ read ++ remaining))

-- the whole stored list is read and covered; or a call on the keeper failed, or memory ran out
pub record GathersAll (start covers : History → Type 0) (result : Result (Unit {0}) KeeperFault)
    (before after : KeeperState) (ticks ticks' : ℕ) : Type 0 where
  pub read : Store
  pub hands : HandsOver result read before after ticks ticks'
  pub told : after.tells → ((remaining : Store) × (before.kept ≡ read ++ remaining))
  pub whole : OnOk result (after.tells → Gathers start covers before.kept)
