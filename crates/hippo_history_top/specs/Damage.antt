-- What is shown of a damaged store: the history before the damage, and then the place.
use Rattle.std.specs.Prelude.{◌≡◌, ◌≢◌, ℕ, ◌+◌, ◌-◌, ◌≤◌, true, false, ◌++◌, take, Option, Some}
use Rattle.hippo_values.specs.Texts.{Txt}
use Rattle.hippo_io.specs.Told.{Appends, AppendsFront}
use Rattle.hippo_model.specs.Terms.{History}
use Rattle.hippo_model.specs.Stores.{IsStoreOf}
use Rattle.hippo_keeper.specs.Keeping.{Store, KeeperState, IsAfterCall, KeepsSame}
use Rattle.hippo_keeper.specs.Selecting.{stored_versions}
use Rattle.hippo_typing.specs.Meanings.{meaning}
use Rattle.hippo_program_args.specs.declared.endings.Ending.{Ending}
use Rattle.hippo_program_args.specs.declared.endings.Ending.TheVariants.{Served, KeeperFault, WriteFault, Damaged, NoMemory}
use Rattle.hippo_program_args.specs.Endings.{ending_as_call}
use Rattle.hippo_program_args.specs.Lines.{damaged_line}
use Rattle.hippo_program_args.specs.Saying.{Says}
use Rattle.hippo_program_args.specs.Starting.{HoldsOfStored, KeepsDamaged}
use Rattle.hippo_history_top.specs.declared.asking.View.{View}
use Rattle.hippo_history_top.specs.Endings.{ends_showing}
use Rattle.hippo_history_top.specs.Saying.{CountsWrites}
use Rattle.hippo_history_top.specs.Showing.{shown_text}

-- what is asked for of the history before the damage, and then the line with the place
abbrev pub damaged_text : View → ℕ → History → Txt
damaged_text view place front = shown_text view front ++ damaged_line place

-- what is stored was found, and is damaged; this holds of the place and of the history before it
pub record BeforeDamage (name : Txt) (holds : ℕ → History → Type 0) (before after : KeeperState)
    : Type 0 where
  pub place : ℕ
  pub kept : KeepsDamaged name place before after
  pub held : HoldsOfStored (take (place - 1) after.kept) (holds place)

-- the history before the damage is shown, and the place is written
abbrev pub ShowsToDamage : View → Txt → KeeperState → KeeperState → Option Txt → Option Txt
    → Type 0
ShowsToDamage view name before after written written' =
    BeforeDamage name (λ place front. Appends written written' (damaged_text view place front))
    before after

-- a prefix of that is written
abbrev pub BeginsToDamage : View → Txt → KeeperState → KeeperState → Option Txt → Option Txt
    → Type 0
BeginsToDamage view name before after written written' =
    BeforeDamage name (λ place front. AppendsFront written written' (damaged_text view place front))
    before after

-- the place is written if everything before it was shown; otherwise the program ends as it would
-- have, where a keeper in memory that fails is out of memory
abbrev pub ThenPlace : ℕ → Ending → Ending → Option Txt → Option Txt → ℕ → ℕ → Type 0
ThenPlace place Served result written written' faults faults' =
    Says Damaged (damaged_line place) WriteFault result written written' faults faults'
ThenPlace place KeeperFault result written written' faults faults' =
    (result ≡ NoMemory) × (written' ≡ written) × (faults' ≡ faults)
ThenPlace place ending result written written' faults faults' =
    (result ≡ ending) × (written' ≡ written) × (faults' ≡ faults)

-- the history with these stored forms is shown, and then the place; or a prefix of that is written
pub record ShowsCopied (store : Store) (view : View) (place : ℕ) (result : Ending)
    (written written' : Option Txt) (faults faults' : ℕ) : Type 0 where
  pub status : ends_showing (Some result) ≡ true
  pub unserved : result ≢ Served
  pub unfailed : result ≢ KeeperFault
  pub writes : CountsWrites (Some result) faults faults'
  pub whole : result ≡ Damaged → (front : History) → IsStoreOf meaning store front
      → Appends written written' (damaged_text view place front)
  pub begun : (front : History) → IsStoreOf meaning store front
      → AppendsFront written written' (damaged_text view place front)

-- the history before a place of the stored list is shown, and then the place; or a prefix of that
-- is written, and nothing if the keeper failed
pub record ShowsDamaged (view : View) (place : ℕ) (result : Ending) (unwritten : Type 0)
    (before after : KeeperState) (written written' : Option Txt)
    (faults faults' ticks ticks' : ℕ) : Type 0 where
  pub call : IsAfterCall true false (ending_as_call result) before after
  pub stays : after.tells → KeepsSame before after
  pub status : ends_showing (Some result) ≡ true
  pub unserved : result ≢ Served
  pub unread : result ≡ KeeperFault → unwritten
  pub writes : CountsWrites (Some result) faults faults'
  pub whole : result ≡ Damaged → after.tells → (front : History)
      → IsStoreOf meaning (take (place - 1) before.kept) front
      → Appends written written' (damaged_text view place front)
  pub begun : after.tells → (front : History)
      → IsStoreOf meaning (take (place - 1) before.kept) front
      → AppendsFront written written' (damaged_text view place front)
  pub steps : after.tells → ticks' ≤ ticks + stored_versions before.kept
