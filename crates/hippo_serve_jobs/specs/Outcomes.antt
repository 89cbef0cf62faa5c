-- The results of the jobs, over what a start may find.
use Rattle.std.specs.Prelude.{◌≡◌, ◌⊎◌, ◌+◌, length}
use Rattle.hippo_values.specs.Texts.{Txt}
use Rattle.hippo_io.specs.Told.{Appends, AppendsFront}
use Rattle.hippo_model.specs.Terms.{History}
use Rattle.hippo_model.specs.Versions.{versions}
use Rattle.hippo_keeper.specs.Keeping.{Store}
use Rattle.hippo_serve_args.specs.declared.calls.Job.{Job}
use Rattle.hippo_serve_args.specs.declared.calls.Setting.{Setting}
use Rattle.hippo_program_args.specs.declared.endings.Ending.{Ending}
use Rattle.hippo_program_args.specs.declared.endings.Ending.TheVariants.{Served, Refused, KeeperFault, ReadFault, WriteFault, Damaged, NoMemory, TooMuch}
use Rattle.hippo_program_args.specs.Starting.{HoldsOfStored, IsIdle, SaysDamaged, BeginsDamaged}
use Rattle.hippo_serve_jobs.specs.Saying.{entries_line}
use Rattle.hippo_serve_jobs.specs.Keeping.{KeepsHistory}
use Rattle.hippo_serve_jobs.specs.Outside.{Told, Outside}
use Rattle.hippo_serve_jobs.specs.Runs.{IsServed, IsReadCut, HasTooMuch, IsUnwritten, IsBrokenOff}

-- a start with this name may find the stored forms of a valid history, and this holds of each
-- history with these stored forms
pub record FromFound (name : Txt) (holds : History → Told → Outside → Type 0)
    (before after : Outside)
    : Type 0 where
  pub store : Store
  pub found : before.keeper.finds name store
  pub held : HoldsOfStored store (λ history. holds history before.told after)

-- how a run or a load ends; `unread` and `unwritten` say that the source and the sink are unchanged
abbrev pub RunEnds : Ending → Type 0 → Type 0 → Setting → Job → Txt → Outside → Outside → Type 0
RunEnds Served unread unwritten setting job name before after =
    FromFound name (IsServed setting job) before after
RunEnds Refused unread unwritten setting job name before after = ⊥
RunEnds KeeperFault unread unwritten setting job name before after =
    (unread × unwritten × IsIdle name before.keeper after.keeper)
    ⊎ FromFound name (IsBrokenOff setting job) before after
RunEnds ReadFault unread unwritten setting job name before after =
    FromFound name (IsReadCut setting job) before after
RunEnds WriteFault unread unwritten setting job name before after =
    (unread
    × BeginsDamaged name before.keeper after.keeper before.told.written after.told.written)
    ⊎ FromFound name (IsUnwritten setting job) before after
RunEnds Damaged unread unwritten setting job name before after =
    SaysDamaged name before.keeper after.keeper before.told.written after.told.written
RunEnds NoMemory unread unwritten setting job name before after =
    IsIdle name before.keeper after.keeper
RunEnds TooMuch unread unwritten setting job name before after =
    FromFound name (HasTooMuch setting job) before after

-- a history is stored and survives a stop, and one step was taken for each version in it
pub record WasLoaded (history : History) (before : Told) (after : Outside) : Type 0 where
  pub kept : KeepsHistory history after.keeper
  pub steps : after.told.steps ≡ before.steps + versions history

-- the number of the history's entries is written
pub record IsCounted (history : History) (before : Told) (after : Outside) : Type 0 where
  pub loaded : WasLoaded history before after
  pub written : Appends before.written after.told.written (entries_line (length history))

-- a prefix of the line with the number of the history's entries is written
pub record BeginsCount (history : History) (before : Told) (after : Outside) : Type 0 where
  pub loaded : WasLoaded history before after
  pub written : AppendsFront before.written after.told.written (entries_line (length history))

-- how a check ends
abbrev pub CheckEnds : Ending → Type 0 → Txt → Outside → Outside → Type 0
CheckEnds Served unwritten name before after = FromFound name IsCounted before after
CheckEnds KeeperFault unwritten name before after =
    unwritten × IsIdle name before.keeper after.keeper
CheckEnds WriteFault unwritten name before after =
    BeginsDamaged name before.keeper after.keeper before.told.written after.told.written
    ⊎ FromFound name BeginsCount before after
CheckEnds Damaged unwritten name before after =
    SaysDamaged name before.keeper after.keeper before.told.written after.told.written
CheckEnds NoMemory unwritten name before after =
    unwritten × IsIdle name before.keeper after.keeper
CheckEnds ending unwritten name before after = ⊥
