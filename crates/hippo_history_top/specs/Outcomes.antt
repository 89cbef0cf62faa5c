-- The results of showing, over what a start may find.
use Rattle.std.specs.Prelude.{◌⊎◌, Option}
use Rattle.hippo_values.specs.Texts.{Txt}
use Rattle.hippo_io.specs.Told.{Appends, AppendsFront}
use Rattle.hippo_model.specs.Terms.{History}
use Rattle.hippo_keeper.specs.Keeping.{KeeperState}
use Rattle.hippo_replay.specs.Loading.{KeepsFound}
use Rattle.hippo_program_args.specs.Starting.{HoldsOfStored, IsIdle}
use Rattle.hippo_history_top.specs.declared.asking.View.{View}
use Rattle.hippo_program_args.specs.declared.endings.Ending.{Ending}
use Rattle.hippo_program_args.specs.declared.endings.Ending.TheVariants.{Served, KeeperFault, WriteFault, Damaged, NoMemory}
use Rattle.hippo_history_top.specs.Damage.{ShowsToDamage, BeginsToDamage}
use Rattle.hippo_history_top.specs.Showing.{shown_text}

-- the stored forms of a valid history were found and are stored, and this holds of each history
-- with these stored forms
pub record FromKept (name : Txt) (holds : History → Type 0) (before after : KeeperState)
    : Type 0 where
  pub kept : KeepsFound (before.finds name) after
  pub held : HoldsOfStored after.kept holds

-- exactly what is asked for of the history is written
abbrev pub ShowsView : View → Txt → KeeperState → KeeperState → Option Txt → Option Txt → Type 0
ShowsView view name before after written written' =
    FromKept name (λ history. Appends written written' (shown_text view history)) before after

-- a prefix of what is asked for is written
abbrev pub BeginsView : View → Txt → KeeperState → KeeperState → Option Txt → Option Txt → Type 0
BeginsView view name before after written written' =
    FromKept name (λ history. AppendsFront written written' (shown_text view history)) before after

-- how showing ends; `unwritten` says that the sink is unchanged
abbrev pub Ends : Ending → Type 0 → View → Txt → KeeperState → KeeperState → Option Txt → Option Txt
    → Type 0
Ends Served unwritten view name before after written written' =
    ShowsView view name before after written written'
Ends KeeperFault unwritten view name before after written written' =
    (unwritten × IsIdle name before after) ⊎ BeginsView view name before after written written'
Ends WriteFault unwritten view name before after written written' =
    BeginsToDamage view name before after written written'
    ⊎ BeginsView view name before after written written'
Ends Damaged unwritten view name before after written written' =
    ShowsToDamage view name before after written written'
Ends NoMemory unwritten view name before after written written' =
    (unwritten × IsIdle name before after)
    ⊎ (BeginsToDamage view name before after written written'
    ⊎ BeginsView view name before after written written')
Ends ending unwritten view name before after written written' = ⊥
