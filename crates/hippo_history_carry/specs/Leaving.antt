-- Taking in an entry before the later ones whose matters are decided.
use Rattle.std.specs.Prelude.{◌≡◌, not, List, [], ◌∷◌, filter, Option, Result, IfOk, OnOk}
use Rattle.hippo_values.specs.declared.memory.Memory.{Memory}
use Rattle.hippo_model.specs.declared.entry.Act.{Act}
use Rattle.hippo_model.specs.declared.entry.Entry.{Entry}
use Rattle.hippo_values.specs.declared.names.Name.{Name}
use Rattle.hippo_model.specs.Terms.{History, Place}
use Rattle.hippo_tables.specs.declared.tables.Tables.{Tables}
use Rattle.hippo_tables.specs.Standing.{TablesStandFor}
use Rattle.hippo_history_carry.specs.declared.decided.Decided.{Decided}
use Rattle.hippo_history_carry.specs.Carrying.{act_left}
use Rattle.hippo_history_carry.specs.Decisions.{IsDecidedBy, is_ruled_in}

-- what is left of an act is found, and then the act's own matters are decided, too
pub record LeavesAct (act : Act) (tables : Tables) (result : Result (Option Act) Memory)
    (old new : Decided) : Type 0 where
  pub left : (history later : History) → TablesStandFor tables history → IsDecidedBy history old later
      → IfOk result (λ left. left ≡ act_left history later act)
  pub decides : (history later : History) (entry : Entry) → entry.act ≡ act
      → TablesStandFor tables history → IsDecidedBy history old later
      → OnOk result (IsDecidedBy history new (entry ∷ later))

-- the columns of a rule on which nothing is decided
abbrev pub undecided : Decided → Name → Name → Name → List Place → List Place
undecided decided purpose recipient table columns =
    filter (λ column. not (is_ruled_in decided purpose recipient table column)) columns
