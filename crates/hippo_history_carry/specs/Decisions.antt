-- The matters on which the later entries of a history decide, as the code gathers them.
use Rattle.std.specs.Prelude.{◌≡◌, ℕ, ℤ, ◌&&◌, ◌||◌, Bool, true, not, List, [], ◌∷◌, Option, Some, is_some, is_none, nat_eq, bytes_eq, if◌then◌else◌}
use Rattle.std.specs.List.{list_any}
use Rattle.std.specs.Ordering.{int_eq}
use Rattle.std.specs.Cmp.Lexicographic.{pointwise}
use Rattle.indexmap.specs.IndexSet.{contains}
use Rattle.hippo_values.specs.declared.names.Name.{Name}
use Rattle.hippo_values.specs.contracts.values.ValuePartialEq.TheImpl as values
use Rattle.hippo_model.specs.declared.schema.Schema.{Schema}
use Rattle.hippo_model.specs.Histories.{schema_at}
use Rattle.hippo_model.specs.Rules.{rule_at, choice_at}
use Rattle.hippo_model.specs.Terms.{History, Key, Place}
use Rattle.hippo_history_carry.specs.declared.decided.Decided.{Decided}
use Rattle.hippo_history_carry.specs.declared.keys.CellKey.{CellKey}
use Rattle.hippo_history_carry.specs.declared.keys.ChoiceKey.{ChoiceKey}
use Rattle.hippo_history_carry.specs.declared.keys.GrantKey.{GrantKey}
use Rattle.hippo_history_carry.specs.declared.keys.RowKey.{RowKey}
use Rattle.hippo_history_carry.specs.Carrying.{is_granted_again, is_inserted_again}

-- equality of the keys
abbrev pub same_grant : GrantKey → GrantKey → Bool
same_grant x y =
    bytes_eq x.user y.user && (bytes_eq x.purpose y.purpose && bytes_eq x.recipient y.recipient)

abbrev pub same_subject : ChoiceKey → ChoiceKey → Bool
same_subject x y = int_eq x.subject y.subject && bytes_eq x.item y.item

abbrev pub same_ruled : CellKey → CellKey → Bool
same_ruled x y =
    bytes_eq x.purpose y.purpose
    && (bytes_eq x.recipient y.recipient
    && (bytes_eq x.table y.table && nat_eq x.column y.column))

abbrev pub same_born : RowKey → RowKey → Bool
same_born x y = bytes_eq x.table y.table && pointwise (values.ghosts).eq x.key y.key

-- what is decided
abbrev pub is_granted_in : Decided → Name → Name → Name → Bool
is_granted_in decided user purpose recipient =
    contains same_grant decided.grants
    (record { user = user; purpose = purpose; recipient = recipient })

abbrev pub is_chosen_in : Decided → ℤ → Name → Bool
is_chosen_in decided subject item =
    contains same_subject decided.choices (record { subject = subject; item = item })

abbrev pub is_ruled_in : Decided → Name → Name → Name → Place → Bool
is_ruled_in decided purpose recipient table column =
    contains same_ruled decided.cells
    (record { purpose = purpose; recipient = recipient; table = table; column = column })

abbrev pub is_born_in : Decided → Name → Key → Bool
is_born_in decided table key =
    contains same_born decided.births (record { table = table; key = key })

-- exactly the matters are decided on which some entries of a history decide
pub record IsDecidedBy (history : History) (decided : Decided) (later : History) : Type 0 where
  pub grants : (user purpose recipient : Name) → is_granted_in decided user purpose recipient
      ≡ is_granted_again user purpose recipient later
  pub choices : (subject : ℤ) (item : Name)
      → is_chosen_in decided subject item ≡ is_some (choice_at later subject item)
  pub cells : (purpose recipient table : Name) (column : Place)
      → is_ruled_in decided purpose recipient table column
      ≡ is_some (rule_at later purpose recipient table column)
  pub births : (table : Name) (key : Key) (schema : Schema) → schema_at history table ≡ Some schema
      → is_born_in decided table key ≡ is_inserted_again schema key later

-- one more matter of each kind is decided
pub record AddsGrant (old new : Decided) (user purpose recipient : Name) : Type 0 where
  pub grants : (u p r : Name) → is_granted_in new u p r
      ≡ (bytes_eq user u && (bytes_eq purpose p && bytes_eq recipient r) || is_granted_in old u p r)
  pub others : (new.choices ≡ old.choices) × (new.cells ≡ old.cells) × (new.births ≡ old.births)

pub record AddsChoice (old new : Decided) (subject : ℤ) (item : Name) : Type 0 where
  pub choices : (s : ℤ) (i : Name) → is_chosen_in new s i
      ≡ (int_eq subject s && bytes_eq item i || is_chosen_in old s i)
  pub others : (new.grants ≡ old.grants) × (new.cells ≡ old.cells) × (new.births ≡ old.births)

pub record AddsBirth (old new : Decided) (table : Name) (key : Key) : Type 0 where
  pub births : (t : Name) (k : Key) → is_born_in new t k
      ≡ (bytes_eq table t && pointwise (values.ghosts).eq key k || is_born_in old t k)
  pub others : (new.grants ≡ old.grants) × (new.choices ≡ old.choices) × (new.cells ≡ old.cells)

pub record AddsCells (old new : Decided) (purpose recipient table : Name) (columns : List Place)
    : Type 0 where
  pub cells : (p r t : Name) (c : Place) → is_ruled_in new p r t c
      ≡ (bytes_eq purpose p && (bytes_eq recipient r && (bytes_eq table t
      && list_any (nat_eq c) columns)) || is_ruled_in old p r t c)
  pub others : (new.grants ≡ old.grants) × (new.choices ≡ old.choices) × (new.births ≡ old.births)
