-- Equality of map keys.
use Rattle.std.specs.Prelude.{Bool, ◌&&◌, nat_eq, bytes_eq}
use Rattle.std.specs.Ordering.{int_eq}
use Rattle.hippo_values.specs.declared.names.Name.{Name}
use Rattle.hippo_policy.specs.declared.keys.CellKey.{CellKey}
use Rattle.hippo_policy.specs.declared.keys.ChoiceKey.{ChoiceKey}
use Rattle.hippo_policy.specs.declared.keys.TableKey.{TableKey}
use Rattle.hippo_policy.specs.declared.keys.UserKey.{UserKey}

abbrev pub same_name : Name → Name → Bool
same_name = bytes_eq

abbrev pub same_choice : ChoiceKey → ChoiceKey → Bool
same_choice x y = int_eq x.subject y.subject && bytes_eq x.item y.item

abbrev pub same_user : UserKey → UserKey → Bool
same_user x y =
    bytes_eq x.user y.user && (bytes_eq x.purpose y.purpose && bytes_eq x.recipient y.recipient)

abbrev pub same_table : TableKey → TableKey → Bool
same_table x y =
    bytes_eq x.purpose y.purpose && (bytes_eq x.recipient y.recipient && bytes_eq x.table y.table)

abbrev pub same_cell_key : CellKey → CellKey → Bool
same_cell_key x y = same_table x.table y.table && nat_eq x.column y.column
