-- A flag has no float.
use Rattle.std.proofs.Common.{◌≡◌, refl, false, List, [], ◌∷◌, map}
use Rattle.serde_json.specs.Data.{Data}
use Rattle.serde_json.specs.View.{items_of}
use Rattle.serde_json.specs.Written.{has_float, items_have_float}
use Rattle.hippo_values.specs.declared.values.Value.{Value}
use Rattle.hippo_values.specs.declared.values.Value.TheVariants.{Null, Int, Text, Day}
use Rattle.std.proofs.Common.{pos, negsuc}
use Rattle.hippo_model.specs.declared.audit.Flag.{Flag}
use Rattle.hippo_model.specs.declared.audit.SharedRow.{SharedRow}
use Rattle.hippo_report_flags.specs.Flags.{value_data, shared_data, flag_data}

has_float-value : (value : Value) → has_float (value_data value) ≡ false
has_float-value Null = refl
has_float-value (Int (pos n)) = refl
has_float-value (Int (negsuc n)) = refl
has_float-value (Text text) = refl
has_float-value (Day day) = refl

items_have_float-map : {A : Type 0} (data_of : A → Data) → ((member : A) → has_float (data_of member) ≡ false)
    → (members : List A) → items_have_float (items_of (map data_of members)) ≡ false
items_have_float-map data_of none [] = refl
items_have_float-map data_of none (first ∷ rest) = rw (none first, items_have_float-map data_of none rest) refl

has_float-shared : (shared : SharedRow) → has_float (shared_data shared) ≡ false
has_float-shared shared = rw (items_have_float-map value_data has_float-value shared.key) refl

pub flag_has_no_float : (flag : Flag) → has_float (flag_data flag) ≡ false
flag_has_no_float flag = rw (items_have_float-map shared_data has_float-shared flag.shared) refl
