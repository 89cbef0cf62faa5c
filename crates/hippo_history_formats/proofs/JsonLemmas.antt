-- The shown objects have no floating-point numbers, so the text that is written of them is compact.
use Rattle.std.proofs.Common.{◌≡◌, refl, Bool, false, ℕ, List, [], ◌∷◌, pos, negsuc, Option, Some, None, option_map, Result, Ok, Err, IfOk, ap, ◌∙◌}
use Rattle.serde_json.specs.Data.{Data}
use Rattle.serde_json.specs.Written.{compact_text, has_float}
use Rattle.hippo_values.specs.Texts.{Txt}
use Rattle.hippo_values.specs.declared.names.Name.{Name}
use Rattle.hippo_values.specs.declared.values.Value.{Value}
use Rattle.hippo_values.specs.declared.values.Value.TheVariants as values
use Rattle.hippo_model.specs.Rules.{Rule}
use Rattle.hippo_report_flags.specs.Flags.{value_data}
use Rattle.hippo_history_formats.specs.declared.access.Access.{Access}
use Rattle.hippo_history_formats.specs.declared.access.DeniedCell.{DeniedCell}
use Rattle.hippo_history_formats.specs.declared.access.SeenCell.{SeenCell}
use Rattle.hippo_history_formats.specs.declared.told.Told.{Told}
use Rattle.hippo_history_formats.specs.declared.told.Told.TheVariants.{Asked, Made}
use Rattle.hippo_history_formats.specs.Formats.{number_data, text_data, opt_word, rule_item, rule_days, rule_data}
use Rattle.hippo_history_formats.specs.Shown.{told_data}
use Rattle.hippo_history_formats.specs.Accesses.{seen_data, denied_data, list_data, access_data}

pub told_has_no_float : (entry : ℕ) (moment : Txt) (told : Told) → has_float (told_data entry moment told) ≡ false
told_has_no_float entry moment (Asked question) = refl
told_has_no_float entry moment (Made statement) = refl

has_float-number : (n : Option ℕ) → has_float (number_data n) ≡ false
has_float-number None = refl
has_float-number (Some n) = refl

has_float-text : (text : Option Txt) → has_float (text_data text) ≡ false
has_float-text None = refl
has_float-text (Some text) = refl

pub rule_has_no_float : (purpose recipient table : Name) (column : Txt) (rule : Option Rule) (moment : Option Txt) (opt_in : Option Bool) → has_float (rule_data purpose recipient table column rule moment opt_in) ≡ false
rule_has_no_float purpose recipient table column rule moment opt_in =
    rw (has_float-number (rule_days rule), has_float-text (rule_item rule), has_float-text moment, has_float-text (option_map opt_word opt_in)) refl

has_float-value : (value : Value) → has_float (value_data value) ≡ false
has_float-value values.Null = refl
has_float-value (values.Int (pos n)) = refl
has_float-value (values.Int (negsuc n)) = refl
has_float-value (values.Text text) = refl
has_float-value (values.Day day) = refl

has_float-list : {A : Type 0} (form : A → Data) → ((member : A) → has_float (form member) ≡ false)
    → (members : List A) → has_float (list_data form members) ≡ false
has_float-list form none [] = refl
has_float-list form none (first ∷ rest) = rw (none first, has_float-list form none rest) refl

has_float-seen : (seen : SeenCell) → has_float (seen_data seen) ≡ false
has_float-seen seen = rw (has_float-value seen.value) refl

has_float-denied : (denied : DeniedCell) → has_float (denied_data denied) ≡ false
has_float-denied denied = refl

access_has_no_float : (access : Access) (moment : Txt) → has_float (access_data access moment) ≡ false
access_has_no_float access moment =
    rw (has_float-list denied_data has_float-denied access.denied, has_float-list value_data has_float-value access.key, has_float-list seen_data has_float-seen access.shown, has_float-list seen_data has_float-seen access.tested) refl

-- the text that is written of an object without such numbers is its compact text
pub access_written : {A E : Type 0} (access : Access) (moment : Txt) (made : Data) (bytes : A → Txt) (written : Result A E) → made ≡ access_data access moment
    → IfOk written (λ text. has_float made ≡ false → bytes text ≡ compact_text made) → IfOk written (λ text. bytes text ≡ compact_text (access_data access moment))
access_written access moment made bytes (Ok text) is so = so (ap has_float is ∙ access_has_no_float access moment) ∙ ap compact_text is
access_written access moment made bytes (Err error) is so = tt
