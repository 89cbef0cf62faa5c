-- The history that is carried on has the same present as the old one.
use Rattle.std.specs.Prelude.{◌≡◌, ℤ, true, Some, option_map}
use Rattle.hippo_values.specs.declared.names.Name.{Name}
use Rattle.hippo_model.specs.declared.born_row.BornRow.{BornRow}
use Rattle.hippo_model.specs.declared.schema.Schema.{Schema}
use Rattle.hippo_model.specs.Histories.{schema_at, item_at}
use Rattle.hippo_model.specs.Rows.{born_row_at}
use Rattle.hippo_model.specs.Rules.{Rule, allowed, revoked, rule_at, choice_at, authorized_at}
use Rattle.hippo_model.specs.Terms.{History, Key, Meaning, Place}
use Rattle.hippo_model.specs.Validity.{is_purpose, is_recipient, is_authorized, is_valid}
use Rattle.hippo_model.specs.Verdicts.{Context, verdict}
use Rattle.hippo_model.specs.Views.{is_shown}
use Rattle.hippo_history_carry.specs.Carrying.{carried}

-- the same tables, items, purposes and recipients
pub record HasSameNames (old new : History) : Type 0 where
  pub tables : (table : Name) → schema_at new table ≡ schema_at old table
  pub items : (item : Name) → item_at new item ≡ item_at old item
  pub purposes : (purpose : Name) → is_purpose new purpose ≡ is_purpose old purpose
  pub recipients : (recipient : Name) → is_recipient new recipient ≡ is_recipient old recipient

abbrev pub CarriesNames : Type 0
CarriesNames = (history : History) → HasSameNames history (carried history)

-- the same choices, and the same users may ask
abbrev pub CarriesChoices : Type 0
CarriesChoices =
    (history : History) (subject : ℤ) (item : Name)
    → choice_at (carried history) subject item ≡ choice_at history subject item

abbrev pub CarriesUsers : Type 0
CarriesUsers =
    (history : History) (user purpose recipient : Name)
    → is_authorized (authorized_at (carried history) user purpose recipient)
    ≡ is_authorized (authorized_at history user purpose recipient)

-- the same rules but for their numbers
abbrev pub without_number : Rule → Rule
without_number (allowed number item days) = allowed 0 item days
without_number (revoked number) = revoked 0

abbrev pub CarriesRules : Type 0
CarriesRules =
    (history : History) (purpose recipient table : Name) (column : Place)
    → option_map without_number (rule_at (carried history) purpose recipient table column)
    ≡ option_map without_number (rule_at history purpose recipient table column)

-- in each table and under each key the same row, with its birth, or none
abbrev pub CarriesRows : Type 0
CarriesRows =
    (meaning : Meaning) (history : History) → is_valid meaning history ≡ true
    → (table : Name) (schema : Schema) → schema_at history table ≡ Some schema
    → (key : Key) → born_row_at schema (carried history) key ≡ born_row_at schema history key

-- the same cells are shown in each context
abbrev pub CarriesVerdicts : Type 0
CarriesVerdicts =
    (history : History) (context : Context) (schema : Schema) (kept : BornRow) (column : Place)
    → is_shown (verdict (carried history) context schema kept column)
    ≡ is_shown (verdict history context schema kept column)
