-- What is shown of an entry, and of the rule of a column, as both formats show it.
use Rattle.std.specs.Prelude.{◌≡◌, ℕ, List, [], ◌∷◌, Option, decimal}
use Rattle.serde_json.specs.Data.{Data}
use Rattle.hippo_values.specs.Texts.{Txt}
use Rattle.hippo_model.specs.declared.entry.Act.{Act}
use Rattle.hippo_model.specs.declared.schema.Schema.{Schema}
use Rattle.hippo_policy.specs.Rulings.{ruling_of, opt_in_of}
use Rattle.hippo_history_statements.specs.Telling.{name_at}
use Rattle.hippo_history_formats.specs.declared.rulings.ColumnRule.{ColumnRule}
use Rattle.hippo_history_formats.specs.declared.told.Shown.{Shown}
use Rattle.hippo_history_formats.specs.declared.told.Told.{Told}
use Rattle.hippo_history_formats.specs.declared.told.Told.TheVariants.{Asked, Made}
use Rattle.hippo_history_formats.specs.Formats.{statement_data, question_data, entry_data, entry_fields, rule_data, rule_fields}

-- the object: a question with its asker, or a statement
abbrev pub told_data : ℕ → Txt → Told → Data
told_data entry moment (Asked question) =
    question_data entry moment question.user.now question.purpose.now question.recipient.now
    question.text.now
told_data entry moment (Made statement) = statement_data entry moment statement

abbrev pub shown_data : Shown → Data
shown_data shown = told_data shown.entry shown.moment shown.told

-- the fields; those of the asker are empty if nobody asks
abbrev pub told_fields : Told → List Txt
told_fields (Asked question) =
    question.user.now ∷ question.purpose.now ∷ question.recipient.now ∷ question.text.now ∷ []
told_fields (Made statement) = [] ∷ [] ∷ [] ∷ statement ∷ []

abbrev pub shown_fields : Shown → List Txt
shown_fields shown = decimal shown.entry ∷ shown.moment ∷ told_fields shown.told

-- what is shown of the entry with this number, moment and act
pub record Shows (schema : Option Schema) (entry : ℕ) (moment : Txt) (act : Act) (shown : Shown)
    : Type 0 where
  pub object : shown_data shown ≡ entry_data schema entry moment act
  pub fields : shown_fields shown ≡ entry_fields schema entry moment act

-- the rule of a column, with the moment of its entry
abbrev pub column_data : ColumnRule → Option Txt → Data
column_data rule moment =
    rule_data rule.purpose.now rule.recipient.now rule.schema.now.name
    (name_at rule.schema.now.columns rule.place) (ruling_of rule.ruling) moment
    (opt_in_of rule.ruling)

abbrev pub column_fields : ColumnRule → Option Txt → List Txt
column_fields rule moment =
    rule_fields rule.purpose.now rule.recipient.now rule.schema.now.name
    (name_at rule.schema.now.columns rule.place) (ruling_of rule.ruling) moment
    (opt_in_of rule.ruling)
