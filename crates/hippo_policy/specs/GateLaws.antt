-- Laws of the rules in force.
use Rattle.std.specs.Prelude.{◌≡◌, ◌<◌, length}
use Rattle.hippo_model.specs.declared.born_row.BornRow.{BornRow}
use Rattle.hippo_model.specs.declared.schema.Schema.{Schema}
use Rattle.hippo_model.specs.Terms.{History, Place}
use Rattle.hippo_model.specs.Rules.{choice_at}
use Rattle.hippo_model.specs.Verdicts.{Context, verdict}
use Rattle.hippo_policy.specs.Gates.{table_rules, rules_verdict}

-- the gate of a column decides as the verdict on the column's cell does, in every row, whenever the
-- row was born
abbrev pub GatesMatchVerdicts : Type 0
GatesMatchVerdicts =
    (history : History) (context : Context) (schema : Schema) (kept : BornRow) (column : Place)
    → column < length schema.columns
    → rules_verdict (choice_at history) (table_rules history context schema) kept column
    ≡ verdict history context schema kept column
