-- Audits of one table that ask for a patient's rows, or for the row with a key.
use Rattle.std.specs.Prelude.{false, List, [], ◌∷◌, map}
use Rattle.hippo_values.specs.declared.moments.Moment.{Moment}
use Rattle.hippo_values.specs.declared.names.Name.{Name}
use Rattle.hippo_values.specs.declared.truths.CompareOp.TheVariants.{Eq}
use Rattle.hippo_values.specs.declared.values.Value.{Value}
use Rattle.hippo_values.specs.declared.values.Value.TheVariants.{Null, Int, Text, Day}
use Rattle.hippo_model.specs.declared.audit.Audit.{Audit}
use Rattle.hippo_model.specs.declared.query.CondOf.{CondOf}
use Rattle.hippo_model.specs.declared.query.CondOf.TheVariants.{All, Compare, Missing}
use Rattle.hippo_model.specs.declared.query.Operand.{Operand}
use Rattle.hippo_model.specs.declared.query.Operand.TheVariants.{Column, Literal}
use Rattle.hippo_model.specs.declared.query.Ref.{Ref}
use Rattle.hippo_model.specs.Rows.{cell_at}
use Rattle.hippo_model.specs.Terms.{Row, Place}

-- a column of the only table of a statement
abbrev pub own_column : Place → Ref
own_column column = record { table = 0; column = column }

-- that a column has a value
abbrev pub column_is : Place → Value → CondOf Operand
column_is column Null = Missing (Column (own_column column))
column_is column (Int number) = Compare Eq (Column (own_column column)) (Literal (Int number))
column_is column (Text text) = Compare Eq (Column (own_column column)) (Literal (Text text))
column_is column (Day day) = Compare Eq (Column (own_column column)) (Literal (Day day))

-- that the key's columns have the values of a row
abbrev pub key_is : List Place → Row → CondOf Operand
key_is key row = All (map (λ place. column_is place (cell_at row place)) key)

-- an audit of the rows of a table for which a condition is true, and of some of its columns
abbrev pub audit_of_rows : Name → Moment → List Ref → CondOf Operand → Audit
audit_of_rows table moment columns condition = record {
  from = moment;
  to = moment;
  exempt = [];
  shown = false;
  columns = columns;
  tables = table ∷ [];
  cond = condition;
}
