-- Shared tuples, computed on small tables. Each example is named by what it shows.
use Rattle.std.proofs.Common.{◌≡◌, ℕ, ℤ, pos, int_le, List, [], ◌∷◌, Some, None, false, codes}
use Rattle.std.specs.Bool.{then_some}
use Rattle.hippo_values.specs.declared.values.Value.{Value}
use Rattle.hippo_values.specs.declared.values.Value.TheVariants.{Int, Text}
use Rattle.hippo_values.specs.declared.names.Name.{Name}
use Rattle.hippo_values.specs.declared.truths.CompareOp.TheVariants.{Eq}
use Rattle.hippo_values.specs.Moments.{first_moment, last_moment}
use Rattle.hippo_model.specs.declared.audit.Audit.{Audit}
use Rattle.hippo_model.specs.declared.audit.SharedRow.{SharedRow}
use Rattle.hippo_model.specs.declared.born_row.BornRow.{BornRow}
use Rattle.hippo_model.specs.declared.query.CondOf.{CondOf}
use Rattle.hippo_model.specs.declared.query.CondOf.TheVariants.{All, Compare}
use Rattle.hippo_model.specs.declared.query.Expr.{Expr}
use Rattle.hippo_model.specs.declared.query.Expr.TheVariants.{Keep, Case, Literal as LiteralExpr}
use Rattle.hippo_model.specs.declared.query.Masked.{Masked}
use Rattle.hippo_model.specs.declared.query.Operand.{Operand}
use Rattle.hippo_model.specs.declared.query.Operand.TheVariants.{Column, Literal}
use Rattle.hippo_model.specs.declared.query.Ref.{Ref}
use Rattle.hippo_tables_keyed.specs.RowSets.{KeyedRows}
use Rattle.hippo_model.specs.Masking.{Choices}
use Rattle.hippo_model.proofs.Truths.{truths}
use Rattle.hippo_audit_search.specs.Sharing.{first_shared}

abbrev patient : Name
patient = codes "patient"

abbrev visit : Name
visit = codes "visit"

abbrev born : List Value → BornRow
born row = record { row = row; born = first_moment }

abbrev patients : KeyedRows
patients = record {
  key = 0 ∷ [];
  rows = born (Int (pos 1) ∷ Text (codes "Ada") ∷ []) ∷ born (Int (pos 2) ∷ Text (codes "Bob") ∷ []) ∷ [];
}

-- a visit's number, its patient, and the ward
abbrev visits : KeyedRows
visits = record {
  key = 0 ∷ [];
  rows =
      born (Int (pos 11) ∷ Int (pos 1) ∷ Text (codes "north") ∷ []) ∷ born (Int (pos 12) ∷ Int (pos 1) ∷ Text (codes "south") ∷ [])
      ∷ born (Int (pos 13) ∷ Int (pos 2) ∷ Text (codes "south") ∷ []) ∷ [];
}

abbrev at : ℕ → ℕ → Ref
at table column = record { table = table; column = column }

-- a query of visits with their patients that meet a condition
abbrev visitors : CondOf Expr → Masked
visitors condition = record {
  items = [];
  tables = visit ∷ patient ∷ [];
  guards = [];
  cond = All (Compare Eq (Keep (at 0 1)) (Keep (at 1 0)) ∷ condition ∷ []);
}

abbrev always : CondOf Expr
always = All []

abbrev audit_of : List Name → CondOf Operand → Audit
audit_of tables condition = record { from = first_moment; to = last_moment; exempt = []; shown = false; columns = []; tables = tables; cond = condition }

-- an audit of patients with their visits to one ward
abbrev southern : Audit
southern = audit_of (patient ∷ visit ∷ []) (All (Compare Eq (Column (at 0 0)) (Column (at 1 1)) ∷ Compare Eq (Column (at 1 2)) (Literal (Text (codes "south"))) ∷ []))

abbrev silent : Choices
silent number item = None

-- the first patient said no, the others made no choice
abbrev refusing : Choices
refusing number item = then_some (int_le number (pos 1)) false

abbrev row_of : Name → ℤ → SharedRow
row_of table number = record { table = table; key = Int number ∷ [] }

first_in_the_audits_order : first_shared silent (visitors always) southern [] (visits ∷ patients ∷ []) (patients ∷ visits ∷ []) ≡ Some (row_of patient (pos 1) ∷ row_of visit (pos 12) ∷ [])
first_in_the_audits_order = simp truths

denied_cell_passes_to_the_next : first_shared refusing (visitors always) southern (Case (at 1 1) (at 1 0) (codes "mail") 9 false None ∷ []) (visits ∷ patients ∷ []) (patients ∷ visits ∷ [])
    ≡ Some (row_of patient (pos 2) ∷ row_of visit (pos 13) ∷ [])
denied_cell_passes_to_the_next = simp truths

each_side_has_a_row_of_its_own : first_shared silent (visitors (Compare Eq (Keep (at 0 2)) (LiteralExpr (Text (codes "north"))))) (audit_of (patient ∷ []) (All [])) [] (visits ∷ patients ∷ []) (patients ∷ [])
    ≡ Some (row_of patient (pos 1) ∷ [])
each_side_has_a_row_of_its_own = simp truths

one_row_of_each_table_is_not_enough : first_shared silent (visitors (Compare Eq (Keep (at 0 2)) (LiteralExpr (Text (codes "north"))))) southern [] (visits ∷ patients ∷ []) (patients ∷ visits ∷ []) ≡ None
one_row_of_each_table_is_not_enough = simp truths

no_common_table_gives_the_empty_tuple : first_shared silent (record { items = []; tables = visit ∷ []; guards = []; cond = All [] }) (audit_of (patient ∷ []) (All [])) [] (visits ∷ []) (patients ∷ []) ≡ Some []
no_common_table_gives_the_empty_tuple = simp truths
