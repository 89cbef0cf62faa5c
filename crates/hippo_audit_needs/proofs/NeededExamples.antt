-- The first tuple that queries of each form need, computed on a small table. Each example is named
-- by what it shows.
use Rattle.std.proofs.Common.{◌≡◌, ℕ, ℤ, pos, List, [], ◌∷◌, map, Option, Some, None, false, codes}
use Rattle.hippo_values.specs.declared.values.Value.TheVariants.{Int, Text}
use Rattle.hippo_values.specs.declared.names.Name.{Name}
use Rattle.hippo_values.specs.declared.truths.CompareOp.TheVariants.{Eq}
use Rattle.hippo_values.specs.Moments.{first_moment, last_moment}
use Rattle.hippo_model.specs.declared.audit.Audit.{Audit}
use Rattle.hippo_model.specs.declared.audit.SharedRow.{SharedRow}
use Rattle.hippo_model.specs.declared.born_row.BornRow.{BornRow}
use Rattle.hippo_model.specs.declared.query.CondOf.TheVariants.{All, Compare}
use Rattle.hippo_model.specs.declared.query.Expr.TheVariants.{Keep}
use Rattle.hippo_model.specs.declared.query.Form.{Form}
use Rattle.hippo_model.specs.declared.query.Form.TheVariants.{Plain, Distinct, Grouped}
use Rattle.hippo_model.specs.declared.query.Masked.{Masked}
use Rattle.hippo_model.specs.declared.query.Operand.TheVariants.{Column as ColumnOperand, Literal}
use Rattle.hippo_model.specs.declared.query.Out.{Out}
use Rattle.hippo_model.specs.declared.query.Out.TheVariants.{Column, Min, Max}
use Rattle.hippo_model.specs.declared.query.Ref.{Ref}
use Rattle.hippo_tables_keyed.specs.RowSets.{KeyedRows}
use Rattle.hippo_model.specs.Masking.{Choices}
use Rattle.hippo_model.proofs.Truths.{truths}
use Rattle.hippo_audit_search.specs.Needs.{first_needed}

abbrev visit : Name
visit = codes "visit"

abbrev at : ℕ → Ref
at column = record { table = 0; column = column }

-- a visit's number, its patient, and the ward
abbrev visit_of : ℤ → ℤ → List ℕ → BornRow
visit_of number patient ward = record { row = Int number ∷ Int patient ∷ Text ward ∷ []; born = first_moment }

abbrev visits : KeyedRows
visits = record {
  key = 0 ∷ [];
  rows = visit_of (pos 11) (pos 1) (codes "north") ∷ visit_of (pos 12) (pos 1) (codes "south") ∷ visit_of (pos 13) (pos 2) (codes "south") ∷ [];
}

-- a query of each visit
abbrev of_visits : List Ref → Masked
of_visits items = record { items = map Keep items; tables = visit ∷ []; guards = []; cond = All [] }

-- an audit of the visits to one ward
abbrev southern : Audit
southern = record { from = first_moment; to = last_moment; exempt = []; shown = false; columns = []; tables = visit ∷ []; cond = Compare Eq (ColumnOperand (at 2)) (Literal (Text (codes "south"))) }

abbrev silent : Choices
silent number item = None

-- the first visit to the ward that a query with this select list and form needs
abbrev first_of : List Ref → Form → Option (List SharedRow)
first_of items form = first_needed silent (of_visits items) form southern [] (visits ∷ []) (visits ∷ [])

abbrev by_ward : Out → Form
by_ward out = Grouped (record { keys = 1; outs = Column 0 ∷ out ∷ [] })

abbrev visit_with : ℤ → Option (List SharedRow)
visit_with number = Some (record { table = visit; key = Int number ∷ [] } ∷ [])

plain_query_needs_each_of_two_equal_rows : first_of (at 2 ∷ []) Plain ≡ visit_with (pos 12)
plain_query_needs_each_of_two_equal_rows = simp truths

distinct_query_needs_neither_of_two_equal_rows : first_of (at 2 ∷ []) Distinct ≡ None
distinct_query_needs_neither_of_two_equal_rows = simp truths

distinct_query_needs_what_differs : first_of (at 2 ∷ at 1 ∷ []) Distinct ≡ visit_with (pos 12)
distinct_query_needs_what_differs = simp truths

least_needs_the_visit_that_has_it : first_of (at 2 ∷ at 1 ∷ []) (by_ward (Min 1)) ≡ visit_with (pos 12)
least_needs_the_visit_that_has_it = simp truths

greatest_needs_the_visit_that_has_it : first_of (at 2 ∷ at 1 ∷ []) (by_ward (Max 1)) ≡ visit_with (pos 13)
greatest_needs_the_visit_that_has_it = simp truths
