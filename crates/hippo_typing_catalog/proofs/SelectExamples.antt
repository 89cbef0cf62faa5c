-- Selects with several faults at once, and what some selects mean.
use Rattle.std.proofs.Common.{◌≡◌, ℕ, pos, false, List, [], ◌∷◌, Option, Some, None, refl, codes, replicate}
use Rattle.std.specs.Prelude.{slice_get}
use Rattle.hippo_values.specs.declared.names.Name.{Name}
use Rattle.hippo_values.specs.declared.values.Value.TheVariants.{Null, Int, Text}
use Rattle.hippo_values.specs.declared.truths.CompareOp.TheVariants.{Eq}
use Rattle.hippo_model.specs.declared.name_fault.NameFault.{NameFault}
use Rattle.hippo_model.specs.declared.name_fault.NameFault.TheVariants.{UnknownTable, UnknownColumn, AmbiguousColumn, RepeatedName, NotGrouped, TypeMismatch, BadText, TooManyParts}
use Rattle.hippo_model.specs.declared.query.CondOf.{CondOf}
use Rattle.hippo_model.specs.declared.query.CondOf.TheVariants.{All, Compare, Among}
use Rattle.hippo_model.specs.declared.query.Form.TheVariants as meant
use Rattle.hippo_model.specs.declared.query.Operand.TheVariants as operands
use Rattle.hippo_model.specs.declared.query.Out.TheVariants as shown
use Rattle.hippo_model.specs.declared.query.Ref.{Ref}
use Rattle.hippo_model.specs.declared.schema.Column.{Column}
use Rattle.hippo_model.specs.declared.schema.ColumnKind.{ColumnKind}
use Rattle.hippo_model.specs.declared.schema.ColumnKind.TheVariants.{Integer, Text as TextColumn}
use Rattle.hippo_model.specs.declared.schema.Schema.{Schema}
use Rattle.hippo_stmt_ast.specs.declared.statement.RawColumn.{RawColumn}
use Rattle.hippo_stmt_ast.specs.declared.statement.RawForm.TheVariants.{Plain, Grouped}
use Rattle.hippo_stmt_ast.specs.declared.statement.RawItem.{RawItem}
use Rattle.hippo_stmt_ast.specs.declared.statement.RawItem.TheVariants as items
use Rattle.hippo_stmt_ast.specs.declared.statement.RawOperand.{RawOperand}
use Rattle.hippo_stmt_ast.specs.declared.statement.RawOperand.TheVariants.{Column as WrittenColumn, Literal}
use Rattle.hippo_stmt_ast.specs.declared.statement.RawOut.{RawOut}
use Rattle.hippo_stmt_ast.specs.declared.statement.RawOut.TheVariants as outs
use Rattle.hippo_stmt_ast.specs.declared.statement.RawSelect.{RawSelect}
use Rattle.hippo_typing_catalog.specs.Catalogs.{KnownNames}
use Rattle.hippo_typing_catalog.specs.Selects.{select_refused, query_of}
use Rattle.hippo_model.proofs.FoldedConditions.{folded_conditions}

abbrev patient : Name
patient = codes "patient"

abbrev visit : Name
visit = codes "visit"

abbrev pid : Name
pid = codes "pid"

abbrev name : Name
name = codes "name"

abbrev day : Name
day = codes "day"

abbrev column : Name → ColumnKind → Column
column written kind = record { name = written; kind = kind; not_null = false }

-- patient (pid INTEGER, name TEXT) and visit (pid INTEGER, day INTEGER)
abbrev known : KnownNames
known =
    let patients : Schema = record { name = patient; columns = column pid Integer ∷ column name TextColumn ∷ []; key = 0 ∷ []; subject = Some 0 } in
    let visits : Schema = record { name = visit; columns = column pid Integer ∷ column day Integer ∷ []; key = 0 ∷ 1 ∷ []; subject = None } in
    record { tables = (patient, patients) ∷ (visit, visits) ∷ []; purposes = []; recipients = []; items = [] }

abbrev bare : Name → RawColumn
bare written = record { table = None; column = written }

abbrev of_table : Name → Name → RawColumn
of_table table written = record { table = Some table; column = written }

abbrev no_condition : CondOf RawOperand
no_condition = All []

abbrev equal : RawOperand → RawOperand → CondOf RawOperand
equal left right = All (Compare Eq left right ∷ [])

abbrev plain : List RawItem → List Name → CondOf RawOperand → RawSelect
plain listed tables cond = record { items = listed; tables = tables; cond = cond; form = Plain }

abbrev grouped : List RawOut → List RawColumn → RawSelect
grouped listed by = record { items = []; tables = patient ∷ visit ∷ []; cond = no_condition; form = Grouped listed by }

abbrev first_refusal : RawSelect → Option NameFault
first_refusal select = slice_get (select_refused known select) 0

abbrev reference : ℕ → ℕ → Ref
reference table place = record { table = table; column = place }

-- SELECT nothing FROM patient, nowhere, nobody, patient: an unknown table comes first, and of two
-- the first one
unknown_table_first : first_refusal (plain (items.One (bare (codes "nothing")) ∷ []) (patient ∷ codes "nowhere" ∷ codes "nobody" ∷ patient ∷ []) no_condition) ≡ Some (UnknownTable (codes "nowhere"))
unknown_table_first = refl

-- SELECT nothing FROM visit, patient, patient, visit: the first name that repeats one before it
repeated_before_columns : first_refusal (plain (items.One (bare (codes "nothing")) ∷ []) (visit ∷ patient ∷ patient ∷ visit ∷ []) no_condition) ≡ Some (RepeatedName patient)
repeated_before_columns = refl

-- SELECT pid FROM patient, visit
ambiguous : first_refusal (plain (items.One (bare pid) ∷ []) (patient ∷ visit ∷ []) no_condition) ≡ Some (AmbiguousColumn pid)
ambiguous = refl

-- SELECT visit.pid FROM patient: a column whose qualifier is not in the statement is an unknown
-- column
unknown_qualifier : first_refusal (plain (items.One (of_table visit pid) ∷ []) (patient ∷ []) no_condition) ≡ Some (UnknownColumn (codes "visit.pid"))
unknown_qualifier = refl

-- SELECT visit.*, pid FROM patient
unknown_star : first_refusal (plain (items.AllOf visit ∷ items.One (bare pid) ∷ []) (patient ∷ []) no_condition) ≡ Some (UnknownColumn (codes "visit.*"))
unknown_star = refl

-- SELECT pid, MIN(day) FROM patient, visit GROUP BY name: an ambiguous column is reported before
-- one that is not grouped
ambiguous_before_groups : first_refusal (grouped (outs.Column (bare pid) ∷ outs.Min (bare day) ∷ []) (bare name ∷ [])) ≡ Some (AmbiguousColumn pid)
ambiguous_before_groups = refl

-- SELECT name, day FROM patient, visit GROUP BY name
shown_but_not_grouped : first_refusal (grouped (outs.Column (bare name) ∷ outs.Column (bare day) ∷ []) (bare name ∷ [])) ≡ Some (NotGrouped day)
shown_but_not_grouped = simp folded_conditions

-- SELECT patient.name FROM patient, visit GROUP BY name, day
grouped_but_not_shown : first_refusal (grouped (outs.Column (of_table patient name) ∷ []) (bare name ∷ bare day ∷ [])) ≡ Some (NotGrouped day)
grouped_but_not_shown = simp folded_conditions

-- SELECT pid FROM patient WHERE pid = 'x'
kinds_differ : first_refusal (plain (items.One (bare pid) ∷ []) (patient ∷ []) (equal (WrittenColumn (bare pid)) (Literal (Text (codes "x"))))) ≡ Some TypeMismatch
kinds_differ = simp folded_conditions

-- SELECT pid FROM patient WHERE name = 'TAB' AND pid = NULL: NULL has every kind, and a text may
-- not contain a tab
null_has_every_kind : first_refusal (plain (items.One (bare pid) ∷ []) (patient ∷ []) (All (Compare Eq (WrittenColumn (bare name)) (Literal (Text (9 ∷ []))) ∷ Compare Eq (WrittenColumn (bare pid)) (Literal Null) ∷ []))) ≡ Some BadText
null_has_every_kind = simp folded_conditions

-- SELECT pid FROM patient WHERE NULL IN (1, 'a'): all operands of IN are compared with one another
list_is_one_comparison : first_refusal (plain (items.One (bare pid) ∷ []) (patient ∷ []) (All (Among (Literal Null) (Literal (Int (pos 1)) ∷ Literal (Text (codes "a")) ∷ []) ∷ []))) ≡ Some TypeMismatch
list_is_one_comparison = simp folded_conditions

-- SELECT *, *, .. FROM patient, 129 times
too_many_items : first_refusal (plain (replicate 129 items.All) (patient ∷ []) no_condition) ≡ Some (TooManyParts 128)
too_many_items = simp folded_conditions

-- SELECT visit.*, name FROM patient, visit WHERE visit.pid = patient.pid
star_and_join : query_of known (plain (items.AllOf visit ∷ items.One (bare name) ∷ []) (patient ∷ visit ∷ []) (equal (WrittenColumn (of_table visit pid)) (WrittenColumn (of_table patient pid))))
    ≡ record {
      items = reference 1 0 ∷ reference 1 1 ∷ reference 0 1 ∷ [];
      tables = patient ∷ visit ∷ [];
      cond = All (Compare Eq (operands.Column (reference 1 0)) (operands.Column (reference 0 0)) ∷ []);
      form = meant.Plain;
    }
star_and_join = simp folded_conditions

-- SELECT MAX(day), name, MIN(day) FROM patient, visit GROUP BY patient.pid, name: the columns of GROUP BY come first
groups_and_arguments : query_of known (grouped (outs.Max (bare day) ∷ outs.Column (bare name) ∷ outs.Min (bare day) ∷ []) (of_table patient pid ∷ bare name ∷ []))
    ≡ record {
      items = reference 0 0 ∷ reference 0 1 ∷ reference 1 1 ∷ reference 1 1 ∷ [];
      tables = patient ∷ visit ∷ [];
      cond = All [];
      form = meant.Grouped (record { keys = 2; outs = shown.Max 2 ∷ shown.Column 1 ∷ shown.Min 3 ∷ [] });
    }
groups_and_arguments = simp folded_conditions
